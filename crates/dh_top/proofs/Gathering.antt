-- What the files of a batch come to together.
use Rattle.std.proofs.Common.{◌≡◌, ◌⊎◌, inl, inr, ℕ, suc, ◌+◌, ◌<◌, ◌≤◌, List, [], ◌∷◌, ◌++◌, map, Option, Some, None, IfSome, refl, sym, ap, ◌∙◌, subst, arith}
use Rattle.std.specs.Prelude.{Any, sum_by}
use Rattle.std.proofs.lemmas.List.Sums.{sum_by-cons}
use Rattle.dh_command.specs.declared.statuses.Status.{Status}
use Rattle.dh_command.specs.declared.statuses.Status.TheVariants as status
use Rattle.dh_command.specs.Answer.{FileAnswers, a_file, no_file, first_fault, unless_ok}
use Rattle.dh_command.specs.Responses.{Response}
use Rattle.dh_command.specs.Words.{Word}
use Rattle.dh_files.specs.FileWords.{file_text}
use Rattle.dh_imports.specs.Records.{Record}
use Rattle.dh_session.specs.Ended.{NoneFell, none_left, more_left}
use Rattle.dh_session.specs.Works.{AtLast}
use Rattle.dh_top.specs.declared.files.FileReply.{FileReply}
use Rattle.dh_top.specs.FileReplies.{AllSmall, IsServed, all_pairs, response_of}
use Rattle.dh_top.specs.Outside.{Pair, Sessions, Shelving, Telling, all_asks, all_failures, no_session, one_session}
use Rattle.dh_top.proofs.Devices.{other_status}
use Rattle.dh_top.proofs.Rounds.{Rounds, at_rest, a_round, Both, both_by_rounds, both_itself, both_turned, Has, has_last, has_on, last_has, sum, sum_turned}

-- ---- the status of several replies

-- the first fault is that of the first, or all is well there
pub fault_is : (s t u : Status) → unless_ok s t ≡ u → ((s ≡ status.Ok) × (t ≡ u)) ⊎ (s ≡ u)
fault_is status.Ok t u h = inl (refl, h)
fault_is status.Text t u h = inr h
fault_is status.Ill t u h = inr h
fault_is status.Import t u h = inr h
fault_is status.Limit t u h = inr h
fault_is status.Usage t u h = inr h
fault_is status.Read t u h = inr h
fault_is status.Write t u h = inr h
fault_is status.Desk t u h = inr h
fault_is status.Memory t u h = inr h
fault_is status.NoJson t u h = inr h
fault_is status.Step t u h = inr h

-- ---- counts

module _ {D : Type 0} (count : D → ℕ) where
  abbrev Last : D → Type 0
  Last d = AtLast (count d)

  abbrev Lasts : D → D → Type 0
  Lasts d e = AtLast (count d) → AtLast (count e)

  -- from one desk and the others, to all of them after a turn
  at_end : (d between d' : D) (ds ds' : List D) → (Has Last (ds ++ between ∷ []) → Has Last (ds' ++ d' ∷ [])) → Last between → Has Last (d' ∷ ds')
  at_end d between d' ds ds' on h = last_has Last ds' d' (on (has_last Last ds between (inl h)))

  -- a count of each desk that rose by at least so much
  rises : (n m : ℕ) (d between d' : D) (ds ds' : List D) → (Has Last (ds ++ between ∷ []) → Has Last (ds' ++ d' ∷ [])) → Last between ⊎ (n + count d ≤ count between)
      → Has Last (ds' ++ d' ∷ []) ⊎ (m + sum count (ds ++ between ∷ []) ≤ sum count (ds' ++ d' ∷ [])) → Has Last (d' ∷ ds') ⊎ (n + m + sum count (d ∷ ds) ≤ sum count (d' ∷ ds'))
  rises n m d between d' ds ds' on (inl h) k = inl (at_end d between d' ds ds' on h)
  rises n m d between d' ds ds' on (inr h) (inl k) = inl (last_has Last ds' d' k)
  rises n m d between d' ds ds' on (inr h) (inr k) = inr (let a = sum_turned count ds between in let b = sum_turned count ds' d' in omega (arith, h, k, a, b))

  -- or just so much
  gains : (n m : ℕ) (d between d' : D) (ds ds' : List D) → (Has Last (ds ++ between ∷ []) → Has Last (ds' ++ d' ∷ [])) → Last between ⊎ (count between ≡ count d + n)
      → Has Last (ds' ++ d' ∷ []) ⊎ (sum count (ds' ++ d' ∷ []) ≡ sum count (ds ++ between ∷ []) + m) → Has Last (d' ∷ ds') ⊎ (sum count (d' ∷ ds') ≡ sum count (d ∷ ds) + (n + m))
  gains n m d between d' ds ds' on (inl h) k = inl (at_end d between d' ds ds' on h)
  gains n m d between d' ds ds' on (inr h) (inl k) = inl (last_has Last ds' d' k)
  gains n m d between d' ds ds' on (inr h) (inr k) = inr (let a = sum_turned count ds between in let b = sum_turned count ds' d' in omega (arith, h, k, a, b))

  -- where it is known by how much, none fell from its last value
  abbrev pub Asked : List D → List D → ℕ → Type 0
  Asked ds es n = Both Lasts ds es × (Has Last es ⊎ (sum count es ≡ sum count ds + n))

  lasts_by : (n : ℕ) (d e : D) → Last e ⊎ (count e ≡ count d + n) → Lasts d e
  lasts_by n d e (inl h) k = h
  lasts_by n d e (inr h) k = omega (arith, h, k)

  asked_both : (asks others : Option ℕ) (d between d' : D) (ds ds' : List D) → IfSome asks (λ n. Last between ⊎ (count between ≡ count d + n))
      → IfSome others (Asked (ds ++ between ∷ []) (ds' ++ d' ∷ [])) → IfSome (all_asks asks others) (Asked (d ∷ ds) (d' ∷ ds'))
  asked_both None others d between d' ds ds' h k = tt
  asked_both (Some n) None d between d' ds ds' h k = tt
  asked_both (Some n) (Some m) d between d' ds ds' h (b, k) =
      let (last, rest) = both_turned Lasts between d' ds ds' b in
      ((λ x. last (lasts_by n d between h x), rest), gains n m d between d' ds ds' (has_on Last Lasts (λ x y f. f) (ds ++ between ∷ []) (ds' ++ d' ∷ []) b) h k)

-- ---- all files

-- what all files come to, at desks before and after
pub record AllServed (told : Telling) (shelved : Shelving) {D : Type 0} (asked faults : D → ℕ) (filed : D → Option (List Pair)) (before after : List D) (words : List Word)
    (replies : List FileReply) : Type 0 where
  pub found : List Record
  pub asks : Option ℕ
  pub sessions : Sessions told shelved (map file_text words) found asks (all_pairs replies)
  pub answers : FileAnswers words found (map response_of replies)
  pub device : first_fault (map response_of replies) ≡ status.Desk → 0 < all_failures found
  pub small : AllSmall replies
  pub asked_for : IfSome asks (Asked asked before after)
  pub failed : Has (λ d. AtLast (faults d)) after ⊎ (all_failures found + sum faults before ≤ sum faults after)
  pub rose : Both (λ d e. faults d ≤ faults e) before after
  pub kept : Both (λ d e. filed e ≡ filed d) before after

module _ (told : Telling) (shelved : Shelving) {D F : Type 0} (asked faults : D → ℕ) (filed : D → Option (List Pair)) (name : F → Word) where
  abbrev pub Serves : F → D → D → FileReply → Type 0
  Serves f d e a = IsServed told shelved asked faults filed (name f) d e a

  faults_rise : {ds es : List D} {fs : List F} {replies : List FileReply} → Rounds Serves ds es fs replies → Both (λ d e. faults d ≤ faults e) ds es
  faults_rise r = both_by_rounds (λ d e. faults d ≤ faults e) Serves (λ d. omega arith) (λ d e f h k. omega (arith, h, k)) (λ f d e a s. s.rose) r

  filed_stays : {ds es : List D} {fs : List F} {replies : List FileReply} → Rounds Serves ds es fs replies → Both (λ d e. filed e ≡ filed d) ds es
  filed_stays r = both_by_rounds (λ d e. filed e ≡ filed d) Serves (λ d. refl) (λ d e f h k. k ∙ h) (λ f d e a s. s.kept) r

  device_first : (w : Status) (rest : Status) (n m : ℕ) → (w ≡ status.Desk → 0 < n) → (rest ≡ status.Desk → 0 < m) → unless_ok w rest ≡ status.Desk → 0 < n + m
  device_first w rest n m one more h = elim (fault_is w rest status.Desk h) [
    | inl k ↦ let q = more k.1 in omega (arith, q)
    | inr k ↦ let q = one k in omega (arith, q)
  ]

  pub gathered : {ds es : List D} {fs : List F} {replies : List FileReply} → Rounds Serves ds es fs replies → AllServed told shelved asked faults filed ds es (map name fs) replies
  gathered (at_rest {ds = ds}) = record {
    found = [];
    asks = Some 0;
    sessions = no_session;
    answers = no_file;
    device = λ h. other_status status.Ok status.Desk h (λ n. omega (arith, n));
    small = tt;
    asked_for = (both_itself (λ d e. AtLast (asked d) → AtLast (asked e)) (λ d h. h) ds, inr (omega arith));
    failed = inr (omega arith);
    rose = both_itself (λ d e. faults d ≤ faults e) (λ d. omega arith) ds;
    kept = both_itself (λ d e. filed e ≡ filed d) (λ d. refl) ds;
  }
  gathered (a_round {d = d} {between = between} {d' = d'} {ds = ds} {ds' = ds'} {a = a} r rest) =
      let g = gathered rest in
      let up = faults_rise rest in
      record {
        found = r.found ∷ g.found;
        asks = all_asks r.asks g.asks;
        sessions = one_session r.tried g.sessions;
        answers = a_file r.answer g.answers;
        device = device_first (response_of a).status _ _ _ r.device g.device;
        small = (r.small, g.small);
        asked_for = asked_both asked r.asks g.asks d between d' ds ds' r.asked_for g.asked_for;
        failed = rises faults _ _ d between d' ds ds'
            (has_on (λ x. AtLast (faults x)) (λ x y. faults x ≤ faults y) (λ x y h k. omega (arith, h, k)) (ds ++ between ∷ []) (ds' ++ d' ∷ []) up) r.failed g.failed;
        rose = faults_rise (a_round r rest);
        kept = filed_stays (a_round r rest);
      }

-- ---- in the words of the statements

pub none_fell : {D : Type 0} (count : D → ℕ) (ds es : List D) → Both (λ d e. count d ≤ count e) ds es → NoneFell (map count ds) (map count es)
none_fell count [] [] b = none_left
none_fell count [] (e ∷ es) b = absurd b
none_fell count (d ∷ ds) [] b = absurd b
none_fell count (d ∷ ds) (e ∷ es) (h, b) = more_left h (none_fell count ds es b)

pub same_filed : {D A : Type 0} (f : D → A) (ds es : List D) → Both (λ d e. f e ≡ f d) ds es → map f es ≡ map f ds
same_filed f [] [] b = refl
same_filed f [] (e ∷ es) b = absurd b
same_filed f (d ∷ ds) [] b = absurd b
same_filed f (d ∷ ds) (e ∷ es) (h, b) = ap (λ x. x ∷ map f es) h ∙ ap (λ xs. f d ∷ xs) (same_filed f ds es b)

pub sum_is : {D : Type 0} (count : D → ℕ) (ds : List D) → sum count ds ≡ sum_by count ds
sum_is count [] = refl
sum_is count (d ∷ ds) = let k = sum_is count ds in ap (λ n. count d + n) k ∙ sym (sum_by-cons count d ds)

pub has_any : {D : Type 0} (P : D → Type 0) (ds : List D) → Has P ds → Any P ds
has_any P [] h = absurd h
has_any P (d ∷ ds) (inl h) = (0, d, omega arith, refl, h)
has_any P (d ∷ ds) (inr h) = let r = has_any P ds h in (suc r.0, r.1, (let l = r.2 in omega arith), r.3, r.4)
