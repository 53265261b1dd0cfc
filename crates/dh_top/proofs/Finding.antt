-- What a run found by its desks.
use Rattle.std.proofs.Common.{◌≡◌, ◌⊎◌, inl, inr, ℕ, zero, suc, ◌+◌, ◌-◌, ◌^◌, ◌≤◌, ◌<◌, List, [], ◌∷◌, ◌++◌, map, reverse, Bool, true, false, Option, Some, None, IfSome, Result, Ok, Err, refl, sym, ap, ◌∙◌, subst, arith}
use Rattle.std.specs.Prelude.{All, Any, cond, count_by, sum_by}
use Rattle.std.proofs.lemmas.List.Elements.{All-head, All-tail}
use Rattle.std.proofs.lemmas.List.Sums.{sum_by-append, sum_by-cons}
use Rattle.dh_syntax.specs.declared.faults.ParseFault.{ParseFault}
use Rattle.dh_syntax.specs.declared.locations.Digest.{Digest}
use Rattle.dh_syntax.specs.declared.locations.Key.{Key}
use Rattle.dh_syntax.specs.declared.locations.Loc.{Loc}
use Rattle.dh_imports.specs.declared.outcomes.Why.{Why}
use Rattle.dh_syntax.specs.Expressions.SameTree.{digest_eq, loc_eq}
use Rattle.dh_syntax.specs.Expressions.Tree.{Term}
use Rattle.dh_imports.specs.LastStep.{Code, own}
use Rattle.dh_imports.specs.Machine.{IsAmong, Event, State, Task, after_all, outcome_of, stage_of}
use Rattle.dh_imports.specs.Outcomes.{Outcome}
use Rattle.dh_imports.specs.Readings.{AreOutcomes}
use Rattle.dh_imports.specs.Records as found
use Rattle.dh_imports.specs.Records.{Noted, Seen, IsGood, IsLimitOf, text_at, look_at, limit_at}
use Rattle.dh_imports.specs.Resolver.{Has, Resolves}
use Rattle.dh_syntax.specs.Text.Spelling.{ParsesTo}
use Rattle.dh_import_laws.proofs.Facts.{texts_are_parsed, entries_are_good, limits_are_licensed}
use Rattle.dh_import_laws.proofs.Laws.{outcomes_are_resolved}
use Rattle.dh_import_laws.proofs.OnceRecorded.{texts_are_recorded_once, looks_are_recorded_once}
use Rattle.dh_ports.specs.Desks.{Tells, shown}
use Rattle.dh_ports.specs.declared.worlds.Got.{Got}
use Rattle.dh_ports.specs.declared.worlds.Got.TheVariants as gots
use Rattle.dh_record.proofs.Latest.{reverse-cons}
use Rattle.dh_record.specs.declared.entries.Seen as program_seen
use Rattle.dh_record.specs.declared.entries.Seen.TheVariants as seens
use Rattle.dh_record.specs.declared.news.Noted as program
use Rattle.dh_record.specs.declared.news.Noted.TheVariants as noteds
use Rattle.dh_record.specs.declared.rows.recorded.Look.{Look}
use Rattle.dh_record.specs.declared.rows.recorded.Text.{Text}
use Rattle.dh_record.specs.Brought.{IsTold, IsShelved, AreTold, AreShelved}
use Rattle.dh_table.specs.Calls.{failures}
use Rattle.dh_table.specs.Shown.{Shown}
use Rattle.dh_table.specs.States.{IsReplayed, step_by, record_of, state_of}
use Rattle.dh_record.specs.Rows.{noted_by, scanned, seen_by, text_of, look_of}
use Rattle.dh_session.specs.Ended.{AsksAll, FailsAll, NoneFell, none_left, more_left}
use Rattle.dh_shared.specs.Counting as counting
use Rattle.dh_syntax.specs.Expressions.Bridge.{term}
use Rattle.dh_imports.specs.Machine as machine
use Rattle.dh_imports.specs.Replay as replay
use Rattle.dh_record.specs.declared.kinds.Kind.TheVariants as kinds
use Rattle.dh_table.specs.declared.steps.Step.{Step}
use Rattle.dh_table.specs.declared.steps.Step.TheVariants as steps
use Rattle.dh_record.specs.declared.rows.recorded.Entrant.{Entrant}
use Rattle.dh_session.specs.Works.{AtLast}
use Rattle.dh_top.specs.Outside.{Pair, Shelving, Telling, got_of, IsTextTold, IsSeenOf, IsLookTold, IsLimitLicensed, IsFound, is_fetch_claim, total}

-- ---- what is recorded is what was told

among_append : {A : Type 0} (xs ys : List A) (y : A) → IsAmong y (xs ++ ys) → IsAmong y xs ⊎ IsAmong y ys
among_append [] ys y m = inr m
among_append (x ∷ xs) ys y (inl e) = inl (inl e)
among_append (x ∷ xs) ys y (inr m) = under (among_append xs ys y m)
  where
    under : IsAmong y xs ⊎ IsAmong y ys → IsAmong y (x ∷ xs) ⊎ IsAmong y ys
    under (inl h) = inl (inr h)
    under (inr h) = inr h

one_more : {A B : Type 0} (f : A → B) (Q : B → Type 0) (x : A) (y : B) (before : List B) → Q (f x) → (IsAmong y before → Q y) → IsAmong y before ⊎ IsAmong y (f x ∷ []) → Q y
one_more f Q x y before q rest (inl m) = rest m
one_more f Q x y before q rest (inr (inl e)) = subst Q e q
one_more f Q x y before q rest (inr (inr m)) = absurd m

all_recorded : {A B : Type 0} (f : A → B) (P : A → Type 0) (Q : B → Type 0) → ((a : A) → P a → Q (f a)) → (xs : List A) → All P xs → (y : B) → IsAmong y (reverse (map f xs)) → Q y
all_recorded f P Q h [] all y m = absurd m
all_recorded f P Q h (x ∷ xs) all y m =
    one_more f Q x y (reverse (map f xs)) (h x (All-head P x xs all)) (all_recorded f P Q h xs (All-tail P x xs all) y) (among_append (reverse (map f xs)) (f x ∷ []) y (subst (IsAmong y) (reverse-cons f x xs) m))

noted_told : (told : Option Got) (got : program.Noted) (read : Option (Result Term ParseFault)) → IsTold told got → IfSome (got_of (noted_by got read)) (Tells told)
noted_told told (noteds.Got (gots.Found f)) (Some p) h = h
noted_told told (noteds.Got (gots.Found f)) None h = tt
noted_told told (noteds.Got gots.Absent) read h = h
noted_told told (noteds.Got (gots.Broken n)) read h = h
noted_told told noteds.Failed read h = tt

seen_told : (d : Digest) (entry : Option (Option (List ℕ))) (look : program_seen.Seen) → IsShelved d entry look → IfSome entry (λ e. IsSeenOf d (shown e) (seen_by look))
seen_told d None look h = tt
seen_told d (Some e) (seens.Good g) h = h
seen_told d (Some e) seens.Miss h = h
seen_told d (Some e) seens.Failed h = tt

-- ---- counts of faults

pub total_map : {D : Type 0} (f : D → ℕ) (ds : List D) → total (map f ds) ≡ sum_by f ds
total_map f [] = refl
total_map f (d ∷ ds) = sum_by-cons (λ n. n) (f d) (map f ds) ∙ (ap (λ n. f d + n) (total_map f ds) ∙ sym (sum_by-cons f d ds))

pub last_map : {D : Type 0} (f : D → ℕ) (ds : List D) → Any (λ d. AtLast (f d)) ds → Any AtLast (map f ds)
last_map f [] (i, x, lt, is, p) = absurd (omega (arith, lt))
last_map f (d ∷ ds) (zero, x, lt, is, p) = (0, f d, omega arith, refl, subst (λ y. AtLast (f y)) (sym is) p)
last_map f (d ∷ ds) (suc i, x, lt, is, p) =
    let r = last_map f ds (i, x, (omega (arith, lt)), is, p) in (suc r.0, r.1, (let l = r.2 in omega arith), r.3, r.4)

pub none_fell_itself : (ns : List ℕ) → NoneFell ns ns
none_fell_itself [] = none_left
none_fell_itself (n ∷ ns) = more_left (omega arith) (none_fell_itself ns)

-- where no count fell, the sum did not
rise_total : {ms ns : List ℕ} → NoneFell ms ns → total ms ≤ total ns
rise_total none_left = omega arith
rise_total (more_left {m = m} {n = n} {ms = ms} {ns = ns} h r) =
    let t = rise_total r in omega (arith, h, t, sum_by-cons (λ n. n) m ms, sum_by-cons (λ n. n) n ns)

pub rise_last : {ms ns : List ℕ} → NoneFell ms ns → Any AtLast ms → Any AtLast ns
rise_last none_left h = h
rise_last (more_left {n = n} up r) (zero, x, lt, is, p) = (0, n, omega arith, refl, omega (arith, up, is, p))
rise_last (more_left {n = n} up r) (suc i, x, lt, is, p) =
    let t = rise_last r (i, x, (omega (arith, lt)), is, p) in (suc t.0, t.1, (let l = t.2 in omega arith), t.3, t.4)

fails_on : (n : ℕ) (b m a : List ℕ) → NoneFell m a → Any AtLast m ⊎ (n + total b ≤ total m) → Any AtLast a ⊎ (n + total b ≤ total a)
fails_on n b m a r (inl h) = inl (rise_last r h)
fails_on n b m a r (inr h) = inr (let t = rise_total r in omega (arith, h, t))

pub mapped : {D : Type 0} (faults : D → ℕ) (n : ℕ) (before mid : List D) → Any (λ d. AtLast (faults d)) mid ⊎ (n + sum_by faults before ≤ sum_by faults mid)
    → Any AtLast (map faults mid) ⊎ (n + total (map faults before) ≤ total (map faults mid))
mapped faults n before mid (inl h) = inl (last_map faults mid h)
mapped faults n before mid (inr h) = inr (let b = total_map faults before in let m = total_map faults mid in omega (arith, h, b, m))

-- ---- the record of a closed table

-- the limit of a key in a state
abbrev LimitAt : State → Key → Why → Type 0
LimitAt s k w = (e : Term) × (allow : Option (List ℕ)) × (stage_of s k ≡ Has (Code e allow)) × IsLimitOf e w × (outcome_of s k ≡ Some (own k w))

licensed_at : (s : State) (k : Key) (w : Why) → AreOutcomes s.recorded (outcome_of s) → LimitAt s k w → IsLimitLicensed s.recorded k w
licensed_at s k w asks (e, allow, due, licensed, known) = record { ask = outcome_of s; asks = asks; code = e; allow = allow; due = due; licensed = licensed }

pub found_by : (told : Telling) (shelved : Shelving) (t : Shown) → AreTold told t.texts → AreShelved shelved t.looks → IsReplayed t → IsFound told shelved (record_of t)
found_by told shelved t texts looks r = record {
  one_text = λ l. subst (λ s. count_by (λ (x : Loc × Noted). loc_eq x.0 l) s.recorded.texts ≤ 1) r.state_is (texts_are_recorded_once (state_of t).root r.events l r.lawful);
  one_look = λ d. subst (λ s. count_by (λ (x : Digest × Seen). digest_eq x.0 d) s.recorded.looks ≤ 1) r.state_is (looks_are_recorded_once (state_of t).root r.events d r.lawful);
  texts = all_recorded text_of (λ (x : Text). IsTold (told x.loc) x.got) (IsTextTold told) (λ x h. noted_told (told x.loc) x.got (scanned x.read) h) t.texts texts;
  looks = all_recorded look_of (λ (x : Look). IsShelved x.digest (shelved x.digest) x.look) (IsLookTold shelved) (λ x h. seen_told x.digest (shelved x.digest) x.look h) t.looks looks;
  parsed = λ l bytes allow p h.
      texts_are_parsed (state_of t).root r.events l (found.Found bytes allow p) r.lawful (subst (λ s. text_at s.recorded l ≡ Some (found.Found bytes allow p)) (sym r.state_is) h);
  good = λ d look h. entries_are_good (state_of t).root r.events d look r.lawful (subst (λ s. look_at s.recorded d ≡ Some look) (sym r.state_is) h);
  limits = λ k w h. limit_of_key k w (limits_are_licensed (state_of t).root r.events k w r.lawful (subst (λ s. limit_at s.recorded k ≡ Some w) (sym r.state_is) h));
}
  where
    resolved : (k : Key) (x : Outcome) → outcome_of (state_of t) k ≡ Some x → Resolves (record_of t) k x
    resolved k x h =
        subst (λ s. Resolves s.recorded k x) r.state_is
        (outcomes_are_resolved (state_of t).root r.events k x r.lawful (subst (λ s. outcome_of s k ≡ Some x) (sym r.state_is) h))

    limit_of_key : (k : Key) (w : Why) → LimitAt (after_all (state_of t).root r.events) k w → IsLimitLicensed (record_of t) k w
    limit_of_key k w l = licensed_at (state_of t) k w resolved (subst (λ s. LimitAt s k w) r.state_is l)

-- failures of calls before entries are kept, as faults after that
pub failed_by : {D : Type 0} (faults : D → ℕ) (n : ℕ) (before mid after : List D) → Any (λ d. AtLast (faults d)) mid ⊎ (n + sum_by faults before ≤ sum_by faults mid)
    → NoneFell (map faults mid) (map faults after) → Any AtLast (map faults after) ⊎ (n + total (map faults before) ≤ total (map faults after))
failed_by faults n before mid after fails rise = fails_on n (map faults before) (map faults mid) (map faults after) rise (mapped faults n before mid fails)

-- ---- how it was found

-- the same step, in the table's history and in the machine's
abbrev fetch_step : replay.Step → Bool
fetch_step (replay.Claim w replay.fetching n) = true
fetch_step _ = false

step_same : (ks : List Entrant) (s : Step) → fetch_step (step_by ks s) ≡ counting.is_fetch_claim s
step_same ks (steps.Claim w kinds.Fetch n) = refl
step_same ks (steps.Claim w kinds.Look n) = refl
step_same ks (steps.Claim w kinds.Finish n) = refl
step_same ks (steps.Release n) = refl
step_same ks (steps.Fetched n) = refl
step_same ks (steps.Looked n) = refl
step_same ks (steps.Finished n) = refl
step_same ks (steps.Late n) = refl
step_same ks (steps.Cycled k) = refl

event_same : (drawn : List Task) (e : Event) → fetch_step (replay.step_of drawn e) ≡ is_fetch_claim e
event_same drawn (machine.Claim w (machine.Fetch l)) = refl
event_same drawn (machine.Claim w (machine.Look d)) = refl
event_same drawn (machine.Claim w (machine.Finish k)) = refl
event_same drawn (machine.Release n) = refl
event_same drawn (machine.Fetched n l t) = refl
event_same drawn (machine.Looked n d l) = refl
event_same drawn (machine.Finished n k i l o) = refl
event_same drawn (machine.Late n news) = refl
event_same drawn (machine.Cycled k) = refl

-- so many of the first kind as of the second
counts_mapped : {A B : Type 0} (f : A → B) (p : B → Bool) (q : A → Bool) → ((x : A) → p (f x) ≡ q x) → (xs : List A) → count_by p (map f xs) ≡ count_by q xs
counts_mapped f p q same [] = refl
counts_mapped f p q same (x ∷ xs) =
    sum_by-cons (λ b. cond (p b) 1 0) (f x) (map f xs)
    ∙ (ap (λ b. cond b 1 0 + count_by p (map f xs)) (same x) ∙ ap (λ n. cond (q x) 1 0 + n) (counts_mapped f p q same xs))
    ∙ sym (sum_by-cons (λ y. cond (q y) 1 0) x xs)

counts_events : (root : Term) (es : List Event) → count_by fetch_step (replay.steps root es) ≡ count_by is_fetch_claim es
counts_events root [] = refl
counts_events root (e ∷ es) =
    let last = replay.step_of (after_all root es).drawn e in
    sum_by-append (λ s. cond (fetch_step s) 1 0) (replay.steps root es) (last ∷ [])
    ∙ omega (arith, counts_events root es, sum_by-cons (λ s. cond (fetch_step s) 1 0) last [], sum_by-cons (λ x. cond (is_fetch_claim x) 1 0) e es, ap {B = ℕ} (λ b. cond b 1 0) (event_same (after_all root es).drawn e))

-- the fetches that were claimed, in the table's history and in the machine's
pub claims_same : (t : Shown) (r : IsReplayed t) → count_by counting.is_fetch_claim t.history ≡ count_by is_fetch_claim r.events
claims_same t r =
    sym (counts_mapped (step_by t.keys) fetch_step counting.is_fetch_claim (step_same t.keys) t.history)
    ∙ (ap (count_by fetch_step) (sym r.history_is) ∙ counts_events (term t.root.expr) r.events)

pub asks_by : {D : Type 0} (asked : D → ℕ) (before mid after : List D) (t : Shown) (r : IsReplayed t) → AsksAll asked before mid t → map asked after ≡ map asked mid
    → Any AtLast (map asked after) ⊎ (total (map asked after) ≡ total (map asked before) + count_by is_fetch_claim r.events)
asks_by asked before mid after t r (inl last) same = inl (subst (λ ns. Any AtLast ns) (sym same) (last_map asked mid last))
asks_by asked before mid after t r (inr sums) same =
    inr (ap total same ∙ omega (arith, sums, total_map asked before, total_map asked mid, claims_same t r))
