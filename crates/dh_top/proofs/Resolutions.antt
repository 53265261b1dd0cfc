-- Replies of the commands that resolve imports.
use Rattle.std.proofs.Common.{◌≡◌, ◌⊎◌, inl, inr, ℕ, ◌+◌, ◌≤◌, ◌<◌, List, [], ◌∷◌, ◌++◌, map, length, Option, Some, None, Result, Ok, Err, IfOk, IfSome, Bool, true, false, true≢false, refl, sym, ap, ◌∙◌, subst, arith}
use Rattle.std.specs.Prelude.{IsTrue, OnOk, OnErr, Any, count_by, option_map, sum_by}
use Rattle.std.specs.declared.alloc.AllocError.{AllocError}
use Rattle.std.proofs.lemmas.List.Sums.{sum_by-cons}
use Rattle.dh_syntax.specs.declared.faults.Ill.{Ill}
use Rattle.dh_syntax.specs.declared.faults.ParseFault.{ParseFault}
use Rattle.dh_syntax.specs.declared.faults.TypeFault.{TypeFault}
use Rattle.dh_syntax.specs.declared.faults.TypeFault.TheVariants as type_faults
use Rattle.dh_syntax.specs.declared.locations.Digest.{Digest}
use Rattle.dh_syntax.specs.declared.locations.Key.{Key}
use Rattle.dh_syntax.specs.declared.locations.Loc.{Loc}
use Rattle.dh_imports.specs.declared.outcomes.Blame.{Blame}
use Rattle.dh_imports.specs.declared.outcomes.Why.{Why}
use Rattle.dh_imports.specs.declared.outcomes.Why.TheVariants as whys
use Rattle.dh_command.specs.declared.statuses.Status.TheVariants as status
use Rattle.dh_command.specs.declared.verbs.Verb.{Verb}
use Rattle.dh_command.specs.Answer.{Does, ResolvedAnswer, FaultAnswer, IsIllLine, at_fault, why_alone, with_place, overfull, spells, spells_none, nothing_found, on_input, too_many_keys}
use Rattle.dh_command.specs.Responses.{Response, fault, misspelt}
use Rattle.dh_imports.specs.ImportFaults.{ill_of, in_item, why_line}
use Rattle.dh_command.specs.Statuses.{why_status}
use Rattle.dh_command.specs.Words.{Word, resolves as does_resolve}
use Rattle.dh_syntax.specs.Expressions.Tree.{Term}
use Rattle.dh_imports.specs.Machine.{after_all, Lawful, opening, outcome_of, root_walk}
use Rattle.dh_imports.specs.Readings.{Reading}
use Rattle.dh_imports.specs.Records as found
use Rattle.dh_imports.specs.Records.{Record, Found, text_at}
use Rattle.dh_imports.specs.Replay.{RootEnd, ready, bad, looped, too_many, has_too_many, root_end}
use Rattle.dh_imports.specs.RootEnds.{EndsBy, overflows}
use Rattle.dh_imports.specs.TextPaths.{text_path}
use Rattle.dh_imports.specs.Walk.{Ask, Fails}
use Rattle.dh_syntax.specs.Text.Spelling.{ParsesTo}
use Rattle.dh_laws.proofs.KeyOrder.{none-some, some-equal}
use Rattle.dh_import_laws.proofs.Facts.{texts_are_parsed}
use Rattle.dh_import_laws.proofs.FailedTexts.{root_failures_are_recorded}
use Rattle.dh_import_laws.proofs.ByLocation.{paths_by_location}
use Rattle.dh_import_laws.specs.Blames.{StandsIn}
use Rattle.dh_demand.specs.Scans.{text_key}
use Rattle.dh_ports.specs.declared.mem_desks.CacheEntry.{CacheEntry}
use Rattle.dh_ports.specs.declared.worlds.Got.{Got}
use Rattle.dh_table.specs.declared.answers.roots.Ended.{Ended}
use Rattle.dh_record.specs.Brought.{AreTold, AreShelved}
use Rattle.dh_table.specs.Kept.{IsKeeping}
use Rattle.dh_record.specs.Kept.{pair_of}
use Rattle.dh_table.specs.Shown.{Shown}
use Rattle.dh_table.specs.States.{IsReplayed, record_of, state_of}
use Rattle.dh_session.specs.Ended.{AsksAll, FailsAll, NoneFell, none_left, more_left}
use Rattle.dh_session.specs.Works.{AtLast}
use Rattle.dh_top.specs.declared.replies.Reply.{Reply}
use Rattle.dh_top.specs.Outside.{Outside, Pair, Shelving, Telling, outside, first_of, AtFirst, at_first, FilesAll, FilesSome, Finds, finds, leaves, FilesPart, files_none, files_some, IsHistory, IsLeftAlone, IsShown, IsShownInPart, KeepsBy, Session, all_failures, failures, is_fetch_claim, total}
use Rattle.dh_top.specs.Replies.{written, Answers, IsClosed, TellsPlace}
use Rattle.dh_top.proofs.Closing.{WalkedTo, walked}
use Rattle.dh_top.proofs.Devices.{failed_found, other_statuses, resolved_device}
use Rattle.dh_top.proofs.RunLaws.{one_root_end}
use Rattle.dh_top.proofs.Finding.{asks_by, failed_by, none_fell_itself, rise_last, mapped, found_by}
use Rattle.dh_top.proofs.TypedReplies.{line_told}

-- ---- a fault that decides

-- a fault that is no place without a type
pub told_alone : (r : Result Reply AllocError) (rec : Record) (b : Blame) (at : Option Key) → at ≡ b.at → ill_of b.why ≡ None
    → IfOk r (λ x. written x ≡ fault (in_item at (why_line b.why)) (why_status b.why)) → IfOk r (λ x. FaultAnswer rec b (written x))
told_alone (Ok x) rec b at same none w =
    at_fault (in_item b.at (why_line b.why)) (why_alone none refl) (w ∙ ap (λ a. fault (in_item a (why_line b.why)) (why_status b.why)) same)
told_alone (Err e) rec b at same none w = tt

ill_status : (w : Why) (f : Ill) → ill_of w ≡ Some f → why_status w ≡ status.Ill
ill_status (whys.Typing (type_faults.Ill g)) f h = refl
ill_status (whys.Typing type_faults.Wide) f h = none-some refl h
ill_status (whys.Typing type_faults.Spent) f h = none-some refl h
ill_status (whys.Typing type_faults.Deep) f h = none-some refl h
ill_status (whys.Typing type_faults.Memory) f h = none-some refl h
ill_status (whys.Parse g) f h = none-some refl h
ill_status (whys.Norm g) f h = none-some refl h
ill_status whys.Absent f h = none-some refl h
ill_status whys.Missing f h = none-some refl h
ill_status (whys.Broken n) f h = none-some refl h
ill_status whys.Https f h = none-some refl h
ill_status whys.Failed f h = none-some refl h
ill_status (whys.Differs a b) f h = none-some refl h
ill_status (whys.Insane l) f h = none-some refl h
ill_status (whys.Cors l) f h = none-some refl h
ill_status whys.Cycle f h = none-some refl h
ill_status whys.TooMany f h = none-some refl h

-- the text in which a fault stands is found at the location of its key, and spells an expression
pub stands_found : (t : Shown) (b : Blame) (f : Ill) (k : Key) → b.at ≡ Some k → (s : StandsIn (record_of t) (outcome_of (state_of t)) b f)
    → text_at (record_of t) k.loc ≡ Some (Found s.text s.reading.allow (Ok s.spelled))
stands_found t b f k at s = subst (λ (j : Key). text_at (record_of t) j.loc ≡ Some (Found s.text s.reading.allow (Ok s.spelled))) (some-equal (sym s.reading.is_at ∙ at)) s.reading.found

pub stands_parsed : (t : Shown) (b : Blame) (f : Ill) → IsReplayed t → (s : StandsIn (record_of t) (outcome_of (state_of t)) b f) → ParsesTo s.text (Ok s.spelled)
stands_parsed t b f r s =
    texts_are_parsed (state_of t).root r.events s.reading.key.loc (Found s.text s.reading.allow (Ok s.spelled)) r.lawful
    (subst (λ x. text_at x.recorded s.reading.key.loc ≡ Some (Found s.text s.reading.allow (Ok s.spelled))) (sym r.state_is) s.reading.found)

ill_answer : (rec : Record) (ask : Ask) (b : Blame) (f : Ill) (w : Response) → ill_of b.why ≡ Some f → (s : StandsIn rec ask b f)
    → (bytes : List ℕ) × IsIllLine (record { at = b.at; text = s.text; spelled = s.spelled; ask = ask }) f bytes × (w ≡ fault bytes status.Ill) → FaultAnswer rec b w
ill_answer rec ask b f w told s (bytes, l, is) =
    at_fault bytes (with_place f (record { at = b.at; text = s.text; spelled = s.spelled; ask = ask }) s.value told refl s.reading s.refused l)
    (is ∙ ap (λ x. fault bytes x) (sym (ill_status b.why f told)))

-- a place without a type, in the text of its key
pub told_in_text : (r : Result Reply AllocError) (t : Shown) (b : Blame) (f : Ill) (k : Key) (at : Option Key) (text path places : List ℕ) → IsReplayed t → ill_of b.why ≡ Some f
    → (s : StandsIn (record_of t) (outcome_of (state_of t)) b f) → b.at ≡ Some k → at ≡ Some k → text ≡ s.text → places ≡ f.path
    → ((bytes : List ℕ) (allow : Option (List ℕ)) (e : Term) → text_at (record_of t) k.loc ≡ Some (Found bytes allow (Ok e)) → path ≡ text_path (text_key (Some k.loc)) (outcome_of (state_of t)) e places)
    → IfOk r (λ x. (e : Term) → ParsesTo text (Ok e) → TellsPlace at text e path f (written x))
    → IfOk r (λ x. FaultAnswer (record_of t) b (written x))
told_in_text (Err e) t b f k at text path places r told s is_at same is_text same_places paths h = tt
told_in_text (Ok x) t b f k at text path places r told s is_at same is_text same_places paths h =
    ill_answer (record_of t) ask b f (written x) told s (line_told i f path (written x) here placed)
  where
    ask : Ask
    ask = outcome_of (state_of t)

    i : Reading
    i = record { at = b.at; text = s.text; spelled = s.spelled; ask = ask }

    here : path ≡ text_path b.at ask s.spelled f.path
    here =
        paths s.text s.reading.allow s.spelled (stands_found t b f k is_at s)
        ∙ (paths_by_location _ k ask s.spelled places refl
        ∙ (ap (λ p. text_path (Some k) ask s.spelled p) same_places ∙ ap (λ a. text_path a ask s.spelled f.path) (sym is_at)))

    placed : TellsPlace b.at s.text s.spelled path f (written x)
    placed = subst (λ a. TellsPlace a s.text s.spelled path f (written x)) (same ∙ sym is_at)
        (subst (λ u. TellsPlace at u s.spelled path f (written x)) is_text (h s.spelled (subst (λ u. ParsesTo u (Ok s.spelled)) (sym is_text) (stands_parsed t b f r s))))

-- ---- what is kept

keeps_at : (t : Shown) (o : Option RootEnd) (e : RootEnd) (pairs : List Pair) → o ≡ Some e → IsKeeping (state_of t) o pairs → KeepsBy (record_of t) (state_of t).root e pairs
keeps_at t None e pairs is k = none-some refl is
keeps_at t (Some (ready v)) e pairs is k = subst (λ x. KeepsBy (record_of t) (state_of t).root x pairs) (some-equal is) k
keeps_at t (Some (bad b)) e pairs is k = subst (λ x. KeepsBy (record_of t) (state_of t).root x pairs) (some-equal is) k
keeps_at t (Some (looped j)) e pairs is k = subst (λ x. KeepsBy (record_of t) (state_of t).root x pairs) (some-equal is) k
keeps_at t (Some too_many) e pairs is k = subst (λ x. KeepsBy (record_of t) (state_of t).root x pairs) (some-equal is) k

keeps_by : (t : Shown) (e : RootEnd) (pairs : List Pair) → root_end (state_of t) ≡ Some e → IsKeeping (state_of t) (root_end (state_of t)) pairs → KeepsBy (record_of t) (state_of t).root e pairs
keeps_by t e pairs is k = keeps_at t (root_end (state_of t)) e pairs is k

-- ---- what was found and kept by desks

-- the first desk kept these, and the others are as they were
abbrev pub Keeping : {D : Type 0} → (D → ℕ) → (D → D → Type 0) → List D → List D → Type 0
Keeping faults P mid after = AtFirst (λ d e. (faults d ≤ faults e) × P d e) mid after

pub rises : {D : Type 0} (faults : D → ℕ) {P : D → D → Type 0} {mid after : List D} → Keeping faults P mid after → NoneFell (map faults mid) (map faults after)
rises faults (at_first {ds = ds} h) = more_left h.0 (none_fell_itself (map faults ds))

-- the first counts and what is filed, from the run to the keeping
more_before : (f g h k : ℕ) (n : ℕ) → f ≤ g → AtLast h ⊎ (n + g ≤ k + h) → AtLast h ⊎ (n + f ≤ k + h)
more_before f g h k n up (inl l) = inl l
more_before f g h k n up (inr l) = inr (omega (arith, up, l))

pub first_fell : (ms ns : List ℕ) → NoneFell ms ns → first_of 0 ms ≤ first_of 0 ns
first_fell ms ns none_left = omega arith
first_fell ms ns (more_left h r) = h

pub all_at_first : {D : Type 0} (faults : D → ℕ) (filed : D → Option (List Pair)) (pairs : List Pair) (before mid after : List D) → NoneFell (map faults before) (map faults mid)
    → map filed mid ≡ map filed before → Keeping faults (λ d e. FilesAll (faults d) (faults e) (filed d) (filed e) pairs) mid after
    → FilesAll (first_of 0 (map faults before)) (first_of 0 (map faults after)) (first_of None (map filed before)) (first_of None (map filed after)) pairs
all_at_first faults filed pairs before mid after fell same (at_first {d = d} {d' = e} h) = record {
  kept = h.1.kept;
  files = record {
    some = h.1.files.some;
    filed_is = h.1.files.filed_is ∙ ap (λ a. option_map (λ old. old ++ h.1.kept) a) (ap (first_of None) same);
  };
  few = more_before (first_of 0 (map faults before)) (faults d) (faults e) (length h.1.kept) (length pairs) (first_fell _ _ fell) h.1.few;
}

-- the failures that were found and the entries that were left out, as faults
own_faults : (n p k f g : ℕ) (before rest : List ℕ) → f ≤ g → Any AtLast (f ∷ rest) ⊎ (n + total before ≤ total (f ∷ rest)) → AtLast g ⊎ (p + f ≤ k + g)
    → Any AtLast (g ∷ rest) ⊎ (n + p + total before ≤ k + total (g ∷ rest))
own_faults n p k f g before rest up (inl last) few = inl (rise_last (more_left up (none_fell_itself rest)) last)
own_faults n p k f g before rest up (inr sums) (inl last) = inl (0, g, omega arith, refl, last)
own_faults n p k f g before rest up (inr sums) (inr few) = inr (omega (arith, sums, few, sum_by-cons (λ n. n) f rest, sum_by-cons (λ n. n) g rest))

pub all_faults : {D : Type 0} (faults : D → ℕ) (filed : D → Option (List Pair)) (n : ℕ) (pairs : List Pair) (before mid after : List D) (fell : NoneFell (map faults before) (map faults mid))
    (same : map filed mid ≡ map filed before) (k : Keeping faults (λ d e. FilesAll (faults d) (faults e) (filed d) (filed e) pairs) mid after)
    → Any (λ d. AtLast (faults d)) mid ⊎ (n + sum_by faults before ≤ sum_by faults mid)
    → Any AtLast (map faults after) ⊎ (n + length pairs + total (map faults before) ≤ length (all_at_first faults filed pairs before mid after fell same k).kept + total (map faults after))
unfolding all_at_first
all_faults faults filed n pairs before mid after fell same (at_first {d = d} {d' = e} {ds = ds} h) sums =
    own_faults n (length pairs) (length h.1.kept) (faults d) (faults e) (map faults before) (map faults ds) h.0 (mapped faults n before (d ∷ ds) sums) h.1.few

pub part_at_first : {D : Type 0} (faults : D → ℕ) (filed : D → Option (List Pair)) (pairs : List Pair) (before mid after : List D)
    → map filed mid ≡ map filed before → Keeping faults (λ d e. (kept : List Pair) × FilesSome (filed d) (filed e) pairs kept) mid after
    → (kept : List Pair) × FilesSome (first_of None (map filed before)) (first_of None (map filed after)) pairs kept
part_at_first faults filed pairs before mid after same (at_first {d = d} {d' = e} h) =
    (h.1.0, record { some = h.1.1.some; filed_is = h.1.1.filed_is ∙ ap (λ a. option_map (λ old. old ++ h.1.0) a) (ap (first_of None) same) })

-- a record alone has its own failures
with_none : {A : Type 0} (n b m : ℕ) → A ⊎ (n + b ≤ m) → A ⊎ (n + 0 + b ≤ m)
with_none n b m (inl last) = inl last
with_none n b m (inr sums) = inr (omega (arith, sums))

and_none : (n : ℕ) → 0 < n → 0 < n + 0
and_none n some = omega (arith, some)

-- What is known of a run that resolved this root over these desks, before anything is kept.
pub record IsResolved (told : Telling) (shelved : Shelving) {D : Type 0} (asked faults : D → ℕ) (filed : D → Option (List Pair)) (before mid : List D)
    (root : Term) (t : Shown) (ended : Ended) (pairs : List Pair) : Type 0 where
  pub root_is : (state_of t).root ≡ root
  pub texts : AreTold told t.texts
  pub looks : AreShelved shelved t.looks
  pub replayed : IsReplayed t
  pub asks : AsksAll asked before mid t
  pub fails : FailsAll faults before mid t
  pub fell : NoneFell (map faults before) (map faults mid)
  pub filed_is : map filed mid ≡ map filed before
  pub closed : IsClosed t ended
  pub keeps : IsKeeping (state_of t) (root_end (state_of t)) pairs

module _ (told : Telling) (shelved : Shelving) {D : Type 0} (asked faults : D → ℕ) (filed : D → Option (List Pair)) (before mid after : List D)
    (v : Verb) (text : List ℕ) (root : Term) (t : Shown) (ended : Ended) (pairs : List Pair)
    (s : IsResolved told shelved asked faults filed before mid root t ended pairs) (asks_same : map asked after ≡ map asked mid) (takes : IsTrue (does_resolve v)) (spelled : ParsesTo text (Ok root)) where
  by_root : EndsBy (record_of t) root s.closed.end
  by_root = subst (λ r. EndsBy (record_of t) r s.closed.end) s.root_is s.closed.by

  kept_by : KeepsBy (record_of t) root s.closed.end pairs
  kept_by = subst (λ r. KeepsBy (record_of t) r s.closed.end pairs) s.root_is (keeps_by t s.closed.end pairs s.closed.at_end s.keeps)

  came : IsHistory root (record_of t) s.replayed.events
  came = record {
    lawful = subst (λ r. Lawful r s.replayed.events) s.root_is s.replayed.lawful;
    record_is = subst (λ r. (after_all r s.replayed.events).recorded ≡ record_of t) s.root_is (ap (λ z. z.recorded) s.replayed.state_is);
  }

  -- what its session found, and how
  pub the_session : Session told shelved text (record_of t) (count_by is_fetch_claim s.replayed.events) pairs
  the_session = record {
    root = root;
    end = s.closed.end;
    steps = s.replayed.events;
    spelled = spelled;
    history = came;
    claimed = refl;
    is_found = found_by told shelved t s.texts s.looks s.replayed;
    ends = by_root;
    keeps = kept_by;
  }

  fails_alone : Any (λ d. AtLast (faults d)) mid ⊎ (all_failures (record_of t ∷ []) + sum_by faults before ≤ sum_by faults mid)
  fails_alone = with_none (failures (record_of t)) (sum_by faults before) (sum_by faults mid) s.fails

  shown_by : Keeping faults (λ d e. FilesAll (faults d) (faults e) (filed d) (filed e) pairs) mid after
      → IsShown (outside told shelved asked faults filed before after) (record_of t ∷ []) (Some (count_by is_fetch_claim s.replayed.events)) pairs
  shown_by k = record {
    asked = asks_by asked before mid after t s.replayed s.asks asks_same;
    failed = failed_by faults (all_failures (record_of t ∷ [])) before mid after fails_alone (rises faults k);
    files = all_at_first faults filed pairs before mid after s.fell s.filed_is k;
    faults = all_faults faults filed (all_failures (record_of t ∷ [])) pairs before mid after s.fell s.filed_is k fails_alone;
  }

  shown_in_part : Keeping faults (λ d e. (kept : List Pair) × FilesSome (filed d) (filed e) pairs kept) mid after
      → IsShownInPart (outside told shelved asked faults filed before after) (record_of t ∷ []) (Some (count_by is_fetch_claim s.replayed.events)) pairs
  shown_in_part k =
      let part = part_at_first faults filed pairs before mid after s.filed_is k in
      record {
        asked = asks_by asked before mid after t s.replayed s.asks asks_same;
        failed = failed_by faults (all_failures (record_of t ∷ [])) before mid after fails_alone (rises faults k);
        kept = part.0;
        files = part.1;
      }

  pub failure_found : (b : Blame) → EndsBy (record_of t) (state_of t).root (bad b) → b.why ≡ whys.Failed → 0 < failures (record_of t)
  failure_found b by failed =
      let walk : root_walk (state_of t) ≡ Fails b = subst (λ e. WalkedTo e (root_walk (state_of t))) (one_root_end (record_of t) (state_of t).root s.closed.end (bad b) s.closed.by by)
      (walked (state_of t) s.closed.end s.closed.at_end) in
      let there = root_failures_are_recorded (state_of t).root s.replayed.events b s.replayed.lawful (subst (λ x. root_walk x ≡ Fails b) (sym s.replayed.state_is) walk) failed in
      failed_found (record_of t) there.0 (subst (λ x. text_at x.recorded there.0 ≡ Some found.Failed) s.replayed.state_is there.1)

  answered_one : (ops : List Word) (w : Response) → Keeping faults (λ d e. FilesAll (faults d) (faults e) (filed d) (filed e) pairs) mid after
      → ResolvedAnswer v text (state_of t).root (record_of t) w → Answers v ops text (outside told shelved asked faults filed before after) w
  answered_one ops w k a = record {
    found = record_of t ∷ [];
    finds = finds (record_of t) (count_by is_fetch_claim s.replayed.events) pairs takes refl the_session (shown_by k);
    does = on_input (record_of t) refl (spells root takes spelled (subst (λ r. ResolvedAnswer v text r (record_of t) w) s.root_is a));
    devices = λ d. and_none (failures (record_of t)) (resolved_device v text (state_of t).root (record_of t) w a d (λ b by failed. failure_found b by failed));
  }

  part_one : (ops : List Word) → Keeping faults (λ d e. (kept : List Pair) × FilesSome (filed d) (filed e) pairs kept) mid after
      → FilesPart v ops text (outside told shelved asked faults filed before after)
  part_one ops k = files_some (record_of t) (count_by is_fetch_claim s.replayed.events) pairs takes the_session (shown_in_part k)

  pub answered : (r : Result Reply AllocError) → OnOk r (Keeping faults (λ d e. FilesAll (faults d) (faults e) (filed d) (filed e) pairs) mid after)
      → IfOk r (λ x. ResolvedAnswer v text (state_of t).root (record_of t) (written x)) → IfOk r (λ x. (ops : List Word) → Answers v ops text (outside told shelved asked faults filed before after) (written x))
  answered (Ok x) k a = λ ops. answered_one ops (written x) k a
  answered (Err e) k a = tt

  pub answered_none : (r : Result Reply AllocError) → OnErr r (Keeping faults (λ d e. (kept : List Pair) × FilesSome (filed d) (filed e) pairs kept) mid after)
      → OnErr r ((ops : List Word) → FilesPart v ops text (outside told shelved asked faults filed before after))
  answered_none (Ok x) k = tt
  answered_none (Err e) k = λ ops. part_one ops k

-- ---- too many keys, and a text that spells nothing

pub does_too_many : (v : Verb) (ops : List Word) (text : List ℕ) (root : Term) (w : Response) (at : Option Key) → at ≡ None → IsTrue (does_resolve v) → ParsesTo text (Ok root)
    → has_too_many (opening root) ≡ true → w ≡ fault (in_item at (why_line whys.TooMany)) (why_status whys.TooMany) → Does v ops text nothing_found w
does_too_many v ops text root w at none takes spelled many is =
    spells root takes spelled
    (overfull (overflows many) (at_fault (why_line whys.TooMany) (why_alone refl refl) (is ∙ ap (λ a. fault (in_item a (why_line whys.TooMany)) (why_status whys.TooMany)) none)))

pub too_many_answered : (r : Result Reply AllocError) (v : Verb) (text : List ℕ) (root : Term) (o : Outside) (at : Option Key) → at ≡ None → IsTrue (does_resolve v) → ParsesTo text (Ok root)
    → IsLeftAlone o → has_too_many (opening root) ≡ true → IfOk r (λ x. written x ≡ fault (in_item at (why_line whys.TooMany)) (why_status whys.TooMany))
    → IfOk r (λ x. (ops : List Word) → Answers v ops text o (written x))
too_many_answered (Ok x) v text root o at none takes spelled alone many w = λ ops. record {
  found = nothing_found ∷ [];
  finds = leaves refl alone;
  does = on_input nothing_found refl (does_too_many v ops text root (written x) at none takes spelled many w);
  devices = other_statuses (written x) status.Limit (ap (λ w. w.status) w) (λ n. omega (arith, n));
}
too_many_answered (Err e) v text root o at none takes spelled alone many w = tt

pub misspelt_answered : (r : Result Reply AllocError) (v : Verb) (text : List ℕ) (f : ParseFault) (o : Outside) → IsTrue (does_resolve v) → ParsesTo text (Err f)
    → IsLeftAlone o → IfOk r (λ x. written x ≡ misspelt f) → IfOk r (λ x. (ops : List Word) → Answers v ops text o (written x))
misspelt_answered (Ok x) v text f o takes p alone w = λ ops. record {
  found = nothing_found ∷ [];
  finds = leaves refl alone;
  does = on_input nothing_found refl (spells_none f takes p w);
  devices = other_statuses (written x) status.Text (ap (λ w. w.status) w) (λ n. omega (arith, n));
}
misspelt_answered (Err e) v text f o takes p alone w = tt
