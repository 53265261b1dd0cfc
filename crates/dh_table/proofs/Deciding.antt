-- A key gets its outcome: what stays of what a table says of its keys.
use Rattle.std.specs.Prelude.{◌≡◌, ◌<◌, ◌≤◌, ◌^◌, ℕ, Bool, true, false, if◌then◌else◌, List, ◌∷◌, ◌++◌, length, map, reverse, All, Option, Some, None, slice_index_or, refl, []}
use Rattle.std.proofs.Common.{ap, sym, ◌∙◌, subst}
use Rattle.std.proofs.lemmas.List.{length-set}
use Rattle.std.proofs.lemmas.List.Elements.{All-weaker, All-set, All-get_or}
use Rattle.dh_syntax.specs.declared.locations.Key.{Key}
use Rattle.dh_imports.specs.declared.outcomes.Outcome as program
use Rattle.dh_syntax.specs.Expressions.Bridge.{term}
use Rattle.dh_syntax.specs.Expressions.Tree.{Term}
use Rattle.dh_syntax.specs.Imports.Keys.{key_eq}
use Rattle.dh_imports.specs.Outcomes.{Outcome, plain}
use Rattle.dh_imports.specs.Records.{lookup, Record}
use Rattle.dh_imports.specs.Resolver.{is_in}
use Rattle.dh_laws.proofs.KeyOrder.{none-some}
use Rattle.dh_demand.specs.declared.scans.Scan.{Scan}
use Rattle.dh_demand.specs.Results.{ask_of}
use Rattle.dh_import_laws.proofs.Facts.{limits_are_licensed}
use Rattle.dh_imports.specs.declared.outcomes.Why.{Why}
use Rattle.dh_imports.specs.Machine.{State, Event, Lawful, after_all, outcome_of, with_outcome, Task, with_limit}
use Rattle.dh_imports.specs.Replay as replay
use Rattle.dh_imports.specs.Walk.{Ask}
use Rattle.dh_table.specs.declared.steps.Flight.{Flight}
use Rattle.dh_table.specs.declared.steps.Job.{Job}
use Rattle.dh_table.specs.declared.steps.Step.{Step}
use Rattle.dh_table.specs.declared.steps.Step.TheVariants as steps
use Rattle.dh_record.specs.declared.rows.recorded.Entrant.{Entrant}
use Rattle.dh_record.specs.declared.rows.recorded.Text.{Text}
use Rattle.dh_record.specs.Entering.{AreDistinct, keys_in, IsListed, decided_at}
use Rattle.dh_record.specs.Reading.{IsRead}
use Rattle.dh_table.specs.Shown.{Shown}
use Rattle.dh_record.specs.Rows.{nobody, rows_of, key_named, known, outcome_of_number, limit_of, why_of, text_of, look_of, task_by}
use Rattle.dh_table.specs.States.{flight_of, task_of, step_by, state_of, record_of}
use Rattle.dh_record.specs.Brought.{limit_by}
use Rattle.dh_table.specs.Tables.{IsKnown, IsOwned}
use Rattle.dh_record.proofs.Latest.{latest, mapped}
use Rattle.dh_record.proofs.Decided.{decided_asks, fits_same, keys_same, listed_same, named_same, names, outcome_here, outcome_same, read_same}

-- ---- what a table knows of its keys

module _ (es : List Entrant) (n : ℕ) (o : program.Outcome) (l : n < length es) (d : AreDistinct (keys_in es)) where
  pub decided_known : (root : Scan) (texts : List Text) → IsKnown root es texts → IsKnown root (decided_at es n o) texts
  decided_known root texts k = record {
    few = subst (λ m. m ≤ 2 ^ 32) (sym (length-set es n (record (slice_index_or es n nobody) { outcome = Some o; own = None }))) k.few;
    distinct = subst AreDistinct (sym (keys_same es n o l d)) k.distinct;
    members = λ j. ap (is_in j) (keys_same es n o l d) ∙ k.members j;
    listed =
        All-set (IsListed (rows_of (decided_at es n o))) es n (record (slice_index_or es n nobody) { outcome = Some o; own = None })
        (let i = listed_same es n o l d (slice_index_or es n nobody) (All-get_or (IsListed (rows_of es)) es n nobody l k.listed) in record { text_is = i.text_is; bare_is = i.bare_is })
        (All-weaker (IsListed (rows_of es)) (IsListed (rows_of (decided_at es n o))) (listed_same es n o l d) es k.listed);
    root_fits = fits_same es n o l d None (term root.expr) root.edges k.root_fits;
    read = All-weaker (IsRead (rows_of es)) (IsRead (rows_of (decided_at es n o))) (read_same es n o l d) texts k.read;
  }

  pub decided_owned : All IsOwned es → All IsOwned (decided_at es n o)
  decided_owned h = All-set IsOwned es n (record (slice_index_or es n nobody) { outcome = Some o; own = None }) (λ u. none-some u refl) h

-- ---- the state after a key is decided

module _ (t : Shown) (n : ℕ) (o : program.Outcome) (l : n < length t.keys) (d : AreDistinct (keys_in t.keys))
    (undecided : lookup key_eq (reverse (map (outcome_of_number t.keys) t.decided)) (key_named t.keys n) ≡ None) (unlimited : lookup key_eq (reverse (map (limit_of t.keys) t.limited)) (key_named t.keys n) ≡ None) where
  after : List Entrant
  after = decided_at t.keys n o

  pub flights_same : (fs : List Flight) → map (flight_of (decided_at t.keys n o)) fs ≡ map (flight_of t.keys) fs
  flights_same fs = λ i. map (λ (f : Flight). (f.serial, task_by f.job.kind (names t.keys n o l d i f.job.key))) fs

  pub drawn_same : (js : List Job) → map (task_of (decided_at t.keys n o)) js ≡ map (task_of t.keys) js
  drawn_same js = λ i. map (λ (j : Job). task_by j.kind (names t.keys n o l d i j.key)) js

  limits_same : map (limit_of (decided_at t.keys n o)) t.limited ≡ map (limit_of t.keys) t.limited
  limits_same =
      named_same t.keys n o l d (limit_of t.keys) (limit_of (decided_at t.keys n o)) t.limited (λ m. refl)
      (λ m p. λ i. (names t.keys n o l d i m, why_of (outcome_same t.keys n o l d m p i)))
      unlimited

  outcomes_same : map (outcome_of_number (decided_at t.keys n o)) t.decided ≡ map (outcome_of_number t.keys) t.decided
  outcomes_same =
      named_same t.keys n o l d (outcome_of_number t.keys) (outcome_of_number (decided_at t.keys n o)) t.decided (λ m. refl)
      (λ m p. λ i. (names t.keys n o l d i m, known (outcome_same t.keys n o l d m p i)))
      undecided

  outcome_first : outcome_of_number (decided_at t.keys n o) n ≡ (key_named t.keys n, plain o)
  outcome_first = λ i. (names t.keys n o l d i n, known (outcome_here t.keys n o l d i))

  pub decided_state : (t' : Shown) → t'.root ≡ t.root → t'.keys ≡ decided_at t.keys n o → t'.texts ≡ t.texts → t'.looks ≡ t.looks → t'.decided ≡ t.decided ++ n ∷ [] → t'.limited ≡ t.limited → t'.flights ≡ t.flights → t'.drawn ≡ t.drawn
      → state_of t' ≡ with_outcome (state_of t) (key_named t.keys n) (plain o)
  decided_state t' root keys texts looks decided limited flights drawn =
      let outcomes : reverse (map (outcome_of_number t'.keys) t'.decided) ≡ (key_named t.keys n, plain o) ∷ reverse (map (outcome_of_number t.keys) t.decided) =
      (λ i. reverse (map (outcome_of_number (keys i)) (decided i)))
      ∙ latest (outcome_of_number (decided_at t.keys n o)) t.decided n
      ∙ λ i. outcome_first i ∷ reverse (outcomes_same i) in
      let limits : reverse (map (limit_of t'.keys) t'.limited) ≡ reverse (map (limit_of t.keys) t.limited) = (λ i. reverse (map (limit_of (keys i)) (limited i))) ∙ ap reverse limits_same in
      let flying : reverse (map (flight_of t'.keys) t'.flights) ≡ reverse (map (flight_of t.keys) t.flights) = (λ i. reverse (map (flight_of (keys i)) (flights i))) ∙ ap reverse (flights_same t.flights) in
      let tasks : reverse (map (task_of t'.keys) t'.drawn) ≡ reverse (map (task_of t.keys) t.drawn) = (λ i. reverse (map (task_of (keys i)) (drawn i))) ∙ ap reverse (drawn_same t.drawn) in
      λ i. record {
        root = term (root i).expr;
        recorded = record { texts = reverse (map text_of (texts i)); looks = reverse (map look_of (looks i)); limits = limits i };
        outcomes = outcomes i;
        flights = flying i;
        drawn = tasks i;
      }

  -- ---- a finish: the limit too, where the outcome is one

  abbrev limits_after : (limited : Bool) → List ℕ
  limits_after limited = if limited then t.limited ++ n ∷ [] else t.limited

  limits_are : (limited : Bool) (r : Record) → r.limits ≡ reverse (map (limit_of (decided_at t.keys n o)) (limits_after limited)) → r.texts ≡ (record_of t).texts → r.looks ≡ (record_of t).looks
      → r ≡ with_limit (record_of t) (key_named t.keys n) (limit_by limited o)
  limits_are true r p q h =
      let all : r.limits ≡ (key_named t.keys n, why_of (Some o)) ∷ reverse (map (limit_of t.keys) t.limited) =
      p ∙ latest (limit_of (decided_at t.keys n o)) t.limited n ∙ λ i. (names t.keys n o l d i n, why_of (outcome_here t.keys n o l d i)) ∷ reverse (limits_same i) in
      λ i. record { texts = q i; looks = h i; limits = all i }
  limits_are false r p q h =
      let all : r.limits ≡ reverse (map (limit_of t.keys) t.limited) = p ∙ ap reverse limits_same in
      λ i. record { texts = q i; looks = h i; limits = all i }

  pub finished_state : (t' : Shown) (limited : Bool) (fs : List (ℕ × Task)) → t'.root ≡ t.root → t'.keys ≡ decided_at t.keys n o → t'.texts ≡ t.texts → t'.looks ≡ t.looks → t'.decided ≡ t.decided ++ n ∷ [] → t'.limited ≡ (if limited then t.limited ++ n ∷ [] else t.limited)
      → reverse (map (flight_of t.keys) t'.flights) ≡ fs → t'.drawn ≡ t.drawn
      → state_of t' ≡ with_outcome (record (state_of t) { flights = fs; recorded = with_limit (record_of t) (key_named t.keys n) (limit_by limited o) }) (key_named t.keys n) (plain o)
  finished_state t' limited fs root keys texts looks decided limits flying drawn =
      let outcomes : reverse (map (outcome_of_number t'.keys) t'.decided) ≡ (key_named t.keys n, plain o) ∷ reverse (map (outcome_of_number t.keys) t.decided) =
      (λ i. reverse (map (outcome_of_number (keys i)) (decided i)))
      ∙ latest (outcome_of_number (decided_at t.keys n o)) t.decided n
      ∙ λ i. outcome_first i ∷ reverse (outcomes_same i) in
      let flights : reverse (map (flight_of t'.keys) t'.flights) ≡ fs = (λ i. reverse (map (flight_of (keys i)) t'.flights)) ∙ ap reverse (flights_same t'.flights) ∙ flying in
      let tasks : reverse (map (task_of t'.keys) t'.drawn) ≡ reverse (map (task_of t.keys) t.drawn) = (λ i. reverse (map (task_of (keys i)) (drawn i))) ∙ ap reverse (drawn_same t.drawn) in
      let recorded : record_of t' ≡ with_limit (record_of t) (key_named t.keys n) (limit_by limited o) =
      limits_are limited (record_of t') (λ i. reverse (map (limit_of (keys i)) (limits i))) (ap (λ ts. reverse (map text_of ts)) texts) (ap (λ ls. reverse (map look_of ls)) looks) in
      λ i. record { root = term (root i).expr; recorded = recorded i; outcomes = outcomes i; flights = flights i; drawn = tasks i }

  pub decided_steps : (hs : List Step) → map (step_by (decided_at t.keys n o)) hs ≡ map (step_by t.keys) hs
  decided_steps [] = refl
  decided_steps (h ∷ hs) = λ i. step_same h i ∷ decided_steps hs i
    where
      step_same : (x : Step) → step_by (decided_at t.keys n o) x ≡ step_by t.keys x
      step_same (steps.Claim w k m) = refl
      step_same (steps.Release m) = refl
      step_same (steps.Fetched m) = refl
      step_same (steps.Looked m) = refl
      step_same (steps.Finished m) = refl
      step_same (steps.Late m) = refl
      step_same (steps.Cycled k) = λ i. replay.Cycled (names t.keys n o l d i k)

  pub finished_history : (hs hs' : List Step) (serial : ℕ) → hs' ≡ hs ++ steps.Finished serial ∷ [] → map (step_by (decided_at t.keys n o)) hs' ≡ map (step_by t.keys) hs ++ replay.Finished serial ∷ []
  finished_history hs hs' serial p = mapped (step_by (decided_at t.keys n o)) hs hs' (steps.Finished serial) p ∙ λ i. decided_steps hs i ++ replay.Finished serial ∷ []

  pub decided_history : (hs hs' : List Step) → hs' ≡ hs ++ steps.Cycled n ∷ [] → map (step_by (decided_at t.keys n o)) hs' ≡ map (step_by t.keys) hs ++ replay.Cycled (key_named t.keys n) ∷ []
  decided_history hs hs' p =
      mapped (step_by (decided_at t.keys n o)) hs hs' (steps.Cycled n) p
      ∙ λ i. decided_steps hs i ++ replay.Cycled (names t.keys n o l d i n) ∷ []

-- what is asked after a key is decided
pub asks_after : (s : State) (es : List Entrant) (n : ℕ) (o : program.Outcome) → n < length es → AreDistinct (keys_in es) → outcome_of s ≡ ask_of (rows_of es)
    → outcome_of (with_outcome s (key_named es n) (plain o)) ≡ ask_of (rows_of (decided_at es n o))
asks_after s es n o l d p = λ i k. (ap (λ (f : Ask). if key_eq (key_named es n) k then Some (plain o) else f k) p ∙ sym (decided_asks es n o l d k)) i

-- a key without an outcome has no limit
pub no_limit : (root : Term) (s : State) (k : Key) (es : List Event) → Lawful root es → after_all root es ≡ s → outcome_of s k ≡ None → lookup key_eq s.recorded.limits k ≡ None
no_limit root s k es w p h = go (lookup key_eq s.recorded.limits k) refl
  where
    go : (x : Option Why) → lookup key_eq s.recorded.limits k ≡ x → lookup key_eq s.recorded.limits k ≡ None
    go None q = q
    go (Some y) q =
        let r = limits_are_licensed root es k y w (ap (λ (u : State). lookup key_eq u.recorded.limits k) p ∙ q) in
        none-some h (ap (λ (u : State). outcome_of u k) (sym p) ∙ r.4)
