-- Where nothing is in flight and no task is open, blocking keys lead into a loop.
use Rattle.std.specs.Prelude.{◌≡◌, ◌<◌, ℕ, Bool, true, false, ◌||◌, List, [], ◌∷◌, length, replicate, ◌*◌, Some, slice_set, refl}
use Rattle.std.proofs.Common.{ap, sym, ◌∙◌, subst, arith, inl, inr}
use Rattle.std.proofs.lemmas.List.Folds.{sum_by-replicate}
use Rattle.dh_syntax.specs.declared.locations.Key.{Key}
use Rattle.dh_syntax.specs.Imports.Keys.{key_eq}
use Rattle.dh_imports.specs.Machine.{State, Blocks, outcome_of, stage_of, root_walk}
use Rattle.dh_imports.specs.Resolver.{Stage, TextOf, LookOf, Lacks, Has, Meets, Waits, stage, is_in, least_back_to}
use Rattle.dh_imports.specs.Walk.{Needs}
use Rattle.dh_laws.proofs.KeyOrder.{none-some, key_eq-itself}
use Rattle.dh_import_laws.proofs.Graph.{Way, Trail, ring-found, joined}
use Rattle.dh_import_laws.proofs.Plans.{wanted-undecided}
use Rattle.dh_import_laws.proofs.Progress.{next_wanted, one, root_after}
use Rattle.dh_demand.specs.Results.{Row, number_of, ask_of}
use Rattle.dh_record.specs.declared.kinds.Kind.{Kind}
use Rattle.dh_record.specs.declared.rows.recorded.Entrant.{Entrant}
use Rattle.dh_record.specs.declared.rows.recorded.Look.{Look}
use Rattle.dh_record.specs.declared.rows.recorded.Text.{Text}
use Rattle.dh_record.specs.declared.stage.reaches.Reach.TheVariants as reaches
use Rattle.dh_record.specs.Reading.{record_by, IsReach}
use Rattle.dh_table.specs.Inside.Searching.{IsStuck, IsNextStuck, IsLoop}
use Rattle.dh_record.specs.Marks.{is_set, one_unless, unseen}
use Rattle.dh_record.specs.Rows.{rows_of, key_named}
use Rattle.dh_record.proofs.Reading.{number_names}
use Rattle.dh_table.proofs.Seeing.{stage_stands, open_job}
use Rattle.dh_record.proofs.Marking.{set_cases}

reach_waits : (rows : List Row) (k : Key) (x : Stage) (n : ℕ) → IsReach rows k x (reaches.Wait n) → (y : Key) × (x ≡ Waits y) × (number_of rows y ≡ Some n)
reach_waits rows k (Lacks (TextOf l)) n r = absurd r
reach_waits rows k (Lacks (LookOf d)) n r = absurd r
reach_waits rows k (Has i) n r = absurd r
reach_waits rows k (Meets j) n r = absurd r
reach_waits rows k (Waits y) n r = (y, refl, r)

pub reach_inside : (keys : List Entrant) (k : Key) (x : Stage) (n : ℕ) → IsReach (rows_of keys) k x (reaches.Wait n) → n < length keys
reach_inside keys k x n r = let w = reach_waits (rows_of keys) k x n r in (number_names keys w.0 n w.2).0

module _ (keys : List Entrant) (texts : List Text) (looks : List Look) (s : State) where
  pub next_stuck : (n m : ℕ) → IsReach (rows_of keys) (key_named keys n) (stage (record_by texts looks) (ask_of (rows_of keys)) (key_named keys n)) (reaches.Wait m)
      → IsStuck keys texts looks s (key_named keys n) → IsNextStuck keys texts looks s (key_named keys n) (key_named keys m)
  next_stuck n m r i =
      let k = key_named keys n in
      let w = reach_waits (rows_of keys) k (stage (record_by texts looks) (ask_of (rows_of keys)) k) m r in
      let named = (number_names keys w.0 m w.2).1 in
      let waits : stage_of s k ≡ Waits (key_named keys m) = stage_stands keys texts looks [] s i.stands k ∙ w.1 ∙ ap (λ y. Waits y) (sym named) in
      record {
        blocks = (wanted-undecided i.wanted, waits);
        stuck = record { stands = i.stands; none = i.none; wanted = next_wanted s k (key_named keys m) i.wanted waits };
      }

  -- a wanted key has no task
  pub nothing_due : (n : ℕ) (kind : Kind) → n < length keys → IsReach (rows_of keys) (key_named keys n) (stage (record_by texts looks) (ask_of (rows_of keys)) (key_named keys n)) (reaches.Due kind)
      → IsStuck keys texts looks s (key_named keys n) → ⊥
  nothing_due n kind l r i =
      let j = open_job keys texts looks [] s i.stands n l kind i.wanted r (λ f. none-some refl f.1) in
      i.none _ j.open_task

  abbrev pub To : Key → Key → Type 0
  To x y = Blocks s.recorded (outcome_of s) x y

  pub loop_found : (first at j : Key) (xs : List Key) → IsStuck keys texts looks s first → Trail To at xs → is_in at xs ≡ true → Way To first at → root_walk s ≡ Needs first → j ≡ least_back_to at xs → IsLoop s j
  loop_found first at j xs i t h w r e =
      let f = ring-found To (one s i.stands.flights_are i.none) at xs t h in
      subst (IsLoop s) (sym e)
      (record {
        may = (i.stands.flights_are, i.none, (f.next, f.step, f.ring));
        goes_on = root_after s i.stands.flights_are i.none (least_back_to at xs) (f.step).0 first r (joined To w f.way);
      })

-- ---- marks of a trail

pub unseen_all : (n : ℕ) → unseen (replicate n false) ≡ n
unseen_all n = sum_by-replicate one_unless n false ∙ mul_one n
  where
    mul_one : (m : ℕ) → m * 1 ≡ m
    mul_one m = omega arith

or_right : (a b : Bool) → b ≡ true → (a || b) ≡ true
or_right true b h = refl
or_right false b h = h

pub marked_trail : (keys : List Entrant) (marks : List Bool) (at : ℕ) (ks : List Key) → ((n : ℕ) → is_set marks n ≡ true → is_in (key_named keys n) ks ≡ true)
    → (n : ℕ) → is_set (slice_set marks at true) n ≡ true → is_in (key_named keys n) (key_named keys at ∷ ks) ≡ true
marked_trail keys marks at ks f n h =
    elim (set_cases marks at n h) [
      | inl p ↦ subst (λ m. (key_eq (key_named keys at) (key_named keys m) || is_in (key_named keys m) ks) ≡ true) (sym p) (ap (λ b. b || is_in (key_named keys at) ks) (key_eq-itself (key_named keys at)))
      | inr old ↦ or_right (key_eq (key_named keys at) (key_named keys n)) (is_in (key_named keys n) ks) (f n old)
    ]
