-- What is known from earlier searches stays true where a text is recorded, and where a key gets a value that each text may read.
use Rattle.std.specs.Prelude.{◌≡◌, ◌⊎◌, ◌<◌, ◌+◌, ℕ, true, if◌then◌else◌, List, length, Option, Some, None, is_none, refl}
use Rattle.std.proofs.Common.{ap, sym, ◌∙◌, subst, arith, inl, inr}
use Rattle.std.proofs.lemmas.Bool.{false≢true}
use Rattle.dh_syntax.specs.declared.locations.Key.{Key}
use Rattle.dh_syntax.specs.declared.locations.Loc.{Loc}
use Rattle.dh_imports.specs.declared.outcomes.Origin.{Origin}
use Rattle.dh_imports.specs.declared.outcomes.Origin.TheVariants as origins
use Rattle.dh_imports.specs.declared.outcomes.Outcome as program
use Rattle.dh_imports.specs.declared.outcomes.Outcome.TheVariants as outcomes
use Rattle.dh_imports.specs.declared.outcomes.Why.{Why}
use Rattle.dh_imports.specs.declared.outcomes.Why.TheVariants.{Cors}
use Rattle.dh_syntax.specs.Expressions.Tree.{Term}
use Rattle.dh_syntax.specs.Imports.Keys.{key_eq}
use Rattle.dh_syntax.specs.Imports.Locations.{cors, cors_between, origin}
use Rattle.dh_imports.specs.Machine as machine
use Rattle.dh_imports.specs.Machine.{Task, State, IsDue, May, Wanted, effect, outcome_of, stage_of}
use Rattle.dh_imports.specs.Outcomes.{plain}
use Rattle.dh_imports.specs.Replay.{Replays, Step}
use Rattle.dh_imports.specs.Resolver.{Stage}
use Rattle.dh_imports.specs.Walk.{Goes, Stops, allowed, ending_by, place}
use Rattle.dh_laws.proofs.KeyOrder.{bool-case, key_eq-true, key_eq-itself, some-equal}
use Rattle.dh_import_laws.proofs.Due.{in_flight_due}
use Rattle.dh_import_laws.proofs.Facts.{Grows}
use Rattle.dh_import_laws.proofs.Grow.{longer-itself}
use Rattle.dh_import_laws.proofs.Plans.{wanted-undecided}
use Rattle.dh_demand.specs.Results.{number_of}
use Rattle.dh_table.specs.declared.search.explored.Explored.{Explored}
use Rattle.dh_record.specs.declared.rows.recorded.Entrant.{Entrant}
use Rattle.dh_record.specs.Entering.{AreDistinct, AreMore, decided_at, keys_in}
use Rattle.dh_table.specs.Inside.Piling.{IsPoured, number_at}
use Rattle.dh_table.specs.Inside.Searching.{IsExploredBy, IsSameKnown, IsWaiting, Knows, is_open_origin, is_open_value, no_hole}
use Rattle.dh_record.specs.Rows.{rows_of, key_named}
use Rattle.dh_record.proofs.Decided.{decided_length, names, number_itself, numbers}
use Rattle.dh_table.proofs.Known.{GoesOn, known_on, known_quiet, leading_undecided, step_grows}
use Rattle.dh_record.proofs.NewKeys.{entrant_grown}
use Rattle.dh_table.proofs.Searched.{place_poured}
use Rattle.dh_table.proofs.TextLanding.{as_many_more, name_grown}

-- ---- more room

pub known_alike : (s : State) (es : List Entrant) (old new : Explored) → IsSameKnown old new → Knows s es old → Knows s es new
known_alike s es old new same k h =
    known_quiet s s (record { longer = longer-itself s.recorded; knows = λ x o q. q }) refl refl es es no_hole old.piles new.piles (λ x n q. q) (omega arith) (λ n l. refl)
    same.piles_are (k (sym same.known_is ∙ h))

-- ---- more keys

pub known_more : (es es' : List Entrant) (ks : List Key) → AreMore es ks es' → (s s' : State) → Grows s s' → s'.root ≡ s.root → outcome_of s' ≡ outcome_of s → (old new : Explored) → IsSameKnown old new → Knows s es old → Knows s' es' new
known_more es es' ks m s s' grows root_is asks_are old new same k h =
    known_quiet s s' grows root_is asks_are es es' no_hole old.piles new.piles
    (λ x n q. subst (λ (fs : List Entrant). number_of (rows_of fs) x ≡ Some n) (sym m.new_is) (entrant_grown es m.more x n q))
    (as_many_more es es' ks m)
    (λ n l. ap (λ (fs : List Entrant). key_named fs n) m.new_is ∙ name_grown es m.more n l)
    same.piles_are (k (sym same.known_is ∙ h))

-- ---- a value that each text may read

between_open : (p c allow : Option (List ℕ)) → is_none c ≡ true → cors_between p c allow ≡ true
between_open None None allow h = refl
between_open None (Some c) allow h = refl
between_open (Some p) None allow h = refl
between_open (Some p) (Some c) allow h = absurd (false≢true h)

cors_open : (at : Option Loc) (l : Loc) (allow : Option (List ℕ)) → is_none (origin l) ≡ true → cors at l allow ≡ true
cors_open None l allow h = refl
cors_open (Some p) l allow h = between_open (origin p) (origin l) allow h

open_allowed : (parent : Option Key) (k : Key) (o : Origin) → is_open_origin k.loc o ≡ true → allowed parent k o ≡ true
open_allowed parent k (origins.Fetched allow) h = cors_open (place parent) k.loc allow h
open_allowed parent k origins.Cached h = refl
open_allowed parent k origins.Made h = refl

open_goes : (parent : Option Key) (k : Key) (o : program.Outcome) → is_open_value k.loc o ≡ true → ending_by parent k (Some (plain o)) ≡ Goes
open_goes parent k (outcomes.Good v o) h = ap (λ b. if b then Goes else Stops (record { at = parent; why = Cors k.loc })) (open_allowed parent k o h)
open_goes parent k (outcomes.Bad b) h = absurd (false≢true h)

module _ (root : Term) (drawn : List Task) (news : List machine.News) (history : List Step) (s s' : State) (serial : ℕ) (i : Stage) (limit : Option Why) (es : List Entrant) (n : ℕ) (o : program.Outcome)
    (l : n < length es) (d : AreDistinct (keys_in es)) (r : Replays root drawn news history s) (may : May (machine.Finished serial (key_named es n) i limit (plain o)) s)
    (s'-is : s' ≡ effect (machine.Finished serial (key_named es n) i limit (plain o)) s) (undecided : outcome_of s (key_named es n) ≡ None) (is-open : is_open_value (key_named es n).loc o ≡ true) where
  abbrev its-key : Key
  its-key = key_named es n

  asks-now : (k : Key) → outcome_of s' k ≡ (if key_eq its-key k then Some (plain o) else outcome_of s k)
  asks-now k = ap (λ (x : State). outcome_of x k) s'-is

  here : outcome_of s' its-key ≡ Some (plain o)
  here = asks-now its-key ∙ ap (λ b. if b then Some (plain o) else outcome_of s its-key) (key_eq-itself its-key)

  elsewhere : (k : Key) → (its-key ≡ k → ⊥) → outcome_of s' k ≡ outcome_of s k
  elsewhere k p =
      elim (bool-case (key_eq its-key k)) [
        | inl e ↦ absurd (p (key_eq-true its-key k e))
        | inr e ↦ asks-now k ∙ ap (λ b. if b then Some (plain o) else outcome_of s k) e
      ]

  due : IsDue (stage_of s its-key)
  due = subst (λ x. IsDue (stage_of x its-key)) r.state_is (in_flight_due root r.events serial its-key r.lawful (subst (λ (x : State). machine.InFlight x serial (machine.Finish its-key)) (sym r.state_is) may.0.0))

  mild : (parent : Option Key) (k : Key) → ending_by parent k (outcome_of s' k) ≡ ending_by parent k (outcome_of s k)
  mild parent k =
      elim (bool-case (key_eq its-key k)) [
        | inl e ↦
            let same = key_eq-true its-key k e in
            subst (λ x. ending_by parent x (outcome_of s' x) ≡ ending_by parent x (outcome_of s x)) same
            (ap (ending_by parent its-key) here ∙ open_goes parent its-key o is-open ∙ ap (ending_by parent its-key) (sym undecided))
        | inr e ↦ ap (ending_by parent k) (asks-now k ∙ ap (λ b. if b then Some (plain o) else outcome_of s k) e)
      ]

  freed : (k : Key) → Wanted s k → (outcome_of s' k ≡ None) ⊎ IsDue (stage_of s k)
  freed k w =
      elim (bool-case (key_eq its-key k)) [
        | inl e ↦ inr (subst (λ x. IsDue (stage_of s x)) (key_eq-true its-key k e) due)
        | inr e ↦ inl (asks-now k ∙ ap (λ b. if b then Some (plain o) else outcome_of s k) e ∙ wanted-undecided w)
      ]

  goes_on : GoesOn s s'
  goes_on = record {
    grows = step_grows root drawn news history s s' (machine.Finished serial its-key i limit (plain o)) r may s'-is;
    root_is = ap (λ (x : State). x.root) s'-is;
    mild = mild;
    freed = freed;
  }

  own_number : (m : ℕ) → m < length es → its-key ≡ key_named es m → m ≡ n
  own_number m h p = some-equal (sym (number_itself es m d h) ∙ ap (number_of (rows_of es)) (sym p) ∙ number_itself es n d l)

  still_none : (m : ℕ) → m < length es → (m ≡ n → ⊥) → outcome_of s (key_named es m) ≡ None → outcome_of s' (key_named es m) ≡ None
  still_none m h p u = elsewhere (key_named es m) (λ q. p (own_number m h q)) ∙ u

  module _ (old new : Explored) (poured : IsPoured (n + 4) 2 old.piles new.piles) where
    moved : (m : ℕ) → (number_at new.piles m ≡ number_at old.piles m × ¬ (number_at old.piles m ≡ n + 4)) ⊎ ((number_at old.piles m ≡ n + 4) × (number_at new.piles m ≡ 2))
    moved m = place_poured (n + 4) 2 old.piles new.piles poured m

    still : (m j : ℕ) → number_at new.piles m ≡ j + 4 → (number_at old.piles m ≡ j + 4) × (IsWaiting s es old.piles m j → outcome_of s' (key_named es j) ≡ None)
    still m j z =
        elim (moved m) [
          | inr q ↦ (let a = q.1 in let b : ⊥ = omega arith in absurd b)
          | inl q ↦ (sym q.0 ∙ z, λ w. still_none j w.blocker (λ y. q.1 (sym q.0 ∙ z ∙ ap (λ i. i + 4) y)) (leading_undecided s (key_named es m) (key_named es j) w.waits_for))
        ]

    pub known_decided : IsExploredBy s es old → IsExploredBy s' (decided_at es n o) new
    known_decided e =
        known_on s s' goes_on es (decided_at es n o) no_hole old.piles new.piles
        (λ k m q. numbers es n o l d k ∙ q)
        (let a = decided_length es n o (decided_at es n o) refl in omega arith)
        (λ m h. ap (λ (f : ℕ → Key). f m) (names es n o l d))
        (λ m z.
        elim (moved m) [
          | inl q ↦ sym q.0 ∙ z
          | inr q ↦ (let a = q.1 in let b : ⊥ = omega arith in absurd b)
        ])
        (λ m z.
        elim (moved m) [
          | inl q ↦ q.0 ∙ z
          | inr q ↦ (let a = q.0 in let b : ⊥ = omega arith in absurd b)
        ])
        (λ m z.
        elim (moved m) [
          | inl q ↦ sym q.0 ∙ z
          | inr q ↦ (let a = q.1 in let b : ⊥ = omega arith in absurd b)
        ])
        still
        e
