-- What is left of outcomes when texts were taken away.
use Rattle.std.specs.Prelude.{Bool, true, false, if◌then◌else◌, [], ◌∷◌, List, is_some, ◌≡◌, Some, None}
use Rattle.dh_imports.specs.Resolver.{Stage, Lacks, Has, Meets, Waits, stage, TextOf}
use Rattle.dh_imports.specs.Records.{Record, Noted, lookup}
use Rattle.dh_watch_laws.specs.Kept.{Outcomes, known, Kept, IsSound}
use Rattle.dh_syntax.specs.declared.locations.Key.{Key}
use Rattle.dh_imports.specs.declared.outcomes.Why.{Why}
use Rattle.dh_imports.specs.Walk.{Ask}
use Rattle.dh_syntax.specs.declared.locations.Loc.{Loc}
use Rattle.dh_syntax.specs.Expressions.SameTree.{loc_eq}
use Rattle.dh_imports.specs.Outcomes.{Outcome}
use Rattle.dh_watch_laws.specs.Depending.{part_of, From}

-- the last step is due
abbrev pub is_due : Stage → Bool
is_due (Has i) = true
is_due (Meets j) = true
is_due (Lacks p) = false
is_due (Waits y) = false

-- the outcomes of the keys whose last step is due by those that are left of the earlier ones
abbrev pub left : Record → Outcomes → Outcomes
left r [] = []
left r (p ∷ l) = if is_due (stage r (known (left r l)) p.0) then p ∷ left r l else left r l

-- the limits of the keys that have an outcome
abbrev pub limits_left : Ask → List (Key × Why) → List (Key × Why)
limits_left ask [] = []
limits_left ask (p ∷ ps) = if is_some (ask p.0) then p ∷ limits_left ask ps else limits_left ask ps

-- the record with these texts instead of its own
abbrev pub with_texts : Record → List (Loc × Noted) → Record
with_texts r texts = record { texts = texts; looks = r.looks; limits = r.limits }

-- what is left where these texts are left
abbrev pub swept : List (Loc × Noted) → Kept → Kept
swept texts s = record {
  recorded = record {
    texts = texts;
    looks = s.recorded.looks;
    limits = limits_left (known (left (with_texts s.recorded texts) s.outcomes)) s.recorded.limits;
  };
  outcomes = left (with_texts s.recorded texts) s.outcomes;
}

-- each of these texts is one of those
abbrev pub AreOf : List (Loc × Noted) → List (Loc × Noted) → Type 0
AreOf texts more = (l : Loc) (t : Noted) → lookup loc_eq texts l ≡ Some t → lookup loc_eq more l ≡ Some t

-- What is left after texts were taken away holds together, and each outcome that is left is as it was.
abbrev pub SweptHolds : Type 0
SweptHolds =
    (s : Kept) (texts : List (Loc × Noted)) → IsSound s → AreOf texts s.recorded.texts
    → IsSound (swept texts s) × ((k : Key) (o : Outcome) → known (swept texts s).outcomes k ≡ Some o → known s.outcomes k ≡ Some o)

-- Nothing else is forgotten: from a key whose outcome is not left, one whose text was taken away is asked.
abbrev pub SweptOnly : Type 0
SweptOnly =
    (s : Kept) (texts : List (Loc × Noted)) (k : Key) (o : Outcome) → IsSound s → AreOf texts s.recorded.texts → known s.outcomes k ≡ Some o
    → known (swept texts s).outcomes k ≡ None
    → (j : Key) × (l : Loc) × From s.recorded (known s.outcomes) k j × (part_of j ≡ Some (TextOf l)) × (lookup loc_eq texts l ≡ None)

-- ---- in place

-- these outcomes, the oldest first, put before those
abbrev pub put_before : Outcomes → Outcomes → Outcomes
put_before [] l = l
put_before (p ∷ ps) l = put_before ps (p ∷ l)

-- what is left of outcomes that are looked at one after the other, the oldest first, while the later ones still stand
abbrev pub left_in_place : Record → Outcomes → Outcomes → Outcomes
left_in_place r done [] = done
left_in_place r done (p ∷ ps) = if is_due (stage r (known (put_before ps (p ∷ done))) p.0) then left_in_place r (p ∷ done) ps else left_in_place r done ps

-- That comes to the same.
abbrev pub SweptInPlace : Type 0
SweptInPlace =
    (s : Kept) (texts : List (Loc × Noted)) (ps : Outcomes) → IsSound s → AreOf texts s.recorded.texts → s.outcomes ≡ put_before ps []
    → left_in_place (with_texts s.recorded texts) [] ps ≡ left (with_texts s.recorded texts) s.outcomes
