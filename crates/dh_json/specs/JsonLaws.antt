-- Laws of JSON values.
use Rattle.std.specs.Prelude.{◌≡◌, ℕ, false, List, Ok, Err}
use Rattle.serde_json.specs.Data.{Data}
use Rattle.serde_json.specs.Written.{has_float}
use Rattle.dh_syntax.specs.Expressions.Arity.{IsWellFormed}
use Rattle.dh_syntax.specs.Expressions.Tree.{Term}
use Rattle.dh_syntax.specs.Names.Alpha.{IsSame}
use Rattle.dh_json.specs.JsonPlaces.{FitsNone, IsFirst, Reaches}
use Rattle.dh_json.specs.JsonValue.{json}

-- Expressions of equal α-normal form have the same value, or none for the same place.
abbrev pub SameHaveSame : Type 0
SameHaveSame = (e f : Term) → IsSame e f → json e ≡ json f

-- A value holds no float.
abbrev pub NoFloat : Type 0
NoFloat = (e : Term) (d : Data) → json e ≡ Ok d → has_float d ≡ false

-- Where there is a value, each place that the cases name fits one.
abbrev pub ValueHasCases : Type 0
ValueHasCases = (e : Term) (d : Data) → IsWellFormed e → json e ≡ Ok d → (q : List ℕ) (t : Term) → Reaches e q t → FitsNone t → ⊥

-- Where there is none, the place that is answered is the first that fits none.
abbrev pub FaultIsFirst : Type 0
FaultIsFirst = (e : Term) (p : List ℕ) → IsWellFormed e → json e ≡ Err p → IsFirst e p
