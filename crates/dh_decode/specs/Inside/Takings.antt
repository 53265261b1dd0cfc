-- What taking an item answers.
use Rattle.std.specs.Prelude.{◌≡◌, ℕ, Bool, true, false, ◌&&◌, not, List, [], Option, Some, None, Result, Ok, Err, ⊤}
use Rattle.dh_syntax.specs.declared.expressions.Op.TheVariants as ops
use Rattle.dh_syntax.specs.Bytes.BinaryHeads.{Mark, atom}
use Rattle.dh_syntax.specs.Bytes.BinaryLeaves.{◌>>=◌}
use Rattle.dh_syntax.specs.Expressions.Builtins.{builtin_of}
use Rattle.dh_binary.specs.Machine.{Want, Value, holds, State, stopped, is_some, atom_as}
use Rattle.dh_binary.specs.Stubs.{Kept, stubs}
use Rattle.dh_decode.specs.declared.places.Value as program
use Rattle.dh_decode.specs.declared.stops.Stop.{Stop}
use Rattle.dh_decode.specs.declared.stops.Stop.TheVariants as stop
use Rattle.dh_decode.specs.Inside.Views.{value_of}

-- what an atom gives, by whether numbers beyond their ranges are taken too
abbrev pub Takes : (Bool → Option (Value Kept)) → Result program.Value Stop → Type 0
Takes o (Ok v) = o false ≡ Some (value_of v)
Takes o (Err stop.Misfit) = (o false ≡ None) × (o true ≡ None)
Takes o (Err stop.Wide) = (o false ≡ None) × (is_some (o true) ≡ true)
Takes o (Err stop.Memory) = ⊤

-- whether a head is a number that would be taken but for its range
abbrev pub is_wide : Want → Mark → Bool
is_wide w (atom a) = not (is_some (atom_as stubs false w a)) && is_some (atom_as stubs true w a)
is_wide w k = false

-- the same of a number
abbrev pub TakesNumber : (Bool → Option ℕ) → Result ℕ Stop → Type 0
TakesNumber o (Ok n) = o false ≡ Some n
TakesNumber o (Err stop.Misfit) = (o false ≡ None) × (o true ≡ None)
TakesNumber o (Err stop.Wide) = (o false ≡ None) × (is_some (o true) ≡ true)
TakesNumber o (Err stop.Memory) = ⊤

-- the built-in of a name as a value
abbrev pub builtin_value : List ℕ → Option (Value Kept)
builtin_value x = builtin_of x >>= λ b. Some (holds (stubs.node (ops.Builtin b) []))
