-- The rows of arrays by tests that the program makes.
use Rattle.std.specs.Prelude.{ℕ, ◌%◌, ◌==◌, nat_le, Bool, true, false, ◌&&◌, if◌then◌else◌, List, [], Option, Some, None, codes}
use Rattle.dh_syntax.specs.declared.expressions.Op.{Op}
use Rattle.dh_syntax.specs.declared.expressions.Op.TheVariants as ops
use Rattle.dh_binary.specs.Machine.{Place, when, applying, quantify, binder, operating, emptied, skipping, operands, rowing, types, values, alternatives, selecting, projecting, numeral, signed_numeral, piece, importing, let_name, updating}

-- whether so many items make bindings and a body
abbrev pub lets_fit : ℕ → Bool
lets_fit m = nat_le 4 m && (m % 3 == 1)

-- a function or the type of functions by how many items come after its number
abbrev pub quantified : {T : Type 0} → Op → ℕ → Option (Place T)
quantified op m = if m == 2 then Some (quantify op (codes "_") None) else when (m == 3) (binder op)

-- an array by its first item and by how many come after it
abbrev pub row_at : {T : Type 0} → ℕ → ℕ → Option (Place T)
row_at n m =
    if n == 0 then when (nat_le 2 m) (applying None)
    else if n == 1 then quantified ops.Lam m
    else if n == 2 then quantified ops.Pi m
    else if n == 3 then when (m == 3) operating
    else if n == 4 then (if m == 1 then Some emptied else when (nat_le 2 m) (skipping ops.List))
    else if n == 5 then when (m == 2) (skipping ops.Some)
    else if n == 6 then (if m == 2 then Some (operands (ops.Merge false) []) else when (m == 3) (operands (ops.Merge true) []))
    else if n == 7 then when (m == 1) (rowing types)
    else if n == 8 then when (m == 1) (rowing values)
    else if n == 9 then when (m == 2) selecting
    else if n == 10 then when (nat_le 1 m) projecting
    else if n == 11 then when (m == 1) (rowing alternatives)
    else if n == 14 then when (m == 3) (operands ops.If [])
    else if n == 15 then when (m == 1) numeral
    else if n == 16 then when (m == 1) signed_numeral
    else if n == 18 then when (m % 2 == 1) (piece [] [])
    else if n == 19 then when (m == 1) (operands ops.Assert [])
    else if n == 24 then when (nat_le 3 m) importing
    else if n == 25 then when (lets_fit m) (let_name [])
    else if n == 26 then when (m == 2) (operands ops.Annot [])
    else if n == 27 then (if m == 1 then Some (operands (ops.ToMap false) []) else when (m == 2) (operands (ops.ToMap true) []))
    else if n == 28 then when (m == 1) (operands ops.EmptyList [])
    else if n == 29 then when (m == 3) updating
    else None

-- whether a location of this scheme has so many items behind it
abbrev pub scheme_fits : ℕ → ℕ → Bool
scheme_fits n m =
    if n == 0 then nat_le 4 m
    else if n == 1 then nat_le 4 m
    else if n == 2 then nat_le 1 m
    else if n == 3 then nat_le 1 m
    else if n == 4 then nat_le 1 m
    else if n == 5 then nat_le 1 m
    else if n == 6 then m == 1
    else if n == 7 then m == 0
    else false
