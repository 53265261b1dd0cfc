-- The forms of numbers at one place.
use Rattle.std.specs.Prelude.{ℕ, Bool, not, ◌&&◌, ◌||◌, ◌==◌, List, [], ◌∷◌, Option, slice_index}
use Rattle.std.specs.Str.{byte}
use Rattle.dh_syntax.specs.Text.Characters.{first}
use Rattle.dh_syntax.specs.Text.LexForms.{Form, longest}
use Rattle.dh_syntax.specs.Text.LexNumbers.{natural, integer, double, signed_double, date, time, signed_time, binary, bytes_literal}

-- the literals without a sign that are left out
unfoldable pub unsigned_left_out : List ℕ → Option Form
unsigned_left_out bs = longest (double bs ∷ date bs ∷ time bs ∷ binary bs ∷ bytes_literal bs ∷ [])

-- the literals with a sign that are left out
unfoldable pub signed_left_out : List ℕ → Option Form
signed_left_out bs = longest (signed_double bs ∷ signed_time bs ∷ [])

-- the numbers without a sign
unfoldable pub unsigned_form : List ℕ → Option Form
unsigned_form bs = longest (natural bs ∷ double bs ∷ date bs ∷ time bs ∷ binary bs ∷ bytes_literal bs ∷ [])

-- the numbers with a sign
unfoldable pub signed_form : List ℕ → Option Form
signed_form bs = longest (integer bs ∷ signed_double bs ∷ signed_time bs ∷ [])

-- whether another literal than a natural of so many digits may stand at the front, by a few of the bytes
abbrev pub may_differ : ℕ → List ℕ → Bool
may_differ n bs =
    slice_index bs n == byte "." || slice_index bs n == byte "e" || slice_index bs n == byte "E" || slice_index bs 1 == byte "x" || slice_index bs 1 == byte "b"
    || slice_index bs 2 == byte ":" || slice_index bs 4 == byte "-" || (first bs == byte "0" && not (n == 1))
