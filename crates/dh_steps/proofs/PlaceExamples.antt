-- Places as words.
use Rattle.std.specs.Prelude.{◌≡◌, [], ◌∷◌, Some, None, Ok, Err, codes, refl}
use Rattle.dh_steps.specs.StepWords.{place_of, operand_places}

root : place_of (codes "root") ≡ Some []
root = refl

deep : place_of (codes "1/0/12") ≡ Some (1 ∷ 0 ∷ 12 ∷ [])
deep = refl

zero_first : place_of (codes "1/00") ≡ None
zero_first = refl

empty : place_of (codes "") ≡ None
empty = refl

open_end : place_of (codes "1/") ≡ None
open_end = refl

greatest : place_of (codes "4294967295") ≡ Some (4294967295 ∷ [])
greatest = refl

too_great : place_of (codes "4294967296") ≡ None
too_great = refl

slash_first : place_of (codes "/1") ≡ None
slash_first = refl

signed : place_of (codes "+1") ≡ None
signed = refl

root_below : place_of (codes "root/1") ≡ None
root_below = refl

named : operand_places 256 2 (codes "1" ∷ codes "root" ∷ []) ≡ Ok ((1 ∷ []) ∷ [] ∷ [])
named = refl

none_named : operand_places 256 2 [] ≡ Ok []
none_named = refl

no_place : operand_places 256 2 (codes "root" ∷ codes "x" ∷ codes "y" ∷ []) ≡ Err 3
no_place = refl

one_too_many : operand_places 2 4 (codes "root" ∷ codes "1" ∷ codes "2" ∷ codes "x" ∷ []) ≡ Err 6
one_too_many = refl

no_place_before : operand_places 2 4 (codes "root" ∷ codes "x" ∷ codes "2" ∷ []) ≡ Err 5
no_place_before = refl
