-- Worked examples of the generated texts.
use Rattle.std.specs.Prelude.{◌≡◌, Ok, Err, Some, None, [], ◌∷◌, codes, map, refl}
use Rattle.dh_syntax.specs.declared.locations.Loc.TheVariants as locs
use Rattle.dh_gen.specs.Generated.{number_at, text_of}
use Rattle.dh_gen.specs.NumberWords.{operand_number}
use Rattle.dh_gen.specs.Numbers.{number_of}

first : text_of 1 ≡ codes "1"
first = refl

at_zero : number_at (locs.Here (codes "g0" ∷ [])) ≡ Some 0
at_zero = refl

at_four : number_at (locs.Here (codes "g4" ∷ [])) ≡ Some 4
at_four = refl

at_most : number_at (locs.Here (codes "g4000" ∷ [])) ≡ Some 4000
at_most = refl

in_a_folder : number_at (locs.Here (codes "d" ∷ codes "g4" ∷ [])) ≡ None
in_a_folder = refl

elsewhere : number_at (locs.Abs (codes "g4" ∷ [])) ≡ None
elsewhere = refl

no_numbers : map number_of (codes "4001" ∷ codes "04" ∷ codes "00" ∷ codes "+4" ∷ codes "4x" ∷ [] ∷ []) ≡ None ∷ None ∷ None ∷ None ∷ None ∷ None ∷ []
no_numbers = refl

a_number : operand_number 2 (codes "4000" ∷ []) ≡ Ok 4000
a_number = refl

no_word : operand_number 2 [] ≡ Err 2
no_word = refl

too_many_words : operand_number 2 (codes "4" ∷ codes "4" ∷ []) ≡ Err 3
too_many_words = refl
