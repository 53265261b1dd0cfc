-- The order of labels.
use Rattle.std.specs.Prelude.{◌≡◌, Bool, true, false, [], ◌∷◌, map, codes, refl}
use Prim.Native.String.{String}
use Rattle.dh_syntax.specs.Expressions.Order.{before, ascending}

-- whether the first text comes before the second
abbrev in_order : String × String → Bool
in_order p = before (codes p.0) (codes p.1)

-- a prefix comes first, and capitals before small letters
comes_before : map in_order (("", "a") ∷ ("a", "ab") ∷ ("ab", "b") ∷ ("B", "a") ∷ ("ab", "ac") ∷ []) ≡ true ∷ true ∷ true ∷ true ∷ true ∷ []
comes_before = refl

comes_not_before : map in_order (("", "") ∷ ("a", "a") ∷ ("a", "") ∷ ("ab", "a") ∷ ("b", "ab") ∷ ("ba", "ab") ∷ ("a", "B") ∷ []) ≡ false ∷ false ∷ false ∷ false ∷ false ∷ false ∷ false ∷ []
comes_not_before = refl

ascends : map (λ xs. ascending (map codes xs)) ([] ∷ ("b" ∷ []) ∷ ("a" ∷ "b" ∷ "c" ∷ []) ∷ []) ≡ true ∷ true ∷ true ∷ []
ascends = refl

ascends_not : map (λ xs. ascending (map codes xs)) (("b" ∷ "a" ∷ []) ∷ ("a" ∷ "a" ∷ []) ∷ ("a" ∷ "c" ∷ "b" ∷ []) ∷ []) ≡ false ∷ false ∷ false ∷ []
ascends_not = refl
