-- Loops that take the items of a list one at a time.
use Rattle.std.proofs.Common.{◌≡◌, ℕ, ◌+◌, List, [], ◌∷◌, ◌++◌, length, refl, ap, ◌∙◌, append_assoc, arith}

pub nothing_left : {X : Type 0} (xs : List X) → length xs ≡ 0 → xs ≡ []
nothing_left [] h = refl
nothing_left (x ∷ xs) h = absurd (omega arith)

-- the number of items that are left
pub one_taken : {X : Type 0} (x : X) (xs rest : List X) (n m : ℕ) → xs ≡ x ∷ rest → m + 1 ≡ n → n ≡ length xs → m ≡ length rest
one_taken x xs rest n m e f h = let whole : length xs ≡ length rest + 1 = ap length e ∙ omega arith in omega (arith, f, h, whole)

-- one item more at the end of what is done, and one less of what is left
pub carried : {Y : Type 0} (old new rest : List Y) (y z : Y) → new ≡ old ++ y ∷ [] → y ≡ z → new ++ rest ≡ old ++ z ∷ rest
carried old new rest y z e f = ap (λ n. n ++ rest) e ∙ append_assoc old (y ∷ []) rest ∙ ap (λ w. old ++ w ∷ rest) f
