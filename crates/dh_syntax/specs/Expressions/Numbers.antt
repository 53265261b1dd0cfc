-- Tests on numbers and lists by structure, so that inductions compute.
use Rattle.std.specs.Prelude.{ℕ, zero, suc, Bool, true, false, ◌&&◌, List, [], ◌∷◌}

-- whether two numbers are equal
abbrev pub eq : ℕ → ℕ → Bool
eq zero zero = true
eq (suc m) (suc n) = eq m n
eq _ _ = false

-- whether the first number is at most the second
abbrev pub le : ℕ → ℕ → Bool
le zero n = true
le (suc m) zero = false
le (suc m) (suc n) = le m n

-- whether the first number is less than the second
abbrev pub lt : ℕ → ℕ → Bool
lt m n = le (suc m) n

-- one less than a number, 0 for 0
abbrev pub pred : ℕ → ℕ
pred zero = zero
pred (suc n) = n

-- whether two texts have the same bytes
abbrev pub bytes_eq : List ℕ → List ℕ → Bool
bytes_eq [] [] = true
bytes_eq (a ∷ as') (b ∷ bs) = eq a b && bytes_eq as' bs
bytes_eq _ _ = false
