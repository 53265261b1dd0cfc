-- The order of labels: that of their UTF-8 bytes (the standard's "Binary encoding", "Records").
use Rattle.std.specs.Prelude.{ℕ, Bool, true, false, ◌&&◌, ◌||◌, List, [], ◌∷◌}
use Rattle.dh_syntax.specs.Expressions.Numbers.{eq, lt}

-- whether the first text comes before the second
abbrev pub before : List ℕ → List ℕ → Bool
before [] [] = false
before [] (y ∷ ys) = true
before (x ∷ xs) [] = false
before (x ∷ xs) (y ∷ ys) = lt x y || (eq x y && before xs ys)

-- whether each label comes before the next one
abbrev pub ascending : List (List ℕ) → Bool
ascending [] = true
ascending (x ∷ []) = true
ascending (x ∷ y ∷ ys) = before x y && ascending (y ∷ ys)
