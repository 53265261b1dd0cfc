-- The words of a run.
use Rattle.std.specs.Prelude.{ℕ, List, [], ◌∷◌, map, drop, Result, Ok, Err}
use Rattle.std.specs.declared.vec.IntoIter.{IntoIter}
use Rattle.std.specs.Vec.Iter.{into_iter_items}

-- the words after the program's name; where one of them cannot be told, one word without a byte
abbrev pub words_told : {S A E : Type 0} → (S → List ℕ) → Result (IntoIter S A) E → List (List ℕ)
words_told text (Ok args) = map text (drop 1 (into_iter_items args))
words_told text (Err e) = [] ∷ []
