-- Elements that go from one list to the next.
use Rattle.std.proofs.Common.{◌≡◌, List, [], ◌∷◌, ◌++◌, map, append_assoc}
use Rattle.std.proofs.lemmas.List.{map-append}

pub moved : {P Q : Type 0} (f : P → Q) (xs : List P) (p : P) (ys : List Q) → map f (xs ++ p ∷ []) ++ ys ≡ map f xs ++ f p ∷ ys
moved f xs p ys = simp (map-append, append_assoc)
