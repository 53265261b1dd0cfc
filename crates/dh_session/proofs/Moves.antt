-- Elements that go from one list to the next.
use Rattle.std.proofs.Common.{◌≡◌, ℕ, ◌+◌, List, [], ◌∷◌, ◌++◌, map, append_assoc, arith}
use Rattle.std.specs.Prelude.{All}
use Rattle.std.proofs.lemmas.Grind.{common_steps}
use Rattle.std.proofs.lemmas.List.{map-append}

pub moved : {P Q : Type 0} (f : P → Q) (xs : List P) (p : P) (ys : List Q) → map f (xs ++ p ∷ []) ++ ys ≡ map f xs ++ f p ∷ ys
moved f xs p ys = simp (map-append, append_assoc)

pub all_push : {X : Type 0} (P : X → Type 0) (xs ys : List X) (x : X) → ys ≡ xs ++ x ∷ [] → All P xs → P x → All P ys
all_push P xs ys x is all px = rw is (grind (arith, common_steps))
