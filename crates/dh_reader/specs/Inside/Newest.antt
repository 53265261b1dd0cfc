-- What the frame on top of a stack is.
use Rattle.std.specs.Prelude.{Bool, true, false, ◌∷◌}
use Rattle.dh_grammar.specs.Machine.{Sorts, Stack, «open», shut, first, update}

-- the first operand of `merge` is awaited
abbrev pub awaits_first : {K : Sorts} → Stack K → Bool
awaits_first (shut first ∷ st) = true
awaits_first _ = false

-- the value of an update is awaited
abbrev pub updates : {K : Sorts} → Stack K → Bool
updates («open» (update x ks) ∷ st) = true
updates _ = false
