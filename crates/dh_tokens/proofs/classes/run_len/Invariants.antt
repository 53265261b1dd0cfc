use Rattle.std.proofs.Common.{◌≡◌, ◌+◌, drop}
use Rattle.std.specs.List.{prefix_len}
use Rattle.dh_tokens.specs.Inside.Classes.{has}
use Rattle.dh_tokens.proofs.classes.run_len.Given as goal

abbrev pub invariant-loop-b : goal.invariant-loop-b
invariant-loop-b l =
    (l.n ≡ l.b-index) × (prefix_len (has l.class) l.rest ≡ l.n + prefix_len (has l.class) (drop l.n l.rest))
