use Rattle.std.proofs.Common.{◌≡◌, vec_len}
use Rattle.dh_desks.proofs.desks.some_desks.Given as goal

abbrev pub invariant-loop : goal.invariant-loop
invariant-loop g l = vec_len l.desks ≡ l.counter
