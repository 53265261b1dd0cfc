use Rattle.std.proofs.Common.{◌≡◌}
use Rattle.std.specs.Prelude.{vec_len}
use Rattle.dh_top.proofs.generating.desks_made.Given as goal

abbrev pub invariant-loop : goal.invariant-loop
invariant-loop l = vec_len l.desks ≡ l.counter
