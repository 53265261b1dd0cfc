use Rattle.std.proofs.Common.{rules, arith}
use Rattle.dh_session.proofs.places.all_done.Goals as goal

pub returns-then-not-index-clause-undone : goal.returns-then-not-index-clause-undone
returns-then-not-index-clause-undone g c = λ is. (c.loop-i.i, c.index.result.now, search rules, search rules, search rules)
