use Rattle.std.proofs.Common.{rules}
use Rattle.dh_batch.proofs.stands.all_served.Goals as goal

pub returns-then-not-index-clause-any : goal.returns-then-not-index-clause-any
returns-then-not-index-clause-any g c = λ is. (c.loop-i.i, c.index.result.now, search rules, search rules, search rules)
