use Rattle.std.proofs.Common.{refl}
use Rattle.dh_decode.proofs.EntryLaws.{can_put}
use Rattle.dh_decode.proofs.entries.has_name.Goals as goal

pub returns-clause-fresh : goal.returns-clause-fresh
returns-clause-fresh c = can_put (λ y. y) (λ e. e.0.now) (λ e. refl) c.args.name tt c.args.names.now.entries c.contains.result c.len-count.ensures.ordered c.contains.ensures
