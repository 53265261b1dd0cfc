use Rattle.std.proofs.Common.{None, refl}
use Rattle.dh_decode.specs.Inside.Views.{entry_of}
use Rattle.dh_decode.proofs.EntryLaws.{can_put}
use Rattle.dh_decode.proofs.entries.has_entry.Goals as goal

pub returns-clause-fresh : goal.returns-clause-fresh
returns-clause-fresh c = can_put (λ e. e.name) entry_of (λ e. refl) c.args.name None c.args.entries.now.entries c.contains.result c.len-count.ensures.ordered c.contains.ensures
