use Rattle.dh_syntax.proofs.Order.{before_irreflexive, before-transitive, before-total}
use Rattle.dh_laws.proofs.labels.label_order_is_total.Goals as goal

pub returns : goal.returns
returns c = record { irreflexive = before_irreflexive; transitive = before-transitive; total = before-total }
