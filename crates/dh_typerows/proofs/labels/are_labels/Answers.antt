use Rattle.dh_typerows.proofs.HandlerLists.{other-labels}
use Rattle.dh_typerows.proofs.labels.are_labels.Goals as goal

pub returns-then-labels-alts : goal.returns-then-labels-alts
returns-then-labels-alts c = other-labels c.args.labels.now c.args.alts.now c.if-labels-alts.true
