use Rattle.std.proofs.Common.{ap}
use Rattle.dh_types.proofs.SameCodes.{same-itself}
use Rattle.dh_types.proofs.sameness.known.Goals as goal

pub returns-then-pair : goal.returns-then-pair
returns-then-pair c = λ f t. same-itself (f c.args.pair.left) (f c.args.pair.right) (ap f c.if-pair.true)
