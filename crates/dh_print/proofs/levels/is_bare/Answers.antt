use Rattle.std.proofs.Common.{◌∙◌}
use Rattle.dh_print.proofs.NodeLevels.{bare-Var, bare-Node}
use Rattle.dh_print.proofs.levels.is_bare.Goals as goal

pub returns-in-Var : goal.returns-in-Var
returns-in-Var c = bare-Var c.args.e.now _ _ c.in-Var.is

pub returns-in-Node : goal.returns-in-Node
returns-in-Node c = c.is_bare_op.ensures ∙ bare-Node c.args.e.now _ _ c.in-Node.is c.requires
