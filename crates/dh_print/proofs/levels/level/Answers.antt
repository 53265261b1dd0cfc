use Rattle.std.proofs.Common.{◌∙◌}
use Rattle.dh_print.proofs.NodeLevels.{level-Var, level-Node}
use Rattle.dh_print.proofs.levels.level.Goals as goal

pub returns-in-Var : goal.returns-in-Var
returns-in-Var c = level-Var c.args.e.now _ _ c.in-Var.is

pub returns-in-Node : goal.returns-in-Node
returns-in-Node c = c.op_level.ensures ∙ level-Node c.args.e.now _ _ c.in-Node.is c.requires
