use Rattle.std.proofs.Common.{arith}
use Rattle.dh_print.proofs.Items.{item_well_formed}
use Rattle.dh_print.proofs.NodeLevels.{before_annotation, before_annotation_bare, none_before_annotation}
use Rattle.dh_print.proofs.levels.level_before_annotation.Goals as goal

pub is_bare-requires : goal.is_bare-requires
is_bare-requires c = item_well_formed c.args.kids.now 0 c.first-item.result (omega arith) c.first-item.is c.requires

pub returns-in-empty : goal.returns-in-empty
returns-in-empty c = none_before_annotation 1 c.args.kids.now (omega arith)

pub returns-then-is_bare : goal.returns-then-is_bare
returns-then-is_bare c = before_annotation_bare c.args.kids.now c.first-item.result (omega arith) c.first-item.is c.requires c.if-is_bare.ensures

pub returns-else-is_bare : goal.returns-else-is_bare
returns-else-is_bare c = before_annotation c.args.kids.now c.first-item.result (omega arith) c.first-item.is c.if-is_bare.ensures
