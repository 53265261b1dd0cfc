use Rattle.dh_syntax.specs.Expressions.Bridge.{term}
use Rattle.dh_work.proofs.Bringings.{not_whole, not_read}
use Rattle.dh_work.proofs.looking.whole_expr.Goals as goal

pub returns-in_default-clause-whole : goal.returns-in_default-clause-whole
returns-in_default-clause-whole c = not_read c.args.bytes.now c.in-Err.fault (c.in-Err.ensures.refused c.in_default.not-Memory)

pub returns-else-branch-clause-whole : goal.returns-else-branch-clause-whole
returns-else-branch-clause-whole c =
    not_whole c.args.bytes.now (term c.in-Ok.e) c.in_ok-is_whole-in-Ok.field-0 c.in-Ok.ensures.read c.in_ok-is_whole-in-Ok.ensures c.if-branch.false
