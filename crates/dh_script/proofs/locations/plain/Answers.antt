use Rattle.std.proofs.Common.{◌∙◌, sym, true≢false}
use Rattle.dh_script.proofs.Placing.{other_node, plain_var, some_node}
use Rattle.dh_script.proofs.locations.plain.Goals as goal

pub returns-in-Var : goal.returns-in-Var
returns-in-Var c = plain_var c.args.expression.now c.in-Var.field-0 c.in-Var.field-1 c.in-Var.is

pub returns-then-is_empty : goal.returns-then-is_empty
returns-then-is_empty c =
    some_node c.args.expression.now c.in-Node.op c.in-Node.kids _ c.in-Node.is (c.is_empty.ensures.0 c.if-is_empty.true) c.plain_operator.ensures

pub returns-else-is_empty : goal.returns-else-is_empty
returns-else-is_empty c =
    other_node c.args.expression.now c.in-Node.op c.in-Node.kids c.in-Node.is (λ q. true≢false (sym (c.is_empty.ensures.1 q) ∙ c.if-is_empty.false))
