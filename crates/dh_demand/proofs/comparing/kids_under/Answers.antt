use Rattle.std.proofs.Common.{sym, ap, ◌∙◌}
use Rattle.std.specs.Prelude.{Some, None, if◌then◌else◌}
use Rattle.std.specs.Option.{option_copied}
use Rattle.dh_syntax.specs.Expressions.Bridge.{row_of}
use Rattle.dh_demand.proofs.Compared.{under_Node, under_Var}
use Rattle.dh_demand.proofs.comparing.kids_under.Goals as goal

pub returns-then-is_same_op : goal.returns-then-is_same_op
returns-then-is_same_op c =
    sym (under_Node c.args.op.now c.in-Node.own (option_copied c.args.other) c.in-Some.other.now c.in-Node.kids (ap option_copied c.in-Some.is) c.in-Node.is
    ∙ ap (λ b. if b then Some (row_of c.in-Node.kids) else None) (sym c.is_same_op.ensures ∙ c.if-is_same_op.true))

pub returns-else-is_same_op : goal.returns-else-is_same_op
returns-else-is_same_op c =
    sym (under_Node c.args.op.now c.in-Node.own (option_copied c.args.other) c.in-Some.other.now c.in-Node.kids (ap option_copied c.in-Some.is) c.in-Node.is
    ∙ ap (λ b. if b then Some (row_of c.in-Node.kids) else None) (sym c.is_same_op.ensures ∙ c.if-is_same_op.false))

pub returns-in-Var : goal.returns-in-Var
returns-in-Var c = under_Var c.args.op.now (option_copied c.args.other) c.in-Some.other.now c.in-Var.field-0 c.in-Var.field-1 (ap option_copied c.in-Some.is) c.in-Var.is
