use Rattle.std.proofs.Common.{subst, IsTrue}
use Rattle.dh_syntax.specs.Expressions.Bridge.{row_of}
use Rattle.dh_syntax.specs.Expressions.Values.{every_part, op_in_range, op_has_text}
use Rattle.dh_syntax.proofs.EveryNode.{every-Var, every-Node, every_keeps, every_ends}
use Rattle.dh_syntax.proofs.values.+values.Goals as goal

pub assure_values-returns-in-Var : goal.assure_values-returns-in-Var
assure_values-returns-in-Var t c =
    record {
      range = every-Var op_in_range c.args.e.now c.in-Var.field-0 c.in-Var.field-1 c.in-Var.is;
      text = every-Var op_has_text c.args.e.now c.in-Var.field-0 c.in-Var.field-1 c.in-Var.is;
    }

pub assure_values-returns-in-Node : goal.assure_values-returns-in-Node
assure_values-returns-in-Node t c =
    record {
      range = every-Node op_in_range c.args.e.now c.in-Node.op c.in-Node.kids c.in-Node.is c.assure_node.ensures.range c.assure_parts.ensures.range;
      text = every-Node op_has_text c.args.e.now c.in-Node.op c.in-Node.kids c.in-Node.is c.assure_node.ensures.text c.assure_parts.ensures.text;
    }

pub assure_parts-loop-kid-preserved : goal.assure_parts-loop-kid-preserved
assure_parts-loop-kid-preserved t c =
    let ks = c.as_slice-kid-items.result.now in
    let i = c.loop-kid.kid-index in
    record {
      range = every_keeps op_in_range ks i c.kid-item.result _ c.loop-kid-test.true c.kid-item.is c.assure_values.ensures.range c.loop-kid.invariant.range;
      text = every_keeps op_has_text ks i c.kid-item.result _ c.loop-kid-test.true c.kid-item.is c.assure_values.ensures.text c.loop-kid.invariant.text;
    }

pub assure_parts-returns : goal.assure_parts-returns
assure_parts-returns t c =
    let ks = c.as_slice-kid-items.result.now in
    let i = c.loop-kid.kid-index in
    record {
      range = subst (λ x. IsTrue (every_part op_in_range (row_of x))) c.as_slice-kid-items.ensures (every_ends op_in_range ks i _ c.loop-kid-test.false c.loop-kid.invariant.range);
      text = subst (λ x. IsTrue (every_part op_has_text (row_of x))) c.as_slice-kid-items.ensures (every_ends op_has_text ks i _ c.loop-kid-test.false c.loop-kid.invariant.text);
    }
