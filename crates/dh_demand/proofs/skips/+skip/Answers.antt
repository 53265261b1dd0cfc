use Rattle.std.proofs.Common.{ap, ◌∙◌, drop}
use Rattle.dh_syntax.specs.Expressions.Bridge.{row_of}
use Rattle.dh_demand.specs.Scans.{imports_of_parts}
use Rattle.dh_demand.proofs.Skipping.{skip_variable, skip_node, skip_keeps, skip_ends}
use Rattle.dh_demand.proofs.skips.+skip.Goals as goal

pub skip-returns-in-Var : goal.skip-returns-in-Var
skip-returns-in-Var t c = skip_variable c.args.e.now c.in-Var.field-0 c.in-Var.field-1 _ c.in-Var.is

pub skip-returns-in-Node : goal.skip-returns-in-Node
skip-returns-in-Node t c = skip_node c.args.e.now c.in-Node.op c.in-Node.kids _ _ _ c.in-Node.is c.skip_node.ensures c.skip_kids.ensures

pub skip_kids-loop-kid-preserved : goal.skip_kids-loop-kid-preserved
skip_kids-loop-kid-preserved t c =
    skip_keeps c.as_slice-kid-items.result.now c.loop-kid.kid-index c.kid-item.result _ _ _ c.loop-kid-test.true c.kid-item.is c.skip-rest.ensures c.loop-kid.invariant

pub skip_kids-returns : goal.skip_kids-returns
skip_kids-returns t c =
    skip_ends c.as_slice-kid-items.result.now c.loop-kid.kid-index _ _ c.loop-kid-test.false c.loop-kid.invariant
    ∙ ap (λ ks. drop (imports_of_parts (row_of ks)) c.args.edges.now) c.as_slice-kid-items.ensures
