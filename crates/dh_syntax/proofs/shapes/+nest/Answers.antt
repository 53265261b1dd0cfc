use Rattle.std.proofs.Common.{min, ap, sym, ◌∙◌, arith}
use Rattle.dh_syntax.specs.Expressions.Bridge.{row_of}
use Rattle.dh_syntax.specs.Expressions.Nesting.{nesting, parts_nesting}
use Rattle.dh_syntax.proofs.Bridge.{at_term-Var, at_term-Node}
use Rattle.dh_syntax.proofs.Nesting.{nesting_keeps, nesting_ends}
use Rattle.dh_syntax.proofs.shapes.+nest.Goals as goal

pub nest-returns-in-Var : goal.nest-returns-in-Var
nest-returns-in-Var t c = sym (at_term-Var (λ e. min (nesting e) 4294967295) c.args.e.now c.in-Var.field-0 c.in-Var.field-1 c.in-Var.is)

pub nest-returns-in-Node : goal.nest-returns-in-Node
nest-returns-in-Node t c =
    c.nest_of_kids.ensures ∙ sym (at_term-Node (λ e. min (nesting e) 4294967295) c.args.e.now c.in-Node.field-0 c.in-Node.kids c.in-Node.is)

pub nest_of_kids-loop-kid-preserved : goal.nest_of_kids-loop-kid-preserved
nest_of_kids-loop-kid-preserved t c =
    record {
      fits = omega arith;
      whole =
          nesting_keeps c.as_slice-kid-items.result.now c.loop-kid.kid-index c.loop-kid.most 4294967295 c.nest.result c.saturating_add.result c.max-most.result _ c.kid-item.result
          c.loop-kid-test.true c.kid-item.is c.nest.ensures c.saturating_add.ensures c.max-most.ensures c.loop-kid.invariant.whole;
    }

pub nest_of_kids-returns : goal.nest_of_kids-returns
nest_of_kids-returns t c =
    nesting_ends c.as_slice-kid-items.result.now c.loop-kid.kid-index c.loop-kid.most 4294967295 _ c.loop-kid-test.false c.loop-kid.invariant.fits c.loop-kid.invariant.whole
    ∙ ap (λ ks. min (parts_nesting (row_of ks)) 4294967295) c.as_slice-kid-items.ensures
