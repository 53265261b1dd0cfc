use Rattle.std.proofs.Common.{min, ap, sym, ◌∙◌, arith}
use Rattle.dh_syntax.specs.Expressions.Bridge.{term, row_of}
use Rattle.dh_syntax.specs.Expressions.Nesting.{nesting, parts_nesting}
use Rattle.dh_syntax.proofs.Bridge.{term-Var, term-Node}
use Rattle.dh_syntax.proofs.Nesting.{nesting_keeps, nesting_ends}
use Rattle.dh_terms.proofs.conditions.+levels.Goals as goal

pub levels-returns-in-Var : goal.levels-returns-in-Var
levels-returns-in-Var t c = sym (ap (λ e. min (nesting (term e)) 4294967296) c.in-Var.is ∙ ap (λ n. min n 4294967296) (ap nesting (term-Var c.in-Var.field-0 c.in-Var.field-1)))

pub levels-returns-in-Node : goal.levels-returns-in-Node
levels-returns-in-Node t c =
    c.levels_of_kids.ensures ∙ sym (ap (λ e. min (nesting (term e)) 4294967296) c.in-Node.is ∙ ap (λ n. min n 4294967296) (ap nesting (term-Node c.in-Node.field-0 c.in-Node.kids)))

pub levels_of_kids-loop-kid-preserved : goal.levels_of_kids-loop-kid-preserved
levels_of_kids-loop-kid-preserved t c =
    record {
      fits = omega (arith, c.max-most.ensures, c.min.ensures, c.loop-kid.invariant.fits);
      whole = nesting_keeps c.as_slice-kid-items.result.now c.loop-kid.kid-index c.loop-kid.most 4294967296 c.levels.result c.min.result c.max-most.result _ c.kid-item.result
          c.loop-kid-test.true c.kid-item.is c.levels.ensures c.min.ensures c.max-most.ensures c.loop-kid.invariant.whole;
    }

pub levels_of_kids-returns : goal.levels_of_kids-returns
levels_of_kids-returns t c =
    nesting_ends c.as_slice-kid-items.result.now c.loop-kid.kid-index c.loop-kid.most 4294967296 _ c.loop-kid-test.false c.loop-kid.invariant.fits c.loop-kid.invariant.whole
    ∙ ap (λ ks. min (parts_nesting (row_of ks)) 4294967296) c.as_slice-kid-items.ensures
