use Rattle.std.proofs.Common.{sym, ap, ◌∙◌}
use Rattle.dh_terms.specs.Cores.{nameless_row}
use Rattle.dh_work.specs.Inside.Frees.{has_free_row}
use Rattle.dh_work.proofs.FreeRows.{free_bound, free_free, free_node, row_found, row_passed, row_ended}
use Rattle.dh_work.proofs.closed.+free.Goals as goal

pub has_free-returns-in-Bound : goal.has_free-returns-in-Bound
has_free-returns-in-Bound t c = free_bound c.args.c.now _ c.in-Bound.is

pub has_free-returns-in-Free : goal.has_free-returns-in-Free
has_free-returns-in-Free t c = free_free c.args.c.now _ _ c.in-Free.is

pub has_free-returns-in-Node : goal.has_free-returns-in-Node
has_free-returns-in-Node t c = free_node c.args.c.now _ c.in-Node.kids _ c.in-Node.is c.has_free_in.ensures

pub has_free_in-returns-then-has_free : goal.has_free_in-returns-then-has_free
has_free_in-returns-then-has_free t c =
    row_found c.as_slice-kid-items.result.now c.loop-kid.kid-index c.kid-item.result _ c.loop-kid-test.true c.kid-item.is (sym c.if-has_free.true ∙ c.has_free.ensures)
    (c.loop-kid.invariant ∙ ap (λ ks. has_free_row (nameless_row ks)) c.as_slice-kid-items.ensures)

pub has_free_in-loop-kid-preserved : goal.has_free_in-loop-kid-preserved
has_free_in-loop-kid-preserved t c =
    row_passed c.as_slice-kid-items.result.now c.loop-kid.kid-index c.kid-item.result _ c.loop-kid-test.true c.kid-item.is (sym c.if-has_free.false ∙ c.has_free.ensures) c.loop-kid.invariant

pub has_free_in-returns : goal.has_free_in-returns
has_free_in-returns t c =
    row_ended c.as_slice-kid-items.result.now c.loop-kid.kid-index _ c.loop-kid-test.false
    (c.loop-kid.invariant ∙ ap (λ ks. has_free_row (nameless_row ks)) c.as_slice-kid-items.ensures)
