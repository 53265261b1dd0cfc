use Rattle.std.proofs.Common.{ap, sym, ◌∙◌, refl, arith}
use Rattle.dh_syntax.specs.Typing.NamelessTyping.{mentions}
use Rattle.dh_store.specs.Cells.{code_core}
use Rattle.dh_types.proofs.BoundVariables.{mentions-bound}
use Rattle.dh_types.proofs.Comparisons.{mentioned-here, row-told, unmentioned-here}
use Rattle.dh_types.proofs.binders.+walked.Goals as goal

pub walked-walked_row-requires : goal.walked-walked_row-requires
walked-walked_row-requires t c = (omega (arith, c.decreases), c.requires.coded)

pub walked-returns-in-Bound : goal.walked-returns-in-Bound
walked-returns-in-Bound t c = mentions-bound (code_core c.args.codes.now c.args.place.id) c.in-Bound.index c.in-Bound.index c.args.place.level c.in-Bound.ensures refl

pub walked-returns-in-Node : goal.walked-returns-in-Node
walked-returns-in-Node t c =
    row-told c.walked_row.result _ (mentions c.args.place.level (code_core c.args.codes.now c.args.place.id)) (sym (ap (mentions c.args.place.level) c.in-Node.ensures.core)) c.walked_row.ensures

pub walked_row-returns-in-Some-true : goal.walked_row-returns-in-Some-true
walked_row-returns-in-Some-true t c =
    let f = code_core c.args.codes.now in
    sym
    (sym c.loop-kid.invariant
    ∙ mentioned-here f c.args.level c.args.kids.now c.loop-kid.kid-index c.kid-item.result c.loop-kid-test.true c.kid-item.is c.in-Some-true.field-0 c.in-Some.level c.in-Some-true.ensures c.in-Some.ensures
    (let b = c.in-Some-true.field-0-test in cc))

pub walked_row-loop-kid-preserved : goal.walked_row-loop-kid-preserved
walked_row-loop-kid-preserved t c =
    let f = code_core c.args.codes.now in
    sym (unmentioned-here f c.args.level c.args.kids.now c.loop-kid.kid-index c.kid-item.result c.loop-kid-test.true c.kid-item.is c.in-Some-false.field-0 c.in-Some.level c.in-Some-false.ensures c.in-Some.ensures
    (let b = c.in-Some-false.field-0-test in cc))
    ∙ c.loop-kid.invariant
