use Rattle.std.proofs.Common.{sym, ◌∙◌}
use Rattle.dh_types.proofs.ChangedRows.{kept-more, kept-row}
use Rattle.dh_types.proofs.changes.are_kept.Goals as goal

pub returns : goal.returns
returns c = λ e f g maps. kept-row f g c.args.level c.args.kids.now c.loop-kid.kid-index c.loop-kid-test.false (c.loop-kid.invariant f g maps)

pub loop-kid-preserved : goal.loop-kid-preserved
loop-kid-preserved c = λ f g maps.
    kept-more f g c.args.level c.args.kids.now c.loop-kid.kid-index c.kid-item.result c.in-Some.inner c.in-Some-get.code c.loop-kid-test.true c.kid-item.is c.in-Some.ensures c.if-code-kid.false
    (maps c.kid-item.result.code c.in-Some.inner c.in-Some-get.code (sym c.get.ensures ∙ c.in-Some-get.is)) (c.loop-kid.invariant f g maps)
