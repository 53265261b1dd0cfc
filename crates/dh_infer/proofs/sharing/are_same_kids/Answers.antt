use Rattle.std.proofs.Common.{arith}
use Rattle.dh_infer.proofs.AlikeCodes.{row-next, rows-end}
use Rattle.dh_infer.proofs.sharing.are_same_kids.Goals as goal

pub loop-i-preserved : goal.loop-i-preserved
loop-i-preserved c = λ g s h.
    c.loop-i.invariant g s
    (row-next g c.args.kids.now c.args.others.now c.loop-i.i c.index-kids-i.result c.index-others-i.result c.loop-i-test.true (omega (arith, c.loop-i-test.true, c.if-kids-others.false)) c.index-kids-i.is c.index-others-i.is
    (c.is_same_kid.ensures.binder c.if-not-is_same_kid.false) (c.is_same_kid.ensures.code c.if-not-is_same_kid.false g s) h)

pub returns : goal.returns
returns c = λ e g s. c.loop-i.invariant g s (rows-end g c.args.kids.now c.args.others.now c.loop-i.i (omega (arith, c.loop-i-test.false)) (omega (arith, c.loop-i-test.false, c.if-kids-others.false)))
