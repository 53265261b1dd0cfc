use Rattle.std.proofs.Common.{sym, ◌∙◌, arith}
use Rattle.dh_types.proofs.SameCodes.{counts-differ}
use Rattle.dh_types.proofs.Comparisons.{agrees-here, differs-behind, differs-here}
use Rattle.dh_types.proofs.sameness.same_parts.Goals as goal
use Rattle.dh_types.proofs.sameness.same_parts.Goals.{in-Some-true, in-None+in_ok-waits-in-None}

pub returns-then-kids-others : goal.returns-then-kids-others
returns-then-kids-others c = λ f t. sym (counts-differ f c.args.kids.now c.args.others.now c.if-kids-others.true)

pub returns-in-Some-false : goal.returns-in-Some-false
returns-in-Some-false c = λ f t.
    sym (c.loop-i.invariant.differs f t
    (differs-here f c.args.kids.now c.args.others.now c.loop-i.i c.index-kids-i.result c.index-others-i.result c.loop-i-test.true (omega (arith, c.loop-i-test.true, c.if-kids-others.false)) c.index-kids-i.is c.index-others-i.is
    (let a = c.in-Some-false.ensures f t in let b = c.in-Some-false.field-0-test in cc)))

pub loop-i-preserved : goal.loop-i-preserved
loop-i-preserved c = record {
  differs = λ f t h. c.loop-i.invariant.differs f t
      (differs-behind f c.args.kids.now c.args.others.now c.loop-i.i c.index-kids-i.result c.index-others-i.result c.loop-i-test.true (omega (arith, c.loop-i-test.true, c.if-kids-others.false)) c.index-kids-i.is c.index-others-i.is h);
  agrees = λ f t w. elim c.match-same_part.branch [
    | in-Some-true b ↦
        sym (agrees-here f c.args.kids.now c.args.others.now c.loop-i.i c.index-kids-i.result c.index-others-i.result c.loop-i-test.true (omega (arith, c.loop-i-test.true, c.if-kids-others.false)) c.index-kids-i.is c.index-others-i.is
        (let p = b.in-Some-true.ensures f t in let q = b.in-Some-true.field-0-test in cc))
        ∙ c.loop-i.invariant.agrees f t (let p = b.waits-is in cc)
    | in-None+in_ok-waits-in-None b ↦ absurd (let p = b.waits-is in let q = b.in_ok-waits-in-None.ensures in cc)
  ];
}
