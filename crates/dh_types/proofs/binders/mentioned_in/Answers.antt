use Rattle.std.proofs.Common.{sym, ◌∙◌}
use Rattle.dh_types.proofs.Comparisons.{mentioned-behind, mentioned-here, unmentioned-here}
use Rattle.dh_types.proofs.binders.mentioned_in.Goals as goal
use Rattle.dh_types.proofs.binders.mentioned_in.Goals.{in-Some-false, in-None+in_ok-waits-in-None}

pub returns-in-Some-true : goal.returns-in-Some-true
returns-in-Some-true c = λ f t.
    sym (c.loop-kid.invariant.mentions f t
    (mentioned-here f c.args.place.level c.args.kids.now c.loop-kid.kid-index c.kid-item.result c.loop-kid-test.true c.kid-item.is c.in-Some-true.field-0 c.in-Some.level
    (t c.kid-item.result.code c.in-Some.level c.in-Some-true.field-0 (sym c.get.ensures ∙ c.in-Some-true.is)) c.in-Some.ensures (let b = c.in-Some-true.field-0-test in cc)))

pub loop-kid-preserved : goal.loop-kid-preserved
loop-kid-preserved c = record {
  mentions = λ f t h. c.loop-kid.invariant.mentions f t (mentioned-behind f c.args.place.level c.args.kids.now c.loop-kid.kid-index c.kid-item.result c.loop-kid-test.true c.kid-item.is h);
  agrees = λ f t w. elim c.match-get.branch [
    | in-Some-false b ↦
        sym (unmentioned-here f c.args.place.level c.args.kids.now c.loop-kid.kid-index c.kid-item.result c.loop-kid-test.true c.kid-item.is b.in-Some-false.field-0 c.in-Some.level
        (t c.kid-item.result.code c.in-Some.level b.in-Some-false.field-0 (sym c.get.ensures ∙ b.in-Some-false.is)) c.in-Some.ensures (let p = b.in-Some-false.field-0-test in cc))
        ∙ c.loop-kid.invariant.agrees f t (let p = b.waits-is in cc)
    | in-None+in_ok-waits-in-None b ↦ absurd (let p = b.waits-is in let q = b.in_ok-waits-in-None.ensures in cc)
  ];
}
