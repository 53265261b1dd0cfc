use Rattle.std.proofs.Common.{◌∙◌, ◌≡◌, ap, min, length, length-drop, arith}
use Rattle.std.proofs.Math.Nat.{min-le_right}
use Rattle.dh_syntax.specs.Text.Characters.{line_end_len}
use Rattle.dh_tokens.proofs.GapSteps.{line-step}
use Rattle.dh_tokens.proofs.gaps.line_len.Goals as goal

pub loop-n-preserved : goal.loop-n-preserved
loop-n-preserved c =
    let here = c.after-here.result.now in
    let n = c.loop-n.n in
    let none : line_end_len here ≡ 0 = omega arith in
    let step = c.min-n.ensures ∙ ap (λ k. min k (length here)) c.char_len.ensures.value in
    record {
      within = omega (arith, min-le_right c.char_len.result (length here), length-drop n c.args.rest.now, ap length c.after-here.ensures);
      so_far = line-step c.args.rest.now here n c.min-n.result c.may_stand.result c.after-here.ensures c.loop-n-test.true none c.if-not-may_stand.false c.may_stand.ensures step c.loop-n.invariant.so_far;
    }
