use Rattle.std.proofs.Common.{◌<◌, ◌+◌, ◌∙◌, get_or, length, sym, ap, length-drop, arith}
use Rattle.dh_tokens.proofs.Runs.{ascii_marked, byte_within}
use Rattle.dh_tokens.proofs.UrlLaws.{more_labels-loop}
use Rattle.dh_tokens.proofs.urls.more_labels.Goals as goal

pub dots-preserved : goal.dots-preserved
dots-preserved c =
    let bs = c.args.rest.now in
    let here = c.after.result.now in
    let at = c.dots.at in
    let n = c.label_len-len.result in
    let dot = sym c.byte_at.ensures ∙ c.dots-test.true in
    let some : 0 < n = omega arith in
    let low : get_or bs at 0 < 128 = omega (arith, dot) in
    record {
      within = omega (arith, byte_within bs at (omega (arith, dot)), c.label_len-len.ensures.within, ap length c.after.ensures, length-drop (at + 1) bs);
      ascii = ascii_marked bs here at n (byte_within bs at (omega (arith, dot))) low c.after.ensures c.dots.invariant.ascii c.label_len-len.ensures.ascii;
      so_far = more_labels-loop bs here at n c.after.ensures dot some c.label_len-len.ensures.within c.label_len-len.ensures.value c.dots.invariant.so_far;
    }

pub returns-then-len-eq0-clause-ascii : goal.returns-then-len-eq0-clause-ascii
returns-then-len-eq0-clause-ascii c =
    let bs = c.args.rest.now in
    let at = c.dots.at in
    let dot = sym c.byte_at.ensures ∙ c.dots-test.true in
    let low : get_or bs at 0 < 128 = omega (arith, dot) in
    ascii_marked bs c.after.result.now at c.label_len-len.result (byte_within bs at (omega (arith, dot))) low c.after.ensures c.dots.invariant.ascii c.label_len-len.ensures.ascii
