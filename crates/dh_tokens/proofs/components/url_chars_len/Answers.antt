use Rattle.std.proofs.Common.{◌<◌, length, ap, length-drop, arith}
use Rattle.dh_tokens.specs.Inside.Components.{is_url_byte}
use Rattle.dh_tokens.proofs.ComponentLaws.{url_chars-loop}
use Rattle.dh_tokens.proofs.Runs.{ascii_more}
use Rattle.dh_tokens.proofs.components.url_chars_len.Goals as goal

pub loop-at-preserved : goal.loop-at-preserved
loop-at-preserved c =
    let bs = c.args.rest.now in
    let here = c.after.result.now in
    let n = c.url_char_len-len.result in
    let some : 0 < n = omega arith in
    record {
      within = omega (arith, c.url_char_len-len.ensures.within, ap length c.after.ensures, length-drop c.loop-at.at bs);
      ascii = ascii_more bs here c.loop-at.at n c.after.ensures c.loop-at.invariant.ascii c.url_char_len-len.ensures.ascii;
      so_far = url_chars-loop (is_url_byte c.args.in_query) bs here c.loop-at.at n c.after.ensures some c.url_char_len-len.ensures.within c.url_char_len-len.ensures.value c.loop-at.invariant.so_far;
    }
