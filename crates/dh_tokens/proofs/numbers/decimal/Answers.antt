use Rattle.std.proofs.Common.{◌+◌, ap, sym, ◌∙◌}
use Rattle.std.specs.Char.{is_ascii_digit}
use Rattle.dh_tokens.proofs.SmallNumbers.{decimal-step, run-step}
use Rattle.dh_tokens.proofs.numbers.decimal.Goals as goal

pub loop-b-preserved : goal.loop-b-preserved
loop-b-preserved c =
    let bs = c.args.rest.now in
    let here = c.loop-b.invariant in
    let passes = sym c.is_ascii_digit.ensures.value ∙ c.if-not-is_ascii_digit.false in
    record {
      at = ap (λ k. k + 1) here.at;
      len = run-step is_ascii_digit bs c.loop-b.n c.loop-b.b-index here.at c.loop-b-test.true passes here.len;
      value = decimal-step bs c.loop-b.n c.loop-b.b-index c.loop-b.value c.from.result here.at c.loop-b-test.true passes c.from.ensures here.value;
    }
