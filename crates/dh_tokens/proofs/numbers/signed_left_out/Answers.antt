use Rattle.std.proofs.Common.{◌∙◌, ap}
use Rattle.dh_syntax.specs.Text.LexForms.{LeftOut, form}
use Rattle.dh_syntax.specs.Text.LexNumbers.{fractional}
use Rattle.dh_tokens.proofs.NumberLaws.{integer_len-within}
use Rattle.dh_tokens.proofs.NumberForms.{signed_left_out-is}
use Rattle.dh_tokens.proofs.numbers.signed_left_out.Goals as goal

pub fractional_len-requires : goal.fractional_len-requires
fractional_len-requires c = integer_len-within c.args.rest.now c.args.len c.requires.some c.requires.len

pub returns-clause-value : goal.returns-clause-value
returns-clause-value c =
    let bs = c.args.rest.now in
    ap (form LeftOut) c.max.ensures
    ∙ signed_left_out-is bs c.fractional_len.result c.signed_time_len.result (c.fractional_len.ensures.value ∙ ap (λ n. fractional n bs) c.requires.len) c.signed_time_len.ensures.value
