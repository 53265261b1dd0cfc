use Rattle.std.proofs.Common.{◌∙◌, ap, max, arith}
use Rattle.dh_syntax.specs.Text.LexForms.{LeftOut, form}
use Rattle.dh_syntax.specs.Text.LexNumbers.{fractional}
use Rattle.dh_tokens.proofs.NumberLaws.{natural_len-within}
use Rattle.dh_tokens.proofs.NumberForms.{unsigned_left_out-is}
use Rattle.dh_tokens.proofs.numbers.unsigned_left_out.Goals as goal

pub fractional_len-requires : goal.fractional_len-requires
fractional_len-requires c = omega (arith, c.requires, natural_len-within c.args.rest.now)

pub returns-clause-value : goal.returns-clause-value
returns-clause-value c =
    let bs = c.args.rest.now in
    let number = c.fractional_len.result in
    let date = c.shaped_len-date.result in
    let longest_is = c.max-3.ensures ∙ ap (max number) (c.max-2.ensures ∙ ap (max date) c.max.ensures) in
    ap (form LeftOut) longest_is
    ∙ unsigned_left_out-is bs number date c.shaped_len-time.result c.prefixed_len.result (c.fractional_len.ensures.value ∙ ap (λ n. fractional n bs) c.requires) c.shaped_len-date.ensures.value c.shaped_len-time.ensures.value c.prefixed_len.ensures.value
