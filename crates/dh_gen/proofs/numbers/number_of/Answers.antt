use Rattle.std.proofs.Common.{◌∙◌, ap, sym}
use Rattle.dh_gen.specs.Numbers.{is_numeral}
use Rattle.dh_gen.proofs.Numerals.{unparsed}
use Rattle.dh_gen.proofs.numbers.number_of.Goals as goal

pub returns-in_err-number : goal.returns-in_err-number
returns-in_err-number c =
    c.from_residual.ensures
    ∙ unparsed c.args.word.now c.from_str_radix.result (ap is_numeral (sym c.as_bytes.ensures.value) ∙ (sym c.is_numeral.ensures ∙ c.if-not-is_numeral.false)) c.from_str_radix.ensures.value
    (sym c.ok.ensures.value ∙ c.in_err-number.was)
