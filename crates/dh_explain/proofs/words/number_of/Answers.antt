use Rattle.std.proofs.Common.{sym, ap, ◌∙◌}
use Rattle.dh_explain.specs.RuleWords.{is_numeral}
use Rattle.dh_explain.proofs.Numerals.{number_read}
use Rattle.dh_explain.proofs.words.number_of.Goals as goal

pub returns : goal.returns
returns c =
    c.ok.ensures.value
    ∙ number_read c.args.word.now c.from_str_radix.result (ap is_numeral (sym c.as_bytes.ensures.value) ∙ (sym c.is_numeral.ensures ∙ c.if-not-is_numeral.false)) c.from_str_radix.ensures.value
