use Rattle.std.proofs.Common.{sym, ap, ◌∙◌}
use Rattle.dh_steps.specs.StepWords.{is_numeral}
use Rattle.dh_steps.proofs.Numerals.{part_read}
use Rattle.dh_steps.proofs.words.part_of.Goals as goal

pub returns : goal.returns
returns c =
    c.ok.ensures.value
    ∙ part_read c.args.word.now c.from_str_radix.result (ap is_numeral (sym c.as_bytes.ensures.value) ∙ (sym c.is_numeral.ensures ∙ c.if-not-is_numeral.false)) c.from_str_radix.ensures.value
