use Rattle.std.proofs.Common.{◌∙◌, ap, sym}
use Rattle.dh_command.specs.Words.{is_count}
use Rattle.dh_top.proofs.Commands.{unparsed}
use Rattle.dh_top.proofs.words.workers_of.Goals as goal

pub returns-in_err-workers : goal.returns-in_err-workers
returns-in_err-workers c =
    c.from_residual.ensures
    ∙ unparsed c.args.word.now c.from_str_radix.result (ap is_count (sym c.as_bytes.ensures.value) ∙ (sym c.is_count.ensures ∙ c.if-not-is_count.false)) c.from_str_radix.ensures.value
    (sym c.ok.ensures.value ∙ c.in_err-workers.was)
