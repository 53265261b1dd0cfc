use Rattle.std.proofs.Common.{ap, ◌∙◌}
use Rattle.dh_command.specs.Responses.{answer as answer_of}
use Rattle.dh_top.proofs.telling.explain.Goals as goal

pub returns : goal.returns
returns c = (c.told.result.now, c.told.ensures, c.answer.ensures ∙ ap (λ v. answer_of v.items) c.into_bytes.ensures.value ∙ ap answer_of c.in_ok-text.ensures.ok)
