use Rattle.std.proofs.Common.{◌∙◌}
use Rattle.dh_watching.proofs.Ending.{cut_last, told_last}
use Rattle.dh_watching.proofs.runs.end_refused.Goals as goal

pub returns-in-Ok : goal.returns-in-Ok
returns-in-Ok g c = told_last _ _ (c.as_bytes.ensures.value ∙ c.refusal_text.ensures) _ _ _ c.in-Ok.ensures.ok c.refusal_status.ensures

pub returns-in-Err : goal.returns-in-Err
returns-in-Err g c = cut_last _ _ (c.as_bytes.ensures.value ∙ c.refusal_text.ensures) _ _ c.in-Err.ensures.err
