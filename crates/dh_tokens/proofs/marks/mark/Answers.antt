use Rattle.std.proofs.Common.{◌∙◌, sym}
use Rattle.dh_tokens.proofs.FormLaws.{form-some}
use Rattle.dh_tokens.proofs.marks.mark.Goals as goal

pub returns-clause-value : goal.returns-clause-value
returns-clause-value c = sym (form-some _ c.in_ok-mark.len c.in_ok-mark.ensures.within.0) ∙ c.in_ok-mark.ensures.value
