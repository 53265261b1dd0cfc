use Rattle.std.proofs.Common.{◌∙◌, sym}
use Rattle.dh_tokens.proofs.FrontBytes.{code_form-comment}
use Rattle.dh_tokens.proofs.fronts.brace.Goals as goal

pub returns-then-starts_with-clause-value : goal.returns-then-starts_with-clause-value
returns-then-starts_with-clause-value c = c.block_comment.ensures.value ∙ sym (code_form-comment c.args.rest.now (sym c.starts_with.ensures.value ∙ c.if-starts_with.true))
