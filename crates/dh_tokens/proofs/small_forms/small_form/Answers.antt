use Rattle.std.proofs.Common.{◌∙◌}
use Rattle.dh_syntax.specs.declared.tokens.TokenKind.TheVariants as kinds
use Rattle.dh_syntax.specs.Text.LexForms.{Is}
use Rattle.dh_tokens.proofs.FormLaws.{form-some}
use Rattle.dh_tokens.proofs.FrontClassLaws.{code_form-digit}
use Rattle.dh_tokens.proofs.LongestLaws.{longest_form-is}
use Rattle.dh_tokens.proofs.small_forms.small_form.Goals as goal

pub returns-in_ok-n-in-Digit-clause-value : goal.returns-in_ok-n-in-Digit-clause-value
returns-in_ok-n-in-Digit-clause-value c =
    let bs = c.args.rest.now in
    let read = c.in_ok-n-in-Digit in
    longest_form-is bs ∙ code_form-digit bs c.in-Digit.ensures ∙ read.ensures.value ∙ form-some (Is (kinds.Natural read.n)) read.len read.ensures.within.0
