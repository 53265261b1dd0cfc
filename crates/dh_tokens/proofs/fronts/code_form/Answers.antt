use Rattle.std.proofs.Common.{◌∙◌, sym, ap, option_map}
use Rattle.std.proofs.lemmas.Bool.{eqb-true}
use Rattle.dh_syntax.specs.Text.LexLocations.{path}
use Rattle.dh_syntax.specs.Text.LexNames.{quoted_name}
use Rattle.dh_tokens.specs.Inside.Forms.{form_of, joined}
use Rattle.dh_tokens.specs.Inside.LongestForms.{longest_form}
use Rattle.dh_tokens.specs.Inside.Numbers.{signed_form}
use Rattle.dh_tokens.proofs.FrontBytes.{code_form-apostrophe, code_form-backtick, code_form-path, code_form-plus, code_form-quote, code_form-white}
use Rattle.dh_tokens.proofs.FrontClassLaws.{code_form-digit, code_form-other, code_form-word}
use Rattle.dh_tokens.proofs.LongestLaws.{longest_form-is}
use Rattle.dh_tokens.proofs.PlaceForms.{ok_as}
use Rattle.dh_tokens.proofs.fronts.code_form.Goals as goal

pub returns-in-White-clause-value : goal.returns-in-White-clause-value
returns-in-White-clause-value c = c.white_space.ensures.value ∙ sym (code_form-white c.args.rest.now c.in-White.ensures) ∙ sym (longest_form-is c.args.rest.now)

pub returns-in_ok-word-in-Word-clause-value : goal.returns-in_ok-word-in-Word-clause-value
returns-in_ok-word-in-Word-clause-value c = c.in_ok-word-in-Word.ensures.value ∙ sym (code_form-word c.args.rest.now c.in-Word.ensures) ∙ sym (longest_form-is c.args.rest.now)

pub returns-in-Digit-clause-value : goal.returns-in-Digit-clause-value
returns-in-Digit-clause-value c = c.number.ensures.value ∙ sym (code_form-digit c.args.rest.now c.in-Digit.ensures) ∙ sym (longest_form-is c.args.rest.now)

pub returns-in-Quote-clause-value : goal.returns-in-Quote-clause-value
returns-in-Quote-clause-value c = sym (code_form-quote c.args.rest.now (eqb-true _ 34 c.in-Quote.ensures)) ∙ sym (longest_form-is c.args.rest.now)

pub returns-in-Apostrophe-clause-value : goal.returns-in-Apostrophe-clause-value
returns-in-Apostrophe-clause-value c = c.multi_line_opening.ensures.value ∙ sym (code_form-apostrophe c.args.rest.now (eqb-true _ 39 c.in-Apostrophe.ensures)) ∙ sym (longest_form-is c.args.rest.now)

pub returns-in-Plus-clause-value : goal.returns-in-Plus-clause-value
returns-in-Plus-clause-value c =
    c.longer.ensures.value
    ∙ ap (λ f. joined f (option_map form_of c.mark.result)) c.signed_number.ensures.value
    ∙ ap (joined (signed_form c.args.rest.now)) c.mark.ensures.value
    ∙ sym (code_form-plus c.args.rest.now (eqb-true _ 43 c.in-Plus.ensures)) ∙ sym (longest_form-is c.args.rest.now)

pub returns-in_ok-path-in-Path-clause-value : goal.returns-in_ok-path-in-Path-clause-value
returns-in_ok-path-in-Path-clause-value c =
    c.longer-in-Path.ensures.value
    ∙ ap (λ f. joined f (option_map form_of c.mark-in-Path.result)) c.in_ok-path-in-Path.ensures.value
    ∙ ap (joined (path c.args.rest.now)) c.mark-in-Path.ensures.value
    ∙ sym (code_form-path c.args.rest.now c.in-Path.ensures) ∙ sym (longest_form-is c.args.rest.now)

pub returns-in-Other-clause-value : goal.returns-in-Other-clause-value
returns-in-Other-clause-value c = c.mark-in-Other.ensures.value ∙ sym (code_form-other c.args.rest.now c.requires.some c.in-Other.ensures) ∙ sym (longest_form-is c.args.rest.now)

pub returns-in-Backtick-clause-value : goal.returns-in-Backtick-clause-value
returns-in-Backtick-clause-value c =
    let bs = c.args.rest.now in
    ok_as c.quoted_name.result (option_map form_of) (quoted_name bs) (longest_form bs) c.quoted_name.ensures.value (sym (code_form-backtick bs (eqb-true _ 96 c.in-Backtick.ensures)) ∙ sym (longest_form-is bs))

pub returns-in-Brace-clause-value : goal.returns-in-Brace-clause-value
returns-in-Brace-clause-value c = c.brace.ensures.value ∙ sym (longest_form-is c.args.rest.now)

pub returns-in-Minus-clause-value : goal.returns-in-Minus-clause-value
returns-in-Minus-clause-value c = c.minus.ensures.value ∙ sym (longest_form-is c.args.rest.now)
