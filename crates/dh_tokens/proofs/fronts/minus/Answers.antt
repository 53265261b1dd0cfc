use Rattle.std.proofs.Common.{Bool, None, if◌then◌else◌, ◌∙◌, sym, ap}
use Rattle.dh_syntax.specs.Text.LexForms.{LeftOut, form}
use Rattle.dh_tokens.proofs.FrontBytes.{code_form-arrow, code_form-line_comment, code_form-minus, code_form-minus_infinity}
use Rattle.dh_tokens.proofs.fronts.minus.Goals as goal

pub returns-then-starts_with-clause-value : goal.returns-then-starts_with-clause-value
returns-then-starts_with-clause-value c = c.line_comment.ensures.value ∙ sym (code_form-line_comment c.args.rest.now (sym c.starts_with.ensures.value ∙ c.if-starts_with.true))

pub returns-then-starts_with-2-clause-value : goal.returns-then-starts_with-2-clause-value
returns-then-starts_with-2-clause-value c = c.mark.ensures.value ∙ sym (code_form-arrow c.args.rest.now (sym c.starts_with-2.ensures.value ∙ c.if-starts_with-2.true))

pub returns-then-begins_minus_infinity-clause-value : goal.returns-then-begins_minus_infinity-clause-value
returns-then-begins_minus_infinity-clause-value c =
    sym (code_form-minus_infinity c.args.rest.now (record { found = LeftOut; len = 9 }) (c.begins_minus_infinity.ensures ∙ ap (λ (b : Bool). if b then form LeftOut 9 else None) c.if-begins_minus_infinity.true))

pub returns-clause-value : goal.returns-clause-value
returns-clause-value c =
    let no_infinity = c.begins_minus_infinity.ensures ∙ ap (λ (b : Bool). if b then form LeftOut 9 else None) c.if-begins_minus_infinity.false in
    c.signed_number.ensures.value
    ∙ sym (code_form-minus c.args.rest.now c.requires (sym c.starts_with.ensures.value ∙ c.if-starts_with.false) (sym c.starts_with-2.ensures.value ∙ c.if-starts_with-2.false) no_infinity)
