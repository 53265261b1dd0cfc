use Rattle.std.proofs.Common.{◌<◌, ◌∙◌, sym, arith}
use Rattle.dh_tokens.specs.Inside.Forms.{found_of}
use Rattle.dh_tokens.proofs.NumberForms.{signed_form-left_out, signed_form-integer, signed_form-none}
use Rattle.dh_tokens.proofs.numbers.signed_number.Goals as goal

pub returns-then-len-eq0-clause-value : goal.returns-then-len-eq0-clause-value
returns-then-len-eq0-clause-value c = sym (signed_form-none c.args.rest.now (sym c.integer_len-len.ensures.value ∙ c.if-len-eq0.true))

pub returns-then-len-out-clause-value : goal.returns-then-len-out-clause-value
returns-then-len-out-clause-value c = signed_form-left_out c.args.rest.now c.integer_len-len.result c.signed_left_out-out.result c.integer_len-len.ensures.value c.signed_left_out-out.ensures.value c.if-len-out.true

pub returns-clause-value : goal.returns-clause-value
returns-clause-value c =
    let some : 0 < c.integer_len-len.result = omega arith in
    signed_form-integer c.args.rest.now c.integer_text.result.now (found_of c.integer_found.result) c.integer_len-len.result c.signed_left_out-out.result c.integer_len-len.ensures.value c.signed_left_out-out.ensures.value some c.if-len-out.false c.integer_text.ensures.value c.integer_found.ensures
