use Rattle.dh_tokens.specs.Inside.Forms.{found_of}
use Rattle.dh_tokens.proofs.NumberForms.{unsigned_form-left_out, unsigned_form-natural}
use Rattle.dh_tokens.proofs.NumberLaws.{natural_len-some}
use Rattle.dh_tokens.proofs.numbers.number.Goals as goal

pub natural_text-requires-clause-some : goal.natural_text-requires-clause-some
natural_text-requires-clause-some c = natural_len-some c.args.rest.now c.natural_len-len.result c.requires c.natural_len-len.ensures.value

pub returns-then-len-out-clause-value : goal.returns-then-len-out-clause-value
returns-then-len-out-clause-value c = unsigned_form-left_out c.args.rest.now c.natural_len-len.result c.unsigned_left_out-out.result c.natural_len-len.ensures.value c.unsigned_left_out-out.ensures.value c.if-len-out.true

pub returns-clause-value : goal.returns-clause-value
returns-clause-value c =
    let some = natural_len-some c.args.rest.now c.natural_len-len.result c.requires c.natural_len-len.ensures.value in
    unsigned_form-natural c.args.rest.now c.natural_text.result.now (found_of c.natural_found.result) c.natural_len-len.result c.unsigned_left_out-out.result c.natural_len-len.ensures.value c.unsigned_left_out-out.ensures.value some c.if-len-out.false c.natural_text.ensures.value c.natural_found.ensures
