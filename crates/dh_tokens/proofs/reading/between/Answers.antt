use Rattle.std.proofs.Common.{[], None, ap, sym}
use Rattle.dh_syntax.specs.Text.Lexing.{form_at}
use Rattle.dh_tokens.specs.declared.places.Open.TheVariants as opens
use Rattle.dh_tokens.specs.Inside.Forms.{form_of}
use Rattle.dh_tokens.specs.Inside.LongestForms.{front_form, interpolated_form}
use Rattle.dh_tokens.specs.Inside.Places.{placed}
use Rattle.dh_tokens.specs.Inside.States.{before_of}
use Rattle.dh_tokens.proofs.PlaceForms.{in_braces, in_interpolation, last_item, nothing_last, ok_as}
use Rattle.dh_tokens.proofs.reading.between.Goals as goal

pub returns-in-None-clause-value : goal.returns-in-None-clause-value
returns-in-None-clause-value c =
    let before = before_of c.args.before in
    let os = c.args.opened.now in
    let bs = c.args.rest.now in
    let none = nothing_last c.last.result os c.last.ensures.value c.in-None.is in
    ok_as c.outside.result form_of (form_at before (placed None []) bs) (form_at before (placed None os) bs) c.outside.ensures.value (ap (λ l. form_at before (placed None l) bs) (sym none))

pub returns-in-Some-Interpolation-clause-value : goal.returns-in-Some-Interpolation-clause-value
returns-in-Some-Interpolation-clause-value c =
    let before = before_of c.args.before in
    let os = c.args.opened.now in
    let bs = c.args.rest.now in
    let l = c.in-Some-Interpolation.field-0-0 in
    let last = last_item c.last.result os c.in-Some-Interpolation.field-0 (opens.Interpolation l) c.last.ensures.value c.in-Some-Interpolation.is c.in-Some-Interpolation.field-0-is in
    ok_as c.interpolated.result form_of (interpolated_form bs) (form_at before (placed None os) bs) c.interpolated.ensures.value (sym (in_interpolation before os l bs last))

pub returns-in-Some-Brace-clause-value : goal.returns-in-Some-Brace-clause-value
returns-in-Some-Brace-clause-value c =
    let before = before_of c.args.before in
    let os = c.args.opened.now in
    let bs = c.args.rest.now in
    let last = last_item c.last.result os c.in-Some-Brace.field-0 opens.Brace c.last.ensures.value c.in-Some-Brace.is c.in-Some-Brace.field-0-is in
    ok_as c.code.result form_of (front_form bs) (form_at before (placed None os) bs) c.code.ensures.value (sym (in_braces before os bs c.requires.rooted last))
