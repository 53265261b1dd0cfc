use Rattle.std.proofs.Common.{◌∙◌, sym, ap, subst, ◌++◌, [], ◌∷◌}
use Rattle.std.specs.Str.{str_eq_ignore_ascii_case}
use Rattle.dh_http.specs.Fields.{values}
use Rattle.dh_http.specs.Only.{Shows}
use Rattle.dh_http.proofs.FieldLaws.{named_field, other_field}
use Rattle.dh_http.proofs.fields.with_field.Goals as goal

pub returns-then-are_alike : goal.returns-then-are_alike
returns-then-are_alike c = λ fs h.
    let test = ap (λ t. str_eq_ignore_ascii_case t c.args.name.now) (sym c.of.ensures) ∙ sym c.if-are_alike.ensures in
    let more = c.and.ensures (values c.args.name.now fs) h in
    subst (Shows c.and.result)
    (ap (λ v. values c.args.name.now fs ++ v ∷ []) c.of-then-are_alike.ensures ∙ sym (named_field c.args.name.now fs _ test)) more

pub returns : goal.returns
returns c = λ fs h.
    let test = ap (λ t. str_eq_ignore_ascii_case t c.args.name.now) (sym c.of.ensures) ∙ sym c.if-are_alike.ensures in
    subst (Shows c.args.found) (sym (other_field c.args.name.now fs _ test)) h
