use Rattle.std.proofs.Common.{ap, sym, ◌∙◌, option_and_then, option_map}
use Rattle.dh_syntax.specs.Expressions.Bridge.{row_of, term}
use Rattle.dh_syntax.specs.Expressions.Views.{as_alternative}
use Rattle.dh_syntax.proofs.Bridge.{at_term-Node, at_term-Var}
use Rattle.dh_json.specs.JsonValue.{alternative}
use Rattle.dh_json.proofs.Parts.{no_field, selected_from, selected_alternative, selected_no_union, selected_nothing}
use Rattle.dh_json.proofs.forms.alternative_of.Goals as goal

pub returns-in-Some-union_of : goal.returns-in-Some-union_of
returns-in-Some-union_of c =
    c.alternative.ensures
    ∙ sym (selected_alternative c.in-Field.x (option_map (λ e. term e.now) c.first_part.result) (term c.in-Some.u.now) (option_map (λ alts. alts.now) c.union_of.result) c.in-Some-union_of.alts.now (ap (option_map (λ e. term e.now)) c.in-Some.is) c.union_of.ensures (ap (option_map (λ alts. alts.now)) c.in-Some-union_of.is))
    ∙ sym (selected_from (term c.args.e.now) c.in-Node.op c.in-Node.kids c.as_slice.result.now c.in-Field.x (option_map (λ e. term e.now) c.first_part.result) (at_term-Node as_alternative c.args.e.now c.in-Node.op c.in-Node.kids c.in-Node.is) c.in-Field.is c.as_slice.ensures c.first_part.ensures)

pub returns-in-None-union_of : goal.returns-in-None-union_of
returns-in-None-union_of c =
    sym (selected_no_union c.in-Field.x (option_map (λ e. term e.now) c.first_part.result) (term c.in-Some.u.now) (option_map (λ alts. alts.now) c.union_of.result) (ap (option_map (λ e. term e.now)) c.in-Some.is) c.union_of.ensures (ap (option_map (λ alts. alts.now)) c.in-None-union_of.is))
    ∙ sym (selected_from (term c.args.e.now) c.in-Node.op c.in-Node.kids c.as_slice.result.now c.in-Field.x (option_map (λ e. term e.now) c.first_part.result) (at_term-Node as_alternative c.args.e.now c.in-Node.op c.in-Node.kids c.in-Node.is) c.in-Field.is c.as_slice.ensures c.first_part.ensures)

pub returns-in-None : goal.returns-in-None
returns-in-None c =
    sym (selected_nothing c.in-Field.x (option_map (λ e. term e.now) c.first_part.result) (ap (option_map (λ e. term e.now)) c.in-None.is))
    ∙ sym (selected_from (term c.args.e.now) c.in-Node.op c.in-Node.kids c.as_slice.result.now c.in-Field.x (option_map (λ e. term e.now) c.first_part.result) (at_term-Node as_alternative c.args.e.now c.in-Node.op c.in-Node.kids c.in-Node.is) c.in-Field.is c.as_slice.ensures c.first_part.ensures)

pub returns-in_default : goal.returns-in_default
returns-in_default c = ap (option_and_then (λ a. alternative a.0 a.1)) (no_field c.in-Node.op (row_of c.in-Node.kids) c.in_default.not-Field ∙ sym (at_term-Node as_alternative c.args.e.now c.in-Node.op c.in-Node.kids c.in-Node.is))

pub returns-in-Var : goal.returns-in-Var
returns-in-Var c = ap (option_and_then (λ a. alternative a.0 a.1)) (sym (at_term-Var as_alternative c.args.e.now c.in-Var.field-0 c.in-Var.field-1 c.in-Var.is))
