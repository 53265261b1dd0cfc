use Rattle.std.proofs.Common.{◌==◌, Some, ap, sym, ◌∙◌, length, subst as along}
use Rattle.std.specs.Option.{option_copied}
use Rattle.dh_store.specs.Growth.{count}
use Rattle.dh_types.proofs.CodeNodes.{node-shown}
use Rattle.dh_infer.specs.Inside.Forms.{IsForm}
use Rattle.dh_infer.proofs.Modelled.{models-node, absent, bound-variable, numbered-variable, named-variable}
use Rattle.dh_infer.proofs.forms.form_of.Goals as goal

pub node_form-requires : goal.node_form-requires
node_form-requires c = (node-shown c.args.codes.now c.requires.coded c.args.id c.in-Some-Node.op c.as_slice.result.now (sym c.get.ensures ∙ ap option_copied c.in-Some-Node.is ∙ cc)).fits

pub unreachable-requires : goal.unreachable-requires
unreachable-requires c = absent c.args.codes.now c.args.id (sym c.get.ensures ∙ ap option_copied c.in-None.is) c.requires.there

pub returns-in-Some-Node-clause-form : goal.returns-in-Some-Node-clause-form
returns-in-Some-Node-clause-form c = λ g m.
    let n = node-shown c.args.codes.now c.requires.coded c.args.id c.in-Some-Node.op c.as_slice.result.now (sym c.get.ensures ∙ ap option_copied c.in-Some-Node.is ∙ cc) in
    along (λ e. IsForm g e c.node_form.result) (sym (models-node c.args.codes.now g m c.args.id _ _ c.requires.there n)) (c.node_form.ensures.form g)

pub returns-in-Some-Node-clause-there : goal.returns-in-Some-Node-clause-there
returns-in-Some-Node-clause-there c =
    let n = node-shown c.args.codes.now c.requires.coded c.args.id c.in-Some-Node.op c.as_slice.result.now (sym c.get.ensures ∙ ap option_copied c.in-Some-Node.is ∙ cc) in
    c.node_form.ensures.there (count c.args.codes.now) n.there

pub returns-then-is_empty-clause-form : goal.returns-then-is_empty-clause-form
returns-then-is_empty-clause-form c = λ g m.
    numbered-variable c.args.codes.now c.requires.coded c.args.id c.requires.there g m c.in-Some-Free.name c.in-Some-Free.number
    (sym c.get.ensures ∙ ap option_copied c.in-Some-Free.is ∙ ap Some c.in-Some-Free.field-0-is) (ap (λ x. length x == 0) (sym c.as_str.ensures) ∙ sym c.is_empty.ensures ∙ c.if-is_empty.true)

pub returns-else-is_empty-clause-form : goal.returns-else-is_empty-clause-form
returns-else-is_empty-clause-form c = λ g m.
    named-variable c.args.codes.now c.requires.coded c.args.id c.requires.there g m c.in-Some-Free.name c.in-Some-Free.number
    (sym c.get.ensures ∙ ap option_copied c.in-Some-Free.is ∙ ap Some c.in-Some-Free.field-0-is) (ap (λ x. length x == 0) (sym c.as_str.ensures) ∙ sym c.is_empty.ensures ∙ c.if-is_empty.false)

pub returns-in-Some-Bound-clause-form : goal.returns-in-Some-Bound-clause-form
returns-in-Some-Bound-clause-form c = λ g m.
    bound-variable c.args.codes.now c.requires.coded c.args.id c.requires.there g m _ (sym c.get.ensures ∙ ap option_copied c.in-Some-Bound.is ∙ ap Some c.in-Some-Bound.field-0-is)
