use Rattle.std.proofs.Common.{arith, ap, sym, ◌∙◌, subst, map, drop, get_or, slice_index_or, Err, ◌≡◌, ◌+◌}
use Rattle.serde_json.specs.View.{view, members_view}
use Rattle.dh_syntax.specs.Expressions.Bridge.{term, row_of}
use Rattle.serde_json.specs.Data.{put}
use Rattle.dh_syntax.specs.Expressions.Arity.{AreWellFormed}
use Rattle.dh_syntax.specs.Expressions.Nesting.{nesting, parts_nesting}
use Rattle.dh_syntax.proofs.Bridge.{at_term-Node, at_term-Var, term-Node}
use Rattle.dh_syntax.proofs.Rows.{row_length-row_of}
use Rattle.dh_json.specs.Inside.{HasParts, case_shown}
use Rattle.dh_json.specs.JsonFaults.{IsAnswer}
use Rattle.dh_json.specs.JsonValue.{Elements, Fields, answer_map, by_case, case_of, elements, json, jsons, part_at}
use Rattle.dh_json.proofs.Shapes.{has_parts, kid_there, label_there, of_node, part_nesting}
use Rattle.dh_json.proofs.Walking.{elements_end, elements_fault, elements_more, formed_at, handed_on, joined, members_fault, members_more, part_fault, part_is, part_value}
use Rattle.dh_json.proofs.values.+json.Goals as goal

pub elements-returns-in_err-value : goal.elements-returns-in_err-value
elements-returns-in_err-value t c =
    let k = kid_there c.args.kids.now c.loop-i.i c.loop-i-test.true in
    handed_on c.from_residual.result c.in_err-value.field-0.0 (by_case Elements (jsons (row_of c.args.kids.now))) c.from_residual.ensures.1
    (elements_fault c.args.kids.now c.loop-i.i k.0 c.loop-i-test.true k.1 c.loop-i.values.items c.in_err-value.field-0.0 c.loop-i.invariant c.in_err-value.ensures)

pub elements-loop-i-preserved : goal.elements-loop-i-preserved
elements-loop-i-preserved t c =
    let k = kid_there c.args.kids.now c.loop-i.i c.loop-i-test.true in
    elements_more c.args.kids.now c.loop-i.i k.0 c.loop-i-test.true k.1 c.loop-i.values.items c.in_ok-value.value c.loop-i.invariant c.in_ok-value.ensures
    ∙ ap (λ vs. answer_map (joined (map view vs)) (elements (c.loop-i.i + 1) (jsons (row_of (drop (c.loop-i.i + 1) c.args.kids.now))))) (sym c.in_ok-push.ensures.items)

pub elements-returns : goal.elements-returns
elements-returns t c = elements_end c.args.kids.now c.loop-i.i c.loop-i.values.items c.from.result c.loop-i-test.false c.from.ensures c.loop-i.invariant

pub fields-returns-in_err-value : goal.fields-returns-in_err-value
fields-returns-in_err-value t c =
    let k = kid_there c.args.kids.now c.loop-i.i c.loop-i-test.true in
    let x = label_there c.args.labels.now c.loop-i.i (let e = c.requires.fits in let h = c.loop-i-test.true in omega (arith, e, h)) in
    handed_on c.from_residual.result c.in_err-value.field-0.0 (by_case (Fields c.args.labels.now) (jsons (row_of c.args.kids.now))) c.from_residual.ensures.1
    (members_fault c.args.labels.now c.args.kids.now c.loop-i.i k.0 x.0 c.loop-i-test.true k.1 (let e = c.requires.fits in let h = c.loop-i-test.true in omega (arith, e, h)) x.1 (members_view c.loop-i.members.entries) c.in_err-value.field-0.0 c.loop-i.invariant c.in_err-value.ensures)

pub fields-loop-i-preserved : goal.fields-loop-i-preserved
fields-loop-i-preserved t c =
    let k = kid_there c.args.kids.now c.loop-i.i c.loop-i-test.true in
    members_more c.args.labels.now c.args.kids.now c.loop-i.i k.0 c.index-labels-i.result c.loop-i-test.true k.1 (let e = c.requires.fits in let h = c.loop-i-test.true in omega (arith, e, h)) c.index-labels-i.is
    (members_view c.loop-i.members.entries) (members_view c.put.new.map.entries) (view c.in_ok-value.value) c.loop-i.invariant c.in_ok-value.ensures
    (c.in_ok-put.ensures.ok ∙ ap (λ x. put x (view c.in_ok-value.value) (members_view c.loop-i.members.entries)) c.as_str.ensures)

pub node-fields-requires : goal.node-fields-requires
node-fields-requires t c =
    let h : HasParts (Fields c.in-Fields.labels.now) (row_of c.args.kids.now) = subst (λ f. HasParts (case_shown f) (row_of c.args.kids.now)) c.in-Fields.is c.requires.fits in
    (omega (arith, c.decreases), (c.requires.formed, sym h.0 ∙ row_length-row_of c.args.kids.now))

pub node-part-requires : goal.node-part-requires
node-part-requires t c =
    let h = subst (λ f. HasParts (case_shown f) (row_of c.args.kids.now)) c.in-Part.is c.requires.fits in
    (omega (arith, c.decreases), (c.requires.formed, (let e = row_length-row_of c.args.kids.now in omega (arith, h, e))))

pub part-to_json-requires : goal.part-to_json-requires
part-to_json-requires t c =
    let k = slice_index_or c.args.kids.now c.args.i c.index-kids-i.result in
    let e : k ≡ get_or c.args.kids.now c.args.i k = ap (get_or c.args.kids.now c.args.i) c.index-kids-i.is in
    let n = part_nesting c.args.kids.now c.args.i k c.requires.within e in
    (omega (arith, c.decreases, n), formed_at c.args.kids.now c.args.i k c.requires.within e c.requires.formed)

pub part-returns-in-Ok : goal.part-returns-in-Ok
part-returns-in-Ok t c =
    let k = slice_index_or c.args.kids.now c.args.i c.index-kids-i.result in
    part_value (json (term k.body)) (part_at c.args.i c.args.i (jsons (row_of c.args.kids.now))) c.in-Ok.value c.args.i
    (part_is c.args.kids.now c.args.i c.args.i k c.requires.within (ap (get_or c.args.kids.now c.args.i) c.index-kids-i.is)) c.in-Ok.ensures

pub part-returns-in-Err : goal.part-returns-in-Err
part-returns-in-Err t c =
    let k = slice_index_or c.args.kids.now c.args.i c.index-kids-i.result in
    part_fault (json (term k.body)) (part_at c.args.i c.args.i (jsons (row_of c.args.kids.now))) c.args.i c.in-Err.fault c.above.result
    (part_is c.args.kids.now c.args.i c.args.i k c.requires.within (ap (get_or c.args.kids.now c.args.i) c.index-kids-i.is)) c.in-Err.ensures c.above.ensures

pub to_json-node-requires : goal.to_json-node-requires
to_json-node-requires t c =
    let n = of_node c.in-Node.op (row_of c.in-Node.kids) (term c.args.e.now) (ap term c.in-Node.is ∙ term-Node c.in-Node.op c.in-Node.kids) c.requires in
    let e : parts_nesting (row_of c.as_slice-in-Node.result.now) ≡ nesting (term c.args.e.now) = ap (λ ks. parts_nesting (row_of ks)) c.as_slice-in-Node.ensures ∙ n.same in (
      omega (arith, c.decreases, e),
      (
        subst (λ ks. AreWellFormed (row_of ks)) (sym c.as_slice-in-Node.ensures) n.formed,
        subst (λ ks. HasParts (case_shown c.form_of.result) (row_of ks)) (sym c.as_slice-in-Node.ensures)
            (subst (λ d. HasParts d (row_of c.in-Node.kids)) (sym (c.form_of.ensures ∙ ap (λ ks. case_of c.in-Node.op (row_of ks)) c.as_slice.ensures)) (has_parts c.in-Node.op (row_of c.in-Node.kids) n.fit)),
      ),
    )

pub to_json-returns-in-Var : goal.to_json-returns-in-Var
to_json-returns-in-Var t c = at_term-Var json c.args.e.now c.in-Var.field-0 c.in-Var.field-1 c.in-Var.is ∙ ap Err (sym c.new.ensures)

pub to_json-returns-in-Node : goal.to_json-returns-in-Node
to_json-returns-in-Node t c =
    subst (λ a. IsAnswer a c.node.result)
    (sym (at_term-Node json c.args.e.now c.in-Node.op c.in-Node.kids c.in-Node.is ∙ ap (λ d. by_case d (jsons (row_of c.in-Node.kids))) (sym (c.form_of.ensures ∙ ap (λ ks. case_of c.in-Node.op (row_of ks)) c.as_slice.ensures))
    ∙ ap (λ ks. by_case (case_shown c.form_of.result) (jsons (row_of ks))) (sym c.as_slice-in-Node.ensures))) c.node.ensures
