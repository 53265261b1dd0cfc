use Rattle.std.specs.Fmt.{signed_decimal}
use Rattle.std.proofs.Common.{arith, rules, ap, sym, ◌∙◌, subst, refl, length, get_or, slice_index_or, append_assoc, Err, ◌≡◌, ◌<◌, ◌++◌, ◌∷◌, []}
use Rattle.json.specs.Token.{begin_array, end_array, key, number as number_token}
use Rattle.serde_json.specs.Data.{null, boolean, number, unsigned, string, array, no_items}
use Rattle.serde_json.specs.Find.{of_integer}
use Rattle.dh_syntax.specs.Expressions.Arity.{AreWellFormed}
use Rattle.dh_syntax.specs.Expressions.Bridge.{row_of, term}
use Rattle.dh_syntax.specs.Expressions.Nesting.{nesting, parts_nesting}
use Rattle.dh_syntax.proofs.Bridge.{at_term-Node, at_term-Var, term-Node}
use Rattle.dh_syntax.proofs.Rows.{row_length-row_of}
use Rattle.dh_json.specs.declared.forms.Form.TheVariants as forms
use Rattle.dh_json.specs.Inside.{HasParts, IsWritten, case_shown}
use Rattle.dh_json.specs.JsonValue.{Elements, Fields, answer_map, by_case, case_of, elements, json, jsons, part_at}
use Rattle.dh_json.proofs.Shapes.{has_parts, kid_there, of_node, part_nesting}
use Rattle.dh_json.proofs.Walking.{formed_at, part_fault, part_is}
use Rattle.dh_json.proofs.Writing.{array_written, fault_above, integer_text, items_end, items_fault, items_later, items_more, members_end, members_fault, members_later, members_more, object_fault, object_written, opened, part_written, whole_written, written_fault}
use Rattle.dh_json.proofs.texts.+text.Goals as goal

pub write-write_node-requires : goal.write-write_node-requires
write-write_node-requires t c =
    let n = of_node c.in-Node.op (row_of c.in-Node.kids) (term c.args.e.now) (ap term c.in-Node.is ∙ term-Node c.in-Node.op c.in-Node.kids) c.requires in
    let e : parts_nesting (row_of c.as_slice-in-Node.result.now) ≡ nesting (term c.args.e.now) = ap (λ ks. parts_nesting (row_of ks)) c.as_slice-in-Node.ensures ∙ n.same in (
      omega (arith, c.decreases, e),
      (
        subst (λ ks. AreWellFormed (row_of ks)) (sym c.as_slice-in-Node.ensures) n.formed,
        subst (λ ks. HasParts (case_shown c.form_of.result) (row_of ks)) (sym c.as_slice-in-Node.ensures)
            (subst (λ d. HasParts d (row_of c.in-Node.kids)) (sym (c.form_of.ensures ∙ ap (λ ks. case_of c.in-Node.op (row_of ks)) c.as_slice.ensures)) (has_parts c.in-Node.op (row_of c.in-Node.kids) n.fit)),
      ),
    )

pub write-returns-in-Var-clause-written : goal.write-returns-in-Var-clause-written
write-returns-in-Var-clause-written t c = at_term-Var json c.args.e.now c.in-Var.field-0 c.in-Var.field-1 c.in-Var.is ∙ ap Err (sym c.new.ensures)

pub write-returns-in-Node-clause-written : goal.write-returns-in-Node-clause-written
write-returns-in-Node-clause-written t c =
    subst (λ a. IsWritten a c.args.out.now.tokens c.write_node.new.out.tokens c.write_node.result)
    (sym (at_term-Node json c.args.e.now c.in-Node.op c.in-Node.kids c.in-Node.is ∙ ap (λ d. by_case d (jsons (row_of c.in-Node.kids))) (sym (c.form_of.ensures ∙ ap (λ ks. case_of c.in-Node.op (row_of ks)) c.as_slice.ensures))
    ∙ ap (λ ks. by_case (case_shown c.form_of.result) (jsons (row_of ks))) (sym c.as_slice-in-Node.ensures))) c.write_node.ensures.written

pub write_elements-returns-in_err-write_part-clause-written : goal.write_elements-returns-in_err-write_part-clause-written
write_elements-returns-in_err-write_part-clause-written t c =
    let ks = c.args.kids.now in
    let i = c.loop-i.i in
    let k = kid_there ks i c.loop-i-test.true in
    written_fault c.from_residual-in_err-write_part.result c.in_err-write_part.field-0.0 (by_case Elements (jsons (row_of ks))) c.args.out.now.tokens c.write_part.new.out.tokens c.from_residual-in_err-write_part.ensures.1
    (fault_above (part_at i i (jsons (row_of ks))) (by_case Elements (jsons (row_of ks))) c.in_err-write_part.field-0.0
    (λ q h. ap (answer_map array) (c.loop-i.invariant.2 q (items_fault ks i k.0 c.loop-i-test.true k.1 q h))) c.in_err-write_part.ensures.written)

pub write_elements-loop-i-preserved : goal.write_elements-loop-i-preserved
write_elements-loop-i-preserved t c =
    let ks = c.args.kids.now in
    let i = c.loop-i.i in
    let k = kid_there ks i c.loop-i-test.true in
    let w = c.in_ok-write_part.ensures.written in (
      c.write_part.ensures.before ∙ c.loop-i.invariant.0,
      λ end h. c.loop-i.invariant.1 end (items_more ks i k.0 c.loop-i-test.true k.1 w.0 c.loop-i.out.tokens c.write_part.new.out.tokens end w.1 w.2 h),
      λ q h. c.loop-i.invariant.2 q (items_later ks i k.0 c.loop-i-test.true k.1 w.0 q w.1 h),
    )

pub write_elements-returns-clause-written : goal.write_elements-returns-clause-written
write_elements-returns-clause-written t c =
    let ks = c.args.kids.now in
    let begun = opened c.begin_array.result c.in_ok-begin_array.field-0 c.in_ok-begin_array.was c.begin_array.ensures.ok in
    let ended = opened c.end_array.result c.in_ok-end_array.field-0 c.in_ok-end_array.was c.end_array.ensures.ok in
    array_written (elements 0 (jsons (row_of ks))) c.args.out.now.tokens c.begin_array.new.self.tokens c.end_array.new.self.tokens begun
    (c.loop-i.invariant.1 c.end_array.new.self.tokens (items_end ks c.loop-i.i c.loop-i.out.tokens c.end_array.new.self.tokens c.loop-i-test.false ended))

pub write_fields-returns-in_err-write_part-clause-written : goal.write_fields-returns-in_err-write_part-clause-written
write_fields-returns-in_err-write_part-clause-written t c =
    let xs = c.args.labels.now in
    let ks = c.args.kids.now in
    let i = c.loop-i.i in
    let k = kid_there ks i c.loop-i-test.true in
    let l : i < length xs = let e = c.requires.fits in let h = c.loop-i-test.true in omega (arith, e, h) in
    written_fault c.from_residual-in_err-write_part.result c.in_err-write_part.field-0.0 (by_case (Fields xs) (jsons (row_of ks))) c.args.out.now.tokens c.write_part.new.out.tokens c.from_residual-in_err-write_part.ensures.1
    (fault_above (part_at i i (jsons (row_of ks))) (by_case (Fields xs) (jsons (row_of ks))) c.in_err-write_part.field-0.0
    (λ q h. object_fault xs (jsons (row_of ks)) q c.requires.ascend (c.loop-i.invariant.2 q (members_fault xs ks i k.0 c.index-labels-i.result c.loop-i-test.true k.1 l c.index-labels-i.is q h))) c.in_err-write_part.ensures.written)

pub write_fields-loop-i-preserved : goal.write_fields-loop-i-preserved
write_fields-loop-i-preserved t c =
    let xs = c.args.labels.now in
    let ks = c.args.kids.now in
    let i = c.loop-i.i in
    let k = kid_there ks i c.loop-i-test.true in
    let x = c.index-labels-i.result in
    let l : i < length xs = let e = c.requires.fits in let h = c.loop-i-test.true in omega (arith, e, h) in
    let w = c.in_ok-write_part.ensures.written in
    let named = opened c.key.result c.in_ok-key.field-0 c.in_ok-key.was c.key.ensures.ok in (
      c.write_part.ensures.before ∙ c.key.ensures.room.0 ∙ c.loop-i.invariant.0,
      λ end h. c.loop-i.invariant.1 end (members_more xs ks i k.0 x c.loop-i-test.true k.1 l c.index-labels-i.is w.0 c.loop-i.out.tokens c.key.new.self.tokens c.write_part.new.out.tokens end w.1 (named ∙ ap (λ y. c.loop-i.out.tokens ++ key y ∷ []) c.as_str.ensures) w.2 h),
      λ q h. c.loop-i.invariant.2 q (members_later xs ks i k.0 x c.loop-i-test.true k.1 l c.index-labels-i.is w.0 q w.1 h),
    )

pub write_fields-returns-clause-written : goal.write_fields-returns-clause-written
write_fields-returns-clause-written t c =
    let xs = c.args.labels.now in
    let ks = c.args.kids.now in
    let begun = opened c.begin_object.result c.in_ok-begin_object.field-0 c.in_ok-begin_object.was c.begin_object.ensures.ok in
    let ended = opened c.end_object.result c.in_ok-end_object.field-0 c.in_ok-end_object.was c.end_object.ensures.ok in
    object_written xs (jsons (row_of ks)) c.args.out.now.tokens c.begin_object.new.self.tokens c.end_object.new.self.tokens c.requires.ascend begun
    (c.loop-i.invariant.1 c.end_object.new.self.tokens (members_end xs ks c.loop-i.i c.loop-i.out.tokens c.end_object.new.self.tokens c.loop-i-test.false ended))

pub write_node-write_fields-requires : goal.write_node-write_fields-requires
write_node-write_fields-requires t c =
    let h : HasParts (Fields c.in-Fields.labels.now) (row_of c.args.kids.now) = subst (λ f. HasParts (case_shown f) (row_of c.args.kids.now)) c.in-Fields.is c.requires.fits in
    (omega (arith, c.decreases), (c.requires.formed, (sym h.0 ∙ row_length-row_of c.args.kids.now, h.1)))

pub write_node-write_part-requires : goal.write_node-write_part-requires
write_node-write_part-requires t c =
    let h = subst (λ f. HasParts (case_shown f) (row_of c.args.kids.now)) c.in-Part.is c.requires.fits in
    (omega (arith, c.decreases), (c.requires.formed, (let e = row_length-row_of c.args.kids.now in omega (arith, h, e))))

pub write_node-returns-in_ok-null-in-Null-clause-written : goal.write_node-returns-in_ok-null-in-Null-clause-written
write_node-returns-in_ok-null-in-Null-clause-written t c =
    whole_written c.args.form forms.Null null (jsons (row_of c.args.kids.now)) c.args.out.now.tokens c.null.new.self.tokens c.in-Null.is refl (opened c.null.result c.in_ok-null-in-Null.field-0 c.in_ok-null-in-Null.was c.null.ensures.ok)

pub write_node-returns-in_ok-boolean-in-Truth-clause-written : goal.write_node-returns-in_ok-boolean-in-Truth-clause-written
write_node-returns-in_ok-boolean-in-Truth-clause-written t c =
    whole_written c.args.form (forms.Truth c.in-Truth.value) (boolean c.in-Truth.value) (jsons (row_of c.args.kids.now)) c.args.out.now.tokens c.boolean.new.self.tokens c.in-Truth.is refl (opened c.boolean.result c.in_ok-boolean-in-Truth.field-0 c.in_ok-boolean-in-Truth.was c.boolean.ensures.ok)

pub write_node-returns-in_ok-u64-in-Unsigned-clause-written : goal.write_node-returns-in_ok-u64-in-Unsigned-clause-written
write_node-returns-in_ok-u64-in-Unsigned-clause-written t c =
    whole_written c.args.form (forms.Unsigned c.in-Unsigned.n) (number (unsigned c.in-Unsigned.n)) (jsons (row_of c.args.kids.now)) c.args.out.now.tokens c.u64.new.self.tokens c.in-Unsigned.is refl (opened c.u64.result c.in_ok-u64-in-Unsigned.field-0 c.in_ok-u64-in-Unsigned.was c.u64.ensures.ok)

pub write_node-returns-in_ok-i64-in-Signed-clause-written : goal.write_node-returns-in_ok-i64-in-Signed-clause-written
write_node-returns-in_ok-i64-in-Signed-clause-written t c =
    let text : c.i64.new.self.tokens ≡ c.args.out.now.tokens ++ number_token (signed_decimal c.in-Signed.z) ∷ [] = search rules in
    whole_written c.args.form (forms.Signed c.in-Signed.z) (number (of_integer c.in-Signed.z)) (jsons (row_of c.args.kids.now)) c.args.out.now.tokens c.i64.new.self.tokens c.in-Signed.is refl
    (text ∙ ap (λ ds. c.args.out.now.tokens ++ number_token ds ∷ []) (sym (integer_text c.in-Signed.z)))

pub write_node-returns-in_ok-string-in-Text-clause-written : goal.write_node-returns-in_ok-string-in-Text-clause-written
write_node-returns-in_ok-string-in-Text-clause-written t c =
    whole_written c.args.form (forms.Text c.in-Text.text) (string c.in-Text.text.now) (jsons (row_of c.args.kids.now)) c.args.out.now.tokens c.string.new.self.tokens c.in-Text.is refl (opened c.string.result c.in_ok-string-in-Text.field-0 c.in_ok-string-in-Text.was c.string.ensures.ok)

pub write_node-returns-in_ok-end_array-in-NoElements-clause-written : goal.write_node-returns-in_ok-end_array-in-NoElements-clause-written
write_node-returns-in_ok-end_array-in-NoElements-clause-written t c =
    let begun = opened c.begin_array.result c.in_ok-begin_array-in-NoElements.field-0 c.in_ok-begin_array-in-NoElements.was c.begin_array.ensures.ok in
    let ended = opened c.end_array.result c.in_ok-end_array-in-NoElements.field-0 c.in_ok-end_array-in-NoElements.was c.end_array.ensures.ok in
    whole_written c.args.form forms.NoElements (array no_items) (jsons (row_of c.args.kids.now)) c.args.out.now.tokens c.end_array.new.self.tokens c.in-NoElements.is refl
    (ended ∙ ap (λ ts. ts ++ end_array ∷ []) begun ∙ append_assoc c.args.out.now.tokens (begin_array ∷ []) (end_array ∷ []))

pub write_part-write-requires : goal.write_part-write-requires
write_part-write-requires t c =
    let k = slice_index_or c.args.kids.now c.args.i c.index-kids-i.result in
    let e : k ≡ get_or c.args.kids.now c.args.i k = ap (get_or c.args.kids.now c.args.i) c.index-kids-i.is in
    let n = part_nesting c.args.kids.now c.args.i k c.requires.within e in
    (omega (arith, c.decreases, n), formed_at c.args.kids.now c.args.i k c.requires.within e c.requires.formed)

pub write_part-returns-in-Ok-clause-written : goal.write_part-returns-in-Ok-clause-written
write_part-returns-in-Ok-clause-written t c =
    let k = slice_index_or c.args.kids.now c.args.i c.index-kids-i.result in
    part_written (json (term k.body)) (part_at c.args.i c.args.i (jsons (row_of c.args.kids.now))) c.args.i c.args.out.now.tokens c.write.new.out.tokens
    (part_is c.args.kids.now c.args.i c.args.i k c.requires.within (ap (get_or c.args.kids.now c.args.i) c.index-kids-i.is)) c.in-Ok.ensures.written

pub write_part-returns-in-Err-clause-written : goal.write_part-returns-in-Err-clause-written
write_part-returns-in-Err-clause-written t c =
    let k = slice_index_or c.args.kids.now c.args.i c.index-kids-i.result in
    part_fault (json (term k.body)) (part_at c.args.i c.args.i (jsons (row_of c.args.kids.now))) c.args.i c.in-Err.fault c.above.result
    (part_is c.args.kids.now c.args.i c.args.i k c.requires.within (ap (get_or c.args.kids.now c.args.i) c.index-kids-i.is)) c.in-Err.ensures.written c.above.ensures
