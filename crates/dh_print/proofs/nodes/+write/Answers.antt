use Rattle.std.proofs.Common.{◌+◌, ◌<◌, [], ◌∷◌, ◌++◌, zero-add, true, false, codes, length, string_bytes, refl, sym, ap, ◌∙◌, rules, arith}
use Rattle.std.proofs.lemmas.Str.{IsUtf8-nil}
use Rattle.dh_syntax.specs.declared.expressions.Expr.TheViews.{the_lemmas}
use Rattle.dh_syntax.specs.declared.expressions.Op.TheVariants as ops
use Rattle.dh_syntax.specs.Expressions.Arity.{typed_count}
use Rattle.dh_syntax.specs.Expressions.Bridge.{row_of}
use Rattle.dh_syntax.specs.Text.Literals.{escape}
use Rattle.dh_syntax.specs.Text.Printed.{layouts, node, projection_text, text_of, texts}
use Rattle.dh_syntax.proofs.Bridge.{at_term-Var, at_term-Node}
use Rattle.dh_syntax.proofs.Rows.{row_length-row_of}
use Rattle.dh_print.specs.Inside.Parts.{parts_text}
use Rattle.dh_print.proofs.Appending.{appended, appended_four, appended_twice, on_ok, comma_is_utf8, bar_is_utf8}
use Rattle.dh_print.proofs.Forms.{field_text, forall_text, node_of, operation_parts, project_text}
use Rattle.dh_print.proofs.Items.{alternative_step, alternatives_end, closed, field_step, fields_end, fields_some, item_at_well_formed, item_well_formed, list_step, parts_end, parts_step, piece_step, pieces_end, plain_more, row_begins, row_ends, some_alternatives, text_begins, texts_end, typed_more, typed_step, update_written}
use Rattle.dh_print.proofs.NodeLevels.{parts_of}
use Rattle.dh_print.proofs.Shapes.{between_count, binding_count, fits_at, labelled_count, plain_count}
use Rattle.dh_print.proofs.nodes.+write.Goals as goal
use Rattle.dh_print.proofs.nodes.+write.Goals.{write_union-then-alt+in_ok-write_part, write_union-else-alt}

pub write_whole-write_node-requires : goal.write_whole-write_node-requires
write_whole-write_node-requires t c =
    let parts = parts_of c.args.e.now c.in-Node.op c.in-Node.kids c.as_slice.result.now c.in-Node.is c.as_slice.ensures c.requires in
    (search (rules, the_lemmas), (parts.0, parts.1))

pub write_whole-returns-in-Var : goal.write_whole-returns-in-Var
write_whole-returns-in-Var t c = appended _ _ _ _ _ (sym (at_term-Var text_of c.args.e.now c.in-Var.name c.in-Var.index c.in-Var.is)) c.write_variable.ensures

pub write_whole-returns-in-Node : goal.write_whole-returns-in-Node
write_whole-returns-in-Node t c =
    appended _ _ _ _ _ (ap (λ ks. (node c.in-Node.op (layouts (row_of ks))).text) c.as_slice.ensures ∙ sym (at_term-Node text_of c.args.e.now c.in-Node.op c.in-Node.kids c.in-Node.is)) c.write_node.ensures

pub write_node-write_parts-requires : goal.write_node-write_parts-requires
write_node-write_parts-requires t c = (search (rules, the_lemmas), (binding_count 1 c.args.kids.now (fits_at c.args.op.now ops.Lam (row_of c.args.kids.now) c.in-Lam.is c.requires.fits), c.requires.parts))

pub write_node-write_parts-requires-in-Pi : goal.write_node-write_parts-requires-in-Pi
write_node-write_parts-requires-in-Pi t c = (search (rules, the_lemmas), (binding_count 1 c.args.kids.now (fits_at c.args.op.now ops.Pi (row_of c.args.kids.now) c.in-Pi.is c.requires.fits), c.requires.parts))

pub write_node-write_parts-requires-in-Pi-2 : goal.write_node-write_parts-requires-in-Pi-2
write_node-write_parts-requires-in-Pi-2 t c = (search (rules, the_lemmas), (binding_count 1 c.args.kids.now (fits_at c.args.op.now ops.Pi (row_of c.args.kids.now) c.in-Pi.is c.requires.fits), c.requires.parts))

pub write_node-write_parts-requires-in-Let-true : goal.write_node-write_parts-requires-in-Let-true
write_node-write_parts-requires-in-Let-true t c = (search (rules, the_lemmas), (binding_count 2 c.args.kids.now (fits_at c.args.op.now (ops.Let true) (row_of c.args.kids.now) (c.in-Let-true.is ∙ ap ops.Let (sym c.in-Let-true.field-0-is ∙ c.in-Let-true.field-0-test)) c.requires.fits), c.requires.parts))

pub write_node-write_parts-requires-in-Let-false : goal.write_node-write_parts-requires-in-Let-false
write_node-write_parts-requires-in-Let-false t c = (search (rules, the_lemmas), (binding_count 1 c.args.kids.now (fits_at c.args.op.now (ops.Let false) (row_of c.args.kids.now) (c.in-Let-false.is ∙ ap ops.Let (sym c.in-Let-false.field-0-is ∙ c.in-Let-false.field-0-test)) c.requires.fits), c.requires.parts))

pub write_node-write_parts-requires-in-App : goal.write_node-write_parts-requires-in-App
write_node-write_parts-requires-in-App t c = (search (rules, the_lemmas), (plain_count 2 c.args.kids.now (fits_at c.args.op.now ops.App (row_of c.args.kids.now) c.in-App.is c.requires.fits), c.requires.parts))

pub write_node-write_parts-requires-in-If : goal.write_node-write_parts-requires-in-If
write_node-write_parts-requires-in-If t c = (search (rules, the_lemmas), (plain_count 3 c.args.kids.now (fits_at c.args.op.now ops.If (row_of c.args.kids.now) c.in-If.is c.requires.fits), c.requires.parts))

pub write_node-write_operation-requires : goal.write_node-write_operation-requires
write_node-write_operation-requires t c = (search (rules, the_lemmas), (sym (plain_count 2 c.args.kids.now (fits_at c.args.op.now (ops.Bin _) (row_of c.args.kids.now) c.in-Bin.is c.requires.fits)), c.requires.parts))

pub write_node-write_parts-requires-in-EmptyList : goal.write_node-write_parts-requires-in-EmptyList
write_node-write_parts-requires-in-EmptyList t c = (search (rules, the_lemmas), (plain_count 1 c.args.kids.now (fits_at c.args.op.now ops.EmptyList (row_of c.args.kids.now) c.in-EmptyList.is c.requires.fits), c.requires.parts))

pub write_node-write_parts-requires-in-Some : goal.write_node-write_parts-requires-in-Some
write_node-write_parts-requires-in-Some t c = (search (rules, the_lemmas), (plain_count 1 c.args.kids.now (fits_at c.args.op.now ops.Some (row_of c.args.kids.now) c.in-Some.is c.requires.fits), c.requires.parts))

pub write_node-write_parts-requires-in-Merge-true : goal.write_node-write_parts-requires-in-Merge-true
write_node-write_parts-requires-in-Merge-true t c = (search (rules, the_lemmas), (plain_count 3 c.args.kids.now (fits_at c.args.op.now (ops.Merge true) (row_of c.args.kids.now) (c.in-Merge-true.is ∙ ap ops.Merge (sym c.in-Merge-true.field-0-is ∙ c.in-Merge-true.field-0-test)) c.requires.fits), c.requires.parts))

pub write_node-write_parts-requires-in-Merge-false : goal.write_node-write_parts-requires-in-Merge-false
write_node-write_parts-requires-in-Merge-false t c = (search (rules, the_lemmas), (plain_count 2 c.args.kids.now (fits_at c.args.op.now (ops.Merge false) (row_of c.args.kids.now) (c.in-Merge-false.is ∙ ap ops.Merge (sym c.in-Merge-false.field-0-is ∙ c.in-Merge-false.field-0-test)) c.requires.fits), c.requires.parts))

pub write_node-write_parts-requires-in-Field : goal.write_node-write_parts-requires-in-Field
write_node-write_parts-requires-in-Field t c = (search (rules, the_lemmas), (plain_count 1 c.args.kids.now (fits_at c.args.op.now (ops.Field _) (row_of c.args.kids.now) c.in-Field.is c.requires.fits), c.requires.parts))

pub write_node-write_parts-requires-in-Project : goal.write_node-write_parts-requires-in-Project
write_node-write_parts-requires-in-Project t c = (search (rules, the_lemmas), (labelled_count _ 1 c.args.kids.now (fits_at c.args.op.now (ops.Project _) (row_of c.args.kids.now) c.in-Project.is c.requires.fits), c.requires.parts))

pub write_node-write_parts-requires-in-ProjectType : goal.write_node-write_parts-requires-in-ProjectType
write_node-write_parts-requires-in-ProjectType t c = (search (rules, the_lemmas), (plain_count 2 c.args.kids.now (fits_at c.args.op.now ops.ProjectType (row_of c.args.kids.now) c.in-ProjectType.is c.requires.fits), c.requires.parts))

pub write_node-write_parts-requires-in-Assert : goal.write_node-write_parts-requires-in-Assert
write_node-write_parts-requires-in-Assert t c = (search (rules, the_lemmas), (plain_count 1 c.args.kids.now (fits_at c.args.op.now ops.Assert (row_of c.args.kids.now) c.in-Assert.is c.requires.fits), c.requires.parts))

pub write_node-write_parts-requires-in-Annot : goal.write_node-write_parts-requires-in-Annot
write_node-write_parts-requires-in-Annot t c = (search (rules, the_lemmas), (plain_count 2 c.args.kids.now (fits_at c.args.op.now ops.Annot (row_of c.args.kids.now) c.in-Annot.is c.requires.fits), c.requires.parts))

pub write_node-write_parts-requires-in-ToMap-true : goal.write_node-write_parts-requires-in-ToMap-true
write_node-write_parts-requires-in-ToMap-true t c = (search (rules, the_lemmas), (plain_count 2 c.args.kids.now (fits_at c.args.op.now (ops.ToMap true) (row_of c.args.kids.now) (c.in-ToMap-true.is ∙ ap ops.ToMap (sym c.in-ToMap-true.field-0-is ∙ c.in-ToMap-true.field-0-test)) c.requires.fits), c.requires.parts))

pub write_node-write_parts-requires-in-ToMap-false : goal.write_node-write_parts-requires-in-ToMap-false
write_node-write_parts-requires-in-ToMap-false t c = (search (rules, the_lemmas), (plain_count 1 c.args.kids.now (fits_at c.args.op.now (ops.ToMap false) (row_of c.args.kids.now) (c.in-ToMap-false.is ∙ ap ops.ToMap (sym c.in-ToMap-false.field-0-is ∙ c.in-ToMap-false.field-0-test)) c.requires.fits), c.requires.parts))

pub write_node-write_update-requires : goal.write_node-write_update-requires
write_node-write_update-requires t c = (search (rules, the_lemmas), (sym (labelled_count _ 2 c.args.kids.now (fits_at c.args.op.now (ops.With _) (row_of c.args.kids.now) c.in-With.is c.requires.fits)), c.requires.parts))

pub write_node-write_text-requires : goal.write_node-write_text-requires
write_node-write_text-requires t c = (search (rules, the_lemmas), (ap length c.as_slice.ensures ∙ between_count _ c.args.kids.now (fits_at c.args.op.now (ops.Text _) (row_of c.args.kids.now) c.in-Text.is c.requires.fits), c.requires.parts))

pub write_node-write_fields-requires : goal.write_node-write_fields-requires
write_node-write_fields-requires t c = (search (rules, the_lemmas), (ap length c.as_slice-in-RecordType.ensures ∙ labelled_count _ _ c.args.kids.now (fits_at c.args.op.now (ops.RecordType _) (row_of c.args.kids.now) c.in-RecordType.is c.requires.fits), c.requires.parts))

pub write_node-write_fields-requires-in-Record : goal.write_node-write_fields-requires-in-Record
write_node-write_fields-requires-in-Record t c = (search (rules, the_lemmas), (ap length c.as_slice-in-Record.ensures ∙ labelled_count _ _ c.args.kids.now (fits_at c.args.op.now (ops.Record _) (row_of c.args.kids.now) c.in-Record.is c.requires.fits), c.requires.parts))

pub write_node-write_union-requires : goal.write_node-write_union-requires
write_node-write_union-requires t c = (search (rules, the_lemmas), (ap typed_count c.as_slice-in-Union.ensures ∙ labelled_count _ _ c.args.kids.now (fits_at c.args.op.now (ops.Union _) (row_of c.args.kids.now) c.in-Union.is c.requires.fits), c.requires.parts))

pub write_node-returns-in_ok-write_binder-in-Pi-2 : goal.write_node-returns-in_ok-write_binder-in-Pi-2
write_node-returns-in_ok-write_binder-in-Pi-2 t c =
    appended_twice c.write_parts-in-Pi-2.result _ _ _ _ _ _
    (node_of c.args.op.now ops.Pi (row_of c.args.kids.now) _ c.in-Pi.is (forall_text (row_of c.args.kids.now) (sym c.if-binds_blank.ensures)) c.requires.fits)
    c.in_ok-write_binder-in-Pi-2.ensures c.write_parts-in-Pi-2.ensures

pub write_node-returns-in_ok-write_parts-in-Field : goal.write_node-returns-in_ok-write_parts-in-Field
write_node-returns-in_ok-write_parts-in-Field t c =
    appended_twice c.write_selected.result _ _ _ _ _ _
    (node_of c.args.op.now (ops.Field c.in-Field.label) (row_of c.args.kids.now) _ c.in-Field.is (field_text c.in-Field.label (row_of c.args.kids.now)) c.requires.fits)
    c.in_ok-write_parts-in-Field.ensures c.write_selected.ensures

pub write_node-returns-in_ok-write_parts-in-Project : goal.write_node-returns-in_ok-write_parts-in-Project
write_node-returns-in_ok-write_parts-in-Project t c =
    appended_twice c.write_projection.result _ _ _ _ _ _
    (ap (λ xs. parts_text (([], 16) ∷ []) (row_of c.args.kids.now) ++ (codes "." ++ projection_text xs)) c.as_slice-in-Project.ensures
    ∙ node_of c.args.op.now (ops.Project c.in-Project.labels) (row_of c.args.kids.now) _ c.in-Project.is (project_text c.in-Project.labels (row_of c.args.kids.now)) c.requires.fits)
    c.in_ok-write_parts-in-Project.ensures c.write_projection.ensures

pub write_operation-returns : goal.write_operation-returns
write_operation-returns t c =
    appended _ _ _ _ _
    (operation_parts c.args.operator c.left_level.result c.level-right.result c.mark.result.now (row_of c.args.kids.now) c.left_level.ensures c.level-right.ensures c.mark.ensures
    (row_length-row_of c.args.kids.now ∙ c.requires.count))
    c.write_parts.ensures

pub write_parts-loop-i-init : goal.write_parts-loop-i-init
write_parts-loop-i-init t c = refl

pub write_parts-write_part-requires : goal.write_parts-write_part-requires
write_parts-write_part-requires t c = (search (rules, the_lemmas), item_well_formed c.args.kids.now c.loop-i.i c.index-kids-i.result c.loop-i-test.true c.index-kids-i.is c.requires.parts)

pub write_parts-loop-i-preserved : goal.write_parts-loop-i-preserved
write_parts-loop-i-preserved t c =
    let in_forms : c.loop-i.i < length c.args.forms.now = omega arith in
    parts_step c.args.forms.now c.args.kids.now c.loop-i.i (record { ref_ptr = (0, 0); now = [] }, 0) c.index-kids-i.result _ _ _ in_forms c.loop-i-test.true c.index-kids-i.is c.loop-i.invariant
    c.in_ok-write_part.ensures

pub write_parts-returns : goal.write_parts-returns
write_parts-returns t c = parts_end c.args.forms.now c.args.kids.now c.loop-i.i _ _ c.loop-i-test.false c.loop-i.invariant

pub write_list-loop-kid-init : goal.write_list-loop-kid-init
write_list-loop-kid-init t c = record { utf8 = IsUtf8-nil; so_far = row_begins _ _ (codes "[ ") (codes ", ") _ c.in_ok-push_str.ensures.bytes }

pub write_list-write_part-requires : goal.write_list-write_part-requires
write_list-write_part-requires t c = (search (rules, the_lemmas), item_well_formed c.args.kids.now c.loop-kid.kid-index c.kid-item.result c.loop-kid-test.true c.kid-item.is c.requires)

pub write_list-loop-kid-preserved : goal.write_list-loop-kid-preserved
write_list-loop-kid-preserved t c =
    record {
      utf8 = comma_is_utf8;
      so_far = list_step c.args.kids.now c.loop-kid.kid-index c.kid-item.result c.loop-kid.before.now (codes ", ") _ _ _ c.loop-kid-test.true c.kid-item.is c.loop-kid.invariant.so_far c.in_ok-write_part.ensures;
    }

pub write_list-returns : goal.write_list-returns
write_list-returns t c =
    on_ok c.push_str-2.result _ (string_bytes c.loop-kid.text) _ (codes " ]") c.push_str-2.ensures.bytes
    (λ pushed. row_ends c.loop-kid.before.now (codes ", ") _ _ _ (codes "[ ") _ _ (codes " ]") (texts_end c.args.kids.now c.loop-kid.kid-index c.loop-kid-test.false) c.loop-kid.invariant.so_far pushed)

pub write_fields-loop-i-init : goal.write_fields-loop-i-init
write_fields-loop-i-init t c = record { utf8 = IsUtf8-nil; so_far = row_begins _ _ (codes "{ ") (codes ", ") _ c.in_ok-push_str.ensures.bytes }

pub write_fields-write_part-requires : goal.write_fields-write_part-requires
write_fields-write_part-requires t c = (search (rules, the_lemmas), item_well_formed c.args.kids.now c.loop-i.i c.index-kids-i.result c.loop-i-test.true c.index-kids-i.is c.requires.1.1.1)

pub write_fields-loop-i-preserved : goal.write_fields-loop-i-preserved
write_fields-loop-i-preserved t c =
    let in_labels : c.loop-i.i < length c.args.labels.now = omega arith in
    record {
      utf8 = comma_is_utf8;
      so_far =
          field_step c.args.labels.now c.args.kids.now c.loop-i.i c.index-labels-i.result c.index-kids-i.result c.args.mark.now c.loop-i.before.now (codes ", ") _ _ _ _ _
          in_labels c.loop-i-test.true c.index-labels-i.is c.index-kids-i.is c.loop-i.invariant.so_far c.in_ok-push_str-2.ensures.bytes c.in_ok-write_label.ensures c.in_ok-write_part.ensures;
    }

pub write_fields-returns : goal.write_fields-returns
write_fields-returns t c =
    on_ok c.push_str-3.result _ (string_bytes c.loop-i.text) _ (codes " }") c.push_str-3.ensures.bytes
    (λ pushed.
    row_ends c.loop-i.before.now (codes ", ") _ _ _ (codes "{ ") _ _ (codes " }") (fields_end c.args.labels.now c.args.kids.now c.loop-i.i c.args.mark.now c.loop-i-test.false) c.loop-i.invariant.so_far pushed
    ∙ ap (λ l. string_bytes c.args.text.now ++ l) (fields_some c.args.empty.now c.args.mark.now c.args.labels.now (texts (layouts (row_of c.args.kids.now))) (sym c.is_empty.ensures ∙ c.if-is_empty.false)))

pub write_union-loop-alt-init : goal.write_union-loop-alt-init
write_union-loop-alt-init t c = record { utf8 = IsUtf8-nil; count = zero-add _ ∙ c.requires.count; so_far = row_begins _ _ (codes "< ") (codes " | ") _ c.in_ok-push_str.ensures.bytes }

pub write_union-offset_bounds-kids-typed : goal.write_union-offset_bounds-kids-typed
write_union-offset_bounds-kids-typed t c = let more = typed_more c.args.alts.now c.loop-alt.alt-index c.alt-item.result c.loop-alt-test.true c.alt-item.is c.if-alt.true in omega (arith, c.loop-alt.invariant.count)

pub write_union-bounds-kids-typed : goal.write_union-bounds-kids-typed
write_union-bounds-kids-typed t c = let more = typed_more c.args.alts.now c.loop-alt.alt-index c.alt-item.result c.loop-alt-test.true c.alt-item.is c.if-alt.true in omega (arith, c.loop-alt.invariant.count)

pub write_union-write_part-requires : goal.write_union-write_part-requires
write_union-write_part-requires t c =
    let more = typed_more c.args.alts.now c.loop-alt.alt-index c.alt-item.result c.loop-alt-test.true c.alt-item.is c.if-alt.true in
    let within : c.loop-alt.typed < length c.args.kids.now = omega (arith, c.loop-alt.invariant.count) in
    (search (rules, the_lemmas), item_at_well_formed c.args.kids.now c.loop-alt.typed c.index-kids-typed.result within c.requires.parts)

pub write_union-overflow_add-typed : goal.write_union-overflow_add-typed
write_union-overflow_add-typed t c =
    let more = typed_more c.args.alts.now c.loop-alt.alt-index c.alt-item.result c.loop-alt-test.true c.alt-item.is c.if-alt.true in
    let within : c.loop-alt.typed < length c.args.kids.now = omega (arith, c.loop-alt.invariant.count) in
    search rules

pub write_union-loop-alt-preserved : goal.write_union-loop-alt-preserved
write_union-loop-alt-preserved t c =
    elim c.if-alt.branch [
      | write_union-then-alt+in_ok-write_part w ↦
          let more = typed_more c.args.alts.now c.loop-alt.alt-index c.alt-item.result c.loop-alt-test.true c.alt-item.is w.if-alt.true in
          let within : c.loop-alt.typed < length c.args.kids.now = omega (arith, c.loop-alt.invariant.count) in
          record {
            utf8 = bar_is_utf8;
            count = omega (arith, c.loop-alt.invariant.count, w.typed-is);
            so_far =
                typed_step c.args.alts.now c.args.kids.now c.loop-alt.alt-index c.loop-alt.typed c.if-alt.typed c.alt-item.result w.index-kids-typed.result c.loop-alt.before.now (codes " | ") _ _ _ _ _
                c.loop-alt-test.true c.alt-item.is w.if-alt.true within w.index-kids-typed.is w.typed-is c.loop-alt.invariant.so_far c.in_ok-push_str-2.ensures.bytes c.in_ok-write_label.ensures
                (ap string_bytes w.text-is ∙ w.in_ok-write_part.ensures);
          }
      | write_union-else-alt w ↦
          let more = plain_more c.args.alts.now c.loop-alt.alt-index c.alt-item.result c.loop-alt-test.true c.alt-item.is w.if-alt.false in
          record {
            utf8 = bar_is_utf8;
            count = omega (arith, c.loop-alt.invariant.count, w.typed-is);
            so_far =
                alternative_step c.args.alts.now c.args.kids.now c.loop-alt.alt-index c.loop-alt.typed c.if-alt.typed c.alt-item.result c.loop-alt.before.now (codes " | ") _ _ _ _
                c.loop-alt-test.true c.alt-item.is w.if-alt.false w.typed-is c.loop-alt.invariant.so_far c.in_ok-push_str-2.ensures.bytes (ap string_bytes w.text-is ∙ c.in_ok-write_label.ensures);
          }
    ]

pub write_union-returns : goal.write_union-returns
write_union-returns t c =
    on_ok c.push_str-3.result _ (string_bytes c.loop-alt.text) _ (codes " >") c.push_str-3.ensures.bytes
    (λ pushed.
    row_ends c.loop-alt.before.now (codes " | ") _ _ _ (codes "< ") _ _ (codes " >") (alternatives_end c.args.alts.now c.loop-alt.alt-index _ c.loop-alt-test.false) c.loop-alt.invariant.so_far pushed
    ∙ ap (λ l. string_bytes c.args.text.now ++ l) (some_alternatives c.args.alts.now (texts (layouts (row_of c.args.kids.now))) (sym c.is_empty.ensures ∙ c.if-is_empty.false)))

pub write_text-loop-i-init : goal.write_text-loop-i-init
write_text-loop-i-init t c =
    text_begins c.args.pieces.now c.args.kids.now c.index-pieces-0.result _ (codes "\"") _ c.requires.count c.index-pieces-0.is
    (c.in_ok-push_escaped.ensures ∙ ap (λ l. l ++ escape c.index-pieces-0.result) c.in_ok-push_str.ensures.bytes)

pub write_text-write_part-requires : goal.write_text-write_part-requires
write_text-write_part-requires t c = (search (rules, the_lemmas), item_well_formed c.args.kids.now c.loop-i.i c.index-kids-i.result c.loop-i-test.true c.index-kids-i.is c.requires.parts)

pub write_text-loop-i-preserved : goal.write_text-loop-i-preserved
write_text-loop-i-preserved t c =
    let in_pieces : c.loop-i.i + 1 < length c.args.pieces.now = omega arith in
    piece_step c.args.pieces.now c.args.kids.now c.loop-i.i c.index-kids-i.result c.index-pieces-i.result _ _ _ _ _ c.loop-i-test.true c.index-kids-i.is in_pieces c.index-pieces-i.is
    c.loop-i.invariant c.in_ok-write_part.ensures c.in_ok-push_str-2.ensures.bytes c.in_ok-push_escaped-2.ensures

pub write_text-returns : goal.write_text-returns
write_text-returns t c =
    on_ok c.push_str-2.result _ (string_bytes c.loop-i.text) _ (codes "\"") c.push_str-2.ensures.bytes
    (λ pushed. closed _ _ _ (codes "\"") _ _ (codes "\"") (pieces_end c.args.pieces.now c.args.kids.now c.loop-i.i c.loop-i-test.false) c.loop-i.invariant pushed)

pub write_update-write_part-requires : goal.write_update-write_part-requires
write_update-write_part-requires t c =
    let within : 0 < length c.args.kids.now = omega arith in
    (search (rules, the_lemmas), item_at_well_formed c.args.kids.now 0 c.index-kids-0.result within c.requires.parts)

pub write_update-write_part-requires-2 : goal.write_update-write_part-requires-2
write_update-write_part-requires-2 t c =
    let within : 1 < length c.args.kids.now = omega arith in
    (search (rules, the_lemmas), item_at_well_formed c.args.kids.now 1 c.index-kids-1.result within c.requires.parts)

pub write_update-returns : goal.write_update-returns
write_update-returns t c =
    appended_four c.write_part-2.result _ _ _ _ _ _ _ _ _ _
    (update_written c.args.kids.now c.index-kids-0.result c.index-kids-1.result c.args.path.now c.requires.count c.index-kids-0.is c.index-kids-1.is)
    c.in_ok-write_part.ensures c.in_ok-push_str.ensures.bytes c.in_ok-write_labels.ensures c.write_part-2.ensures
