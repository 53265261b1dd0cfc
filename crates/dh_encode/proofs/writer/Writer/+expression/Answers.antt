use Rattle.std.proofs.Common.{arith, ap, sym, ◌∙◌, ◌+◌, ◌++◌, ◌∷◌, [], map, length, drop, refl, Some, None, Ok, ℕ, length-append, get_or}
use Rattle.std.specs.List.{concat}
use Rattle.dh_syntax.specs.declared.expressions.Op.TheVariants as ops
use Rattle.dh_syntax.specs.Bytes.Binary.{enc, form, node, forms, interleaved, pairs, alternatives}
use Rattle.dh_syntax.specs.Bytes.Cbor.{head, array, map_of, natural, null, text}
use Rattle.dh_syntax.specs.Expressions.Bridge.{term, row_of}
use Rattle.dh_syntax.specs.Expressions.Operators.{op_code}
use Rattle.dh_syntax.specs.Expressions.Tree.{end, kid}
use Rattle.dh_syntax.proofs.Bridge.{at_term-Var}
use Rattle.dh_encode.specs.Inside.Items.{row_items, abstraction_bytes, let_head, behind}
use Rattle.dh_encode.proofs.Appends.{then, last, named, and_items, array_written}
use Rattle.dh_encode.proofs.ArrayItems.{both_items, kid_written, kids_written, field_written, fields_written, interpolation_written, text_written, text_items, text_count, typed_written, untyped_written, alternatives_written, typed_less, typed_same, record_type_count, record_count, union_count, text_fit}
use Rattle.dh_encode.proofs.Encodable.{first_part, second_part, last_part, front_parts, kid_part, of_node}
use Rattle.dh_encode.proofs.Integers.{small, small_code}
use Rattle.dh_encode.proofs.RowItems.{items_count, abstraction_blank, abstraction_named, abstraction_count}
use Rattle.dh_encode.proofs.Spines.{node_term, applied_items, application_whole, bound_items, let_whole}
use Rattle.dh_encode.proofs.SpineCounts.{let_binds}
use Rattle.dh_encode.proofs.writer.Writer.+expression.Goals as goal
use Rattle.dh_encode.proofs.writer.Writer.+expression.Goals.{push_union-then-alt+in_ok-push_expression, push_union-else-alt+in_ok-push_null}
use Rattle.std.proofs.lemmas.List.{length-map}

pub push_expression-push_node-requires : goal.push_expression-push_node-requires
push_expression-push_node-requires t c =
    let same = node_term c.args.e.now c.in-Node.op c.in-Node.op c.in-Node.kids c.as_slice.result.now c.in-Node.is refl c.as_slice.ensures in
    let node = of_node c.in-Node.op (row_of c.as_slice.result.now) (term c.args.e.now) same c.requires in
    (omega (arith, c.decreases, node.same), (node.fit, node.can))

pub push_expression-returns-in-Node : goal.push_expression-returns-in-Node
push_expression-returns-in-Node t c =
    named c.push_node.result c.args.self.now c.push_node.new.self _ (enc (term c.args.e.now))
    (sym (ap enc (node_term c.args.e.now c.in-Node.op c.in-Node.op c.in-Node.kids c.as_slice.result.now c.in-Node.is refl c.as_slice.ensures))) c.push_node.ensures

pub push_expression-returns-in-Var : goal.push_expression-returns-in-Var
push_expression-returns-in-Var t c =
    named c.push_variable.result c.args.self.now c.push_variable.new.self _ (enc (term c.args.e.now))
    (sym (at_term-Var enc c.args.e.now c.in-Var.name c.in-Var.index c.in-Var.is)) c.push_variable.ensures

pub push_expressions-push_expression-requires : goal.push_expressions-push_expression-requires
push_expressions-push_expression-requires t c =
    let part = kid_part c.args.kids.now c.loop-kid.kid-index c.kid-item.result c.loop-kid-test.true c.kid-item.is c.requires in
    (omega (arith, c.decreases, part.less), part.can)

pub push_expressions-loop-kid-preserved : goal.push_expressions-loop-kid-preserved
push_expressions-loop-kid-preserved t c =
    kid_written c.args.kids.now c.loop-kid.kid-index c.kid-item.result c.loop-kid.self c.push_expression.new.self _ c.loop-kid-test.true c.kid-item.is c.in_ok-push_expression.ensures c.loop-kid.invariant

pub push_expressions-returns : goal.push_expressions-returns
push_expressions-returns t c = kids_written c.args.kids.now c.loop-kid.kid-index c.loop-kid.self _ c.loop-kid-test.false c.loop-kid.invariant

pub push_coded-returns : goal.push_coded-returns
push_coded-returns t c =
    array_written c.push_expressions.result c.args.self.now c.push_head.new.self c.push_expressions.new.self (1 + length c.args.kids.now) (head 0 c.args.code ∷ row_items (row_of c.args.kids.now)) c.in_ok-push_head.ensures
    (omega (arith, items_count c.args.kids.now))
    (then c.push_expressions.result c.push_head.new.self c.push_code.new.self c.push_expressions.new.self (head 0 c.args.code) (concat (row_items (row_of c.args.kids.now)))
    c.in_ok-push_code.ensures c.push_expressions.ensures)

pub push_coded_null-returns : goal.push_coded_null-returns
push_coded_null-returns t c =
    array_written c.push_expressions.result c.args.self.now c.push_head.new.self c.push_expressions.new.self (2 + length c.args.kids.now) (head 0 c.args.code ∷ null ∷ row_items (row_of c.args.kids.now)) c.in_ok-push_head.ensures
    (omega (arith, items_count c.args.kids.now))
    (then c.push_expressions.result c.push_head.new.self c.push_code.new.self c.push_expressions.new.self (head 0 c.args.code) (concat (null ∷ row_items (row_of c.args.kids.now)))
    c.in_ok-push_code.ensures
    (then c.push_expressions.result c.push_code.new.self c.push_null.new.self c.push_expressions.new.self null (concat (row_items (row_of c.args.kids.now))) c.in_ok-push_null.ensures c.push_expressions.ensures))

pub push_operation-returns : goal.push_operation-returns
push_operation-returns t c =
    array_written c.push_expressions.result c.args.self.now c.push_head.new.self c.push_expressions.new.self (2 + length c.args.kids.now) (natural 3 ∷ natural (op_code c.args.operator) ∷ row_items (row_of c.args.kids.now)) c.in_ok-push_head.ensures
    (omega (arith, items_count c.args.kids.now))
    (then c.push_expressions.result c.push_head.new.self c.push_code.new.self c.push_expressions.new.self (natural 3) (concat (natural (op_code c.args.operator) ∷ row_items (row_of c.args.kids.now)))
    c.in_ok-push_code.ensures
    (then c.push_expressions.result c.push_code.new.self c.push_code-2.new.self c.push_expressions.new.self (natural (op_code c.args.operator)) (concat (row_items (row_of c.args.kids.now)))
    (c.in_ok-push_code-2.ensures ∙ ap (λ l. c.push_code.new.self ++ l) (ap (head 0) c.code_of.ensures ∙ small_code c.args.operator)) c.push_expressions.ensures))

pub push_abstraction-returns-then-is_underscore : goal.push_abstraction-returns-then-is_underscore
push_abstraction-returns-then-is_underscore t c =
    named c.push_coded.result c.args.self.now c.push_coded.new.self _ (abstraction_bytes c.args.code (row_of c.args.kids.now))
    (ap (λ n. array (n ∷ row_items (row_of c.args.kids.now))) (small c.args.code (omega (arith, c.ranges.code)))
    ∙ abstraction_blank c.args.code (row_of c.args.kids.now) (row_of c.scope_of.result.front.now) c.scope_of.result.name.now (term c.scope_of.result.body.now) c.scope_of.ensures.whole
    (c.scope_of.ensures.front 1 c.requires.fit) (sym c.is_underscore.ensures ∙ c.if-is_underscore.true))
    c.push_coded.ensures

pub push_abstraction-returns : goal.push_abstraction-returns
push_abstraction-returns t c =
    let count =
    abstraction_count (row_of c.args.kids.now) (row_of c.scope_of.result.front.now) c.scope_of.result.name.now (term c.scope_of.result.body.now) c.scope_of.ensures.whole (c.scope_of.ensures.front 1 c.requires.fit) in
    named c.push_expressions.result c.args.self.now c.push_expressions.new.self (array (head 0 c.args.code ∷ text c.scope_of.result.name.now ∷ row_items (row_of c.args.kids.now)))
    (abstraction_bytes c.args.code (row_of c.args.kids.now))
    (ap (λ n. array (n ∷ text c.scope_of.result.name.now ∷ row_items (row_of c.args.kids.now))) (small c.args.code (omega (arith, c.ranges.code)))
    ∙ abstraction_named c.args.code (row_of c.args.kids.now) (row_of c.scope_of.result.front.now) c.scope_of.result.name.now (term c.scope_of.result.body.now) c.scope_of.ensures.whole
    (c.scope_of.ensures.front 1 c.requires.fit) (sym c.is_underscore.ensures ∙ c.if-is_underscore.false))
    (array_written c.push_expressions.result c.args.self.now c.push_head.new.self c.push_expressions.new.self 4 (head 0 c.args.code ∷ text c.scope_of.result.name.now ∷ row_items (row_of c.args.kids.now))
    c.in_ok-push_head.ensures (omega (arith, count))
    (then c.push_expressions.result c.push_head.new.self c.push_code.new.self c.push_expressions.new.self (head 0 c.args.code)
    (concat (text c.scope_of.result.name.now ∷ row_items (row_of c.args.kids.now))) c.in_ok-push_code.ensures
    (then c.push_expressions.result c.push_code.new.self c.push_label.new.self c.push_expressions.new.self (text c.scope_of.result.name.now) (concat (row_items (row_of c.args.kids.now)))
    c.in_ok-push_label.ensures c.push_expressions.ensures)))

pub push_application-returns : goal.push_application-returns
push_application-returns t c =
    named c.push_arguments.result c.args.self.now c.push_arguments.new.self _ _ (sym (application_whole (row_of c.args.kids.now) c.requires.fit))
    (array_written c.push_arguments.result c.args.self.now c.push_head.new.self c.push_arguments.new.self (1 + c.count_arguments.result) (natural 0 ∷ (node ops.App (forms (row_of c.args.kids.now))).applied)
    c.in_ok-push_head.ensures (omega (arith, c.count_arguments.ensures.count))
    (then c.push_arguments.result c.push_head.new.self c.push_code.new.self c.push_arguments.new.self (natural 0) (concat (node ops.App (forms (row_of c.args.kids.now))).applied)
    c.in_ok-push_code.ensures c.push_arguments.ensures))

pub push_arguments-push_applied-requires : goal.push_arguments-push_applied-requires
push_arguments-push_applied-requires t c =
    let part = first_part None (term c.two.result.0.now) (kid None (term c.two.result.1.now) end) (row_of c.args.kids.now) c.two.ensures c.requires.parts in
    (omega (arith, c.decreases, part.less), part.can)

pub push_arguments-push_expression-requires : goal.push_arguments-push_expression-requires
push_arguments-push_expression-requires t c =
    let part = second_part None None (term c.two.result.0.now) (term c.two.result.1.now) end (row_of c.args.kids.now) c.two.ensures c.requires.parts in
    (omega (arith, c.decreases, part.less), part.can)

pub push_arguments-returns : goal.push_arguments-returns
push_arguments-returns t c =
    named c.push_expression.result c.args.self.now c.push_expression.new.self _ _
    (sym (ap concat (applied_items (row_of c.args.kids.now) (term c.two.result.0.now) (term c.two.result.1.now) c.two.ensures)))
    (and_items c.push_expression.result c.args.self.now c.push_applied.new.self c.push_expression.new.self (form (term c.two.result.0.now)).applied (enc (term c.two.result.1.now) ∷ [])
    c.in_ok-push_applied.ensures (last c.push_expression.result c.push_applied.new.self c.push_expression.new.self (enc (term c.two.result.1.now)) c.push_expression.ensures))

pub push_applied-push_arguments-requires : goal.push_applied-push_arguments-requires
push_applied-push_arguments-requires t c =
    let node = of_node ops.App (row_of c.in-Some.kids.now) (term c.args.e.now) c.in-Some.ensures.some c.requires in
    (omega (arith, c.decreases, node.same), (node.fit, node.can))

pub push_applied-returns-in-Some : goal.push_applied-returns-in-Some
push_applied-returns-in-Some t c =
    named c.push_arguments.result c.args.self.now c.push_arguments.new.self _ _ (sym (ap (λ e. concat (form e).applied) c.in-Some.ensures.some)) c.push_arguments.ensures

pub push_applied-returns-in-None : goal.push_applied-returns-in-None
push_applied-returns-in-None t c =
    named c.push_expression.result c.args.self.now c.push_expression.new.self (concat (enc (term c.args.e.now) ∷ [])) _ (sym (ap concat c.in-None.ensures.none))
    (last c.push_expression.result c.args.self.now c.push_expression.new.self (enc (term c.args.e.now)) c.push_expression.ensures)

pub push_let-returns : goal.push_let-returns
push_let-returns t c =
    named c.push_bindings.result c.args.self.now c.push_bindings.new.self _ _ (sym (let_whole c.args.typed (row_of c.args.kids.now) c.requires.fit))
    (array_written c.push_bindings.result c.args.self.now c.push_head.new.self c.push_bindings.new.self (1 + c.count_bindings.result) (natural 25 ∷ (node (ops.Let c.args.typed) (forms (row_of c.args.kids.now))).bound)
    c.in_ok-push_head.ensures (omega (arith, c.count_bindings.ensures.count))
    (then c.push_bindings.result c.push_head.new.self c.push_code.new.self c.push_bindings.new.self (natural 25) (concat (node (ops.Let c.args.typed) (forms (row_of c.args.kids.now))).bound)
    c.in_ok-push_code.ensures c.push_bindings.ensures))

pub push_bindings-scope_of-scope-requires : goal.push_bindings-scope_of-scope-requires
push_bindings-scope_of-scope-requires t c = let_binds c.args.typed (row_of c.args.kids.now) c.requires.fit

pub push_bindings-push_expressions-requires : goal.push_bindings-push_expressions-requires
push_bindings-push_expressions-requires t c =
    let front = front_parts (row_of c.scope_of-scope.result.front.now) (Some c.scope_of-scope.result.name.now) (term c.scope_of-scope.result.body.now) (row_of c.args.kids.now) c.scope_of-scope.ensures.whole c.requires.parts in
    (omega (arith, c.decreases, front.few), front.can)

pub push_bindings-push_bound-requires : goal.push_bindings-push_bound-requires
push_bindings-push_bound-requires t c =
    let part = last_part (row_of c.scope_of-scope.result.front.now) (Some c.scope_of-scope.result.name.now) (term c.scope_of-scope.result.body.now) (row_of c.args.kids.now) c.scope_of-scope.ensures.whole c.requires.parts in
    (omega (arith, c.decreases, part.less), part.can)

pub push_bindings-returns : goal.push_bindings-returns
push_bindings-returns t c =
    named c.push_bound.result c.args.self.now c.push_bound.new.self _ _
    (sym (ap concat (bound_items c.args.typed (row_of c.args.kids.now) (row_of c.scope_of-scope.result.front.now) c.scope_of-scope.result.name.now (term c.scope_of-scope.result.body.now)
    c.scope_of-scope.ensures.whole c.scope_of-scope.ensures.front c.requires.fit)))
    (and_items c.push_bound.result c.args.self.now c.push_expressions.new.self c.push_bound.new.self (let_head c.args.typed c.scope_of-scope.result.name.now ++ row_items (row_of c.scope_of-scope.result.front.now))
    (form (term c.scope_of-scope.result.body.now)).bound
    (both_items c.args.self.now c.push_variable_of_let.new.self c.push_expressions.new.self (let_head c.args.typed c.scope_of-scope.result.name.now) (row_items (row_of c.scope_of-scope.result.front.now))
    c.in_ok-push_variable_of_let.ensures c.in_ok-push_expressions.ensures)
    c.push_bound.ensures)

pub push_bound-push_bindings-requires : goal.push_bound-push_bindings-requires
push_bound-push_bindings-requires t c =
    let node = of_node (ops.Let c.in-Some.typed) (row_of c.in-Some.kids.now) (term c.args.e.now) c.in-Some.ensures.some c.requires in
    (omega (arith, c.decreases, node.same), (node.fit, node.can))

pub push_bound-returns-in-Some : goal.push_bound-returns-in-Some
push_bound-returns-in-Some t c =
    named c.push_bindings.result c.args.self.now c.push_bindings.new.self _ _ (sym (ap (λ e. concat (form e).bound) c.in-Some.ensures.some)) c.push_bindings.ensures

pub push_bound-returns-in-None : goal.push_bound-returns-in-None
push_bound-returns-in-None t c =
    named c.push_expression.result c.args.self.now c.push_expression.new.self (concat (enc (term c.args.e.now) ∷ [])) _ (sym (ap concat c.in-None.ensures.none))
    (last c.push_expression.result c.args.self.now c.push_expression.new.self (enc (term c.args.e.now)) c.push_expression.ensures)

pub push_empty_list-push_expression-requires : goal.push_empty_list-push_expression-requires
push_empty_list-push_expression-requires t c =
    (omega (arith, c.decreases, c.in-Some.ensures.smaller), (c.in-Some.ensures.formed, omega (arith, c.in-Some.ensures.smaller, c.requires.1)))

pub push_node-push_empty_list-requires : goal.push_node-push_empty_list-requires
push_node-push_empty_list-requires t c =
    let part = first_part None (term c.one.result.now) end (row_of c.args.kids.now) c.one.ensures c.requires.parts in
    (omega (arith, c.decreases, part.less), part.can)

pub push_node-push_fields-requires : goal.push_node-push_fields-requires
push_node-push_fields-requires t c =
    let count = record_type_count c.args.op.now c.in-RecordType.labels c.as_slice-in-RecordType.result.now c.args.kids.now c.in-RecordType.is c.as_slice-in-RecordType.ensures c.requires.fit in
    (omega (arith, c.decreases), (count, c.requires.parts))

pub push_node-push_fields-requires-in-Record : goal.push_node-push_fields-requires-in-Record
push_node-push_fields-requires-in-Record t c =
    let count = record_count c.args.op.now c.in-Record.labels c.as_slice-in-Record.result.now c.args.kids.now c.in-Record.is c.as_slice-in-Record.ensures c.requires.fit in
    (omega (arith, c.decreases), (count, c.requires.parts))

pub push_node-push_union-requires : goal.push_node-push_union-requires
push_node-push_union-requires t c =
    let count = union_count c.args.op.now c.in-Union.alts c.as_slice-in-Union.result.now c.args.kids.now c.in-Union.is c.as_slice-in-Union.ensures c.requires.fit in
    (omega (arith, c.decreases), (count, c.requires.parts))

pub push_fields-push_expression-requires : goal.push_fields-push_expression-requires
push_fields-push_expression-requires t c =
    let part =
    kid_part c.args.kids.now c.loop-i.i (get_or c.args.kids.now c.loop-i.i c.index-kids-i.result) (omega (arith, c.loop-i-test.true, c.requires.fit))
    (ap (λ k. get_or c.args.kids.now c.loop-i.i k) c.index-kids-i.is) c.requires.parts in
    (omega (arith, c.decreases, part.less), part.can)

pub push_fields-loop-i-preserved : goal.push_fields-loop-i-preserved
push_fields-loop-i-preserved t c =
    field_written c.args.labels.now c.args.kids.now c.loop-i.i c.index-labels-i.result (get_or c.args.kids.now c.loop-i.i c.index-kids-i.result) c.loop-i.self
    c.push_label.new.self c.push_expression.new.self _ c.loop-i-test.true (omega (arith, c.loop-i-test.true, c.requires.fit)) c.index-labels-i.is
    (ap (λ k. get_or c.args.kids.now c.loop-i.i k) c.index-kids-i.is) c.in_ok-push_label.ensures c.in_ok-push_expression.ensures c.loop-i.invariant

pub push_fields-returns : goal.push_fields-returns
push_fields-returns t c =
    let fields = pairs c.args.labels.now (row_items (row_of c.args.kids.now)) in
    array_written {E = ℕ} (Ok tt) c.args.self.now c.push_head.new.self c.loop-i.self 2 (head 0 c.args.code ∷ map_of (length c.args.labels.now) fields ∷ []) c.in_ok-push_head.ensures refl
    (then {E = ℕ} (Ok tt) c.push_head.new.self c.push_code.new.self c.loop-i.self (head 0 c.args.code) (concat (map_of (length c.args.labels.now) fields ∷ [])) c.in_ok-push_code.ensures
    (last {E = ℕ} (Ok tt) c.push_code.new.self c.loop-i.self (map_of (length c.args.labels.now) fields)
    (then {E = ℕ} (Ok tt) c.push_code.new.self c.push_head-2.new.self c.loop-i.self (head 5 (length c.args.labels.now)) fields c.in_ok-push_head-2.ensures
    (fields_written c.args.labels.now c.args.kids.now c.loop-i.i c.loop-i.self _ c.loop-i-test.false c.loop-i.invariant))))

pub push_union-push_expression-requires : goal.push_union-push_expression-requires
push_union-push_expression-requires t c =
    let less = typed_less c.args.alts.now c.loop-alt.alt-index c.alt-item.result c.loop-alt-test.true c.alt-item.is c.if-alt.true in
    let part =
    kid_part c.args.kids.now c.loop-alt.next (get_or c.args.kids.now c.loop-alt.next c.index-kids-next.result) (omega (arith, less, c.loop-alt.invariant.room))
    (ap (λ k. get_or c.args.kids.now c.loop-alt.next k) c.index-kids-next.is) c.requires.parts in
    (omega (arith, c.decreases, part.less), part.can)

pub push_union-loop-alt-preserved : goal.push_union-loop-alt-preserved
push_union-loop-alt-preserved t c =
    elim c.if-alt.branch [
      | push_union-then-alt+in_ok-push_expression w ↦
          let less = typed_less c.args.alts.now c.loop-alt.alt-index c.alt-item.result c.loop-alt-test.true c.alt-item.is w.if-alt.true in
          record {
            room = omega (arith, less, w.next-is, c.loop-alt.invariant.room);
            bytes =
                ap (λ s. s ++ alternatives (drop (c.loop-alt.alt-index + 1) c.args.alts.now) (row_items (row_of (drop c.if-alt.next c.args.kids.now)))) w.self-is
                ∙ ap (λ n. w.push_expression.new.self ++ alternatives (drop (c.loop-alt.alt-index + 1) c.args.alts.now) (row_items (row_of (drop n c.args.kids.now)))) w.next-is
                ∙ typed_written c.args.alts.now c.args.kids.now c.loop-alt.alt-index c.loop-alt.next c.alt-item.result (get_or c.args.kids.now c.loop-alt.next w.index-kids-next.result) c.loop-alt.self
                c.push_label.new.self w.push_expression.new.self _ c.loop-alt-test.true (omega (arith, less, c.loop-alt.invariant.room)) c.alt-item.is
                (ap (λ k. get_or c.args.kids.now c.loop-alt.next k) w.index-kids-next.is) w.if-alt.true c.in_ok-push_label.ensures w.in_ok-push_expression.ensures c.loop-alt.invariant.bytes;
          }
      | push_union-else-alt+in_ok-push_null w ↦
          let same = typed_same c.args.alts.now c.loop-alt.alt-index c.alt-item.result c.loop-alt-test.true c.alt-item.is w.if-alt.false in
          record {
            room = omega (arith, same, w.next-is, c.loop-alt.invariant.room);
            bytes =
                ap (λ s. s ++ alternatives (drop (c.loop-alt.alt-index + 1) c.args.alts.now) (row_items (row_of (drop c.if-alt.next c.args.kids.now)))) w.self-is
                ∙ ap (λ n. w.push_null.new.self ++ alternatives (drop (c.loop-alt.alt-index + 1) c.args.alts.now) (row_items (row_of (drop n c.args.kids.now)))) w.next-is
                ∙ untyped_written c.args.alts.now c.args.kids.now c.loop-alt.alt-index c.loop-alt.next c.alt-item.result c.loop-alt.self
                c.push_label.new.self w.push_null.new.self _ c.loop-alt-test.true c.alt-item.is w.if-alt.false c.in_ok-push_label.ensures w.in_ok-push_null.ensures c.loop-alt.invariant.bytes;
          }
    ]

pub push_union-returns : goal.push_union-returns
push_union-returns t c =
    let written = alternatives c.args.alts.now (row_items (row_of c.args.kids.now)) in
    array_written {E = ℕ} (Ok tt) c.args.self.now c.push_head.new.self c.loop-alt.self 2 (head 0 11 ∷ map_of (length c.args.alts.now) written ∷ []) c.in_ok-push_head.ensures refl
    (then {E = ℕ} (Ok tt) c.push_head.new.self c.push_code.new.self c.loop-alt.self (head 0 11) (concat (map_of (length c.args.alts.now) written ∷ [])) c.in_ok-push_code.ensures
    (last {E = ℕ} (Ok tt) c.push_code.new.self c.loop-alt.self (map_of (length c.args.alts.now) written)
    (then {E = ℕ} (Ok tt) c.push_code.new.self c.push_head-2.new.self c.loop-alt.self (head 5 (length c.args.alts.now)) written c.in_ok-push_head-2.ensures
    (alternatives_written c.args.alts.now _ c.loop-alt.alt-index c.loop-alt.self _ c.loop-alt-test.false c.loop-alt.invariant.bytes))))

pub push_text_literal-push_expression-requires : goal.push_text_literal-push_expression-requires
push_text_literal-push_expression-requires t c =
    let part = kid_part c.args.kids.now c.loop-i.i c.index-kids-i.result c.loop-i-test.true c.index-kids-i.is c.requires.parts in
    (omega (arith, c.decreases, part.less), part.can)

pub push_text_literal-loop-i-init : goal.push_text_literal-loop-i-init
push_text_literal-loop-i-init t c =
    refl

pub push_text_literal-loop-i-preserved : goal.push_text_literal-loop-i-preserved
push_text_literal-loop-i-preserved t c =
    let fit = text_fit c.args.pieces.now c.args.kids.now c.requires.fit in
    interpolation_written c.args.pieces.now c.args.kids.now c.loop-i.i c.index-pieces-i.result c.index-kids-i.result c.loop-i.self
    c.push_expression.new.self c.push_text-in-loop-i.new.self _ (omega (arith, fit, c.loop-i-test.true)) c.loop-i-test.true c.index-pieces-i.is c.index-kids-i.is
    c.in_ok-push_expression.ensures (c.in_ok-push_text-2.ensures ∙ ap (λ s. c.push_expression.new.self ++ text s) c.as_str-in-loop-i.ensures) c.loop-i.invariant

pub push_text_literal-returns : goal.push_text_literal-returns
push_text_literal-returns t c =
    let items = row_items (row_of c.args.kids.now) in
    let fit = text_fit c.args.pieces.now c.args.kids.now c.requires.fit in
    let count = items_count c.args.kids.now in
    let first = text_items c.args.pieces.now items c.index-pieces-0.result (omega (arith, fit)) c.index-pieces-0.is in
    array_written {E = ℕ} (Ok tt) c.args.self.now c.push_head.new.self c.loop-i.self (1 + length c.args.pieces.now + length c.args.kids.now) (natural 18 ∷ interleaved c.args.pieces.now items) c.in_ok-push_head.ensures
    (omega (arith, count, text_count c.args.pieces.now items (omega (arith, fit, count))))
    (then {E = ℕ} (Ok tt) c.push_head.new.self c.push_code.new.self c.loop-i.self (natural 18) (concat (interleaved c.args.pieces.now items)) c.in_ok-push_code.ensures
    (named {E = ℕ} (Ok tt) c.push_code.new.self c.loop-i.self _ (concat (interleaved c.args.pieces.now items)) (sym (ap concat first))
    (then {E = ℕ} (Ok tt) c.push_code.new.self c.push_text.new.self c.loop-i.self (text c.index-pieces-0.result) (concat (behind (drop 1 c.args.pieces.now) items))
    (c.in_ok-push_text.ensures ∙ ap (λ s. c.push_code.new.self ++ text s) c.as_str.ensures)
    (text_written c.args.pieces.now c.args.kids.now c.loop-i.i c.loop-i.self _ c.loop-i-test.false (omega (arith, fit, c.loop-i-test.false)) c.loop-i.invariant))))

pub push_projection-returns : goal.push_projection-returns
push_projection-returns t c =
    let items = row_items (row_of c.args.kids.now) in
    array_written c.push_labels.result c.args.self.now c.push_head.new.self c.push_labels.new.self (1 + length c.args.kids.now + length c.args.labels.now) (natural 10 ∷ items ++ map text c.args.labels.now)
    c.in_ok-push_head.ensures (omega (arith, items_count c.args.kids.now, length-append items (map text c.args.labels.now), length-map c.args.labels.now text))
    (then c.push_labels.result c.push_head.new.self c.push_code.new.self c.push_labels.new.self (natural 10) (concat (items ++ map text c.args.labels.now)) c.in_ok-push_code.ensures
    (and_items c.push_labels.result c.push_code.new.self c.push_expressions.new.self c.push_labels.new.self items (map text c.args.labels.now) c.in_ok-push_expressions.ensures c.push_labels.ensures))

pub push_selection-returns : goal.push_selection-returns
push_selection-returns t c =
    let items = row_items (row_of c.args.kids.now) in
    array_written c.push_label.result c.args.self.now c.push_head.new.self c.push_label.new.self (2 + length c.args.kids.now) (natural 9 ∷ items ++ text c.args.label.now ∷ [])
    c.in_ok-push_head.ensures (omega (arith, items_count c.args.kids.now, length-append items (text c.args.label.now ∷ [])))
    (then c.push_label.result c.push_head.new.self c.push_code.new.self c.push_label.new.self (natural 9) (concat (items ++ text c.args.label.now ∷ [])) c.in_ok-push_code.ensures
    (and_items c.push_label.result c.push_code.new.self c.push_expressions.new.self c.push_label.new.self items (text c.args.label.now ∷ []) c.in_ok-push_expressions.ensures
    (last c.push_label.result c.push_expressions.new.self c.push_label.new.self (text c.args.label.now) c.push_label.ensures)))

pub push_projection_by_type-push_expression-requires : goal.push_projection_by_type-push_expression-requires
push_projection_by_type-push_expression-requires t c =
    let part = first_part None (term c.two.result.0.now) (kid None (term c.two.result.1.now) end) (row_of c.args.kids.now) c.two.ensures c.requires.parts in
    (omega (arith, c.decreases, part.less), part.can)

pub push_projection_by_type-push_expression-requires-2 : goal.push_projection_by_type-push_expression-requires-2
push_projection_by_type-push_expression-requires-2 t c =
    let part = second_part None None (term c.two.result.0.now) (term c.two.result.1.now) end (row_of c.args.kids.now) c.two.ensures c.requires.parts in
    (omega (arith, c.decreases, part.less), part.can)

pub push_update-push_expression-requires : goal.push_update-push_expression-requires
push_update-push_expression-requires t c =
    let part = first_part None (term c.two.result.0.now) (kid None (term c.two.result.1.now) end) (row_of c.args.kids.now) c.two.ensures c.requires.parts in
    (omega (arith, c.decreases, part.less), part.can)

pub push_update-push_expression-requires-2 : goal.push_update-push_expression-requires-2
push_update-push_expression-requires-2 t c =
    let part = second_part None None (term c.two.result.0.now) (term c.two.result.1.now) end (row_of c.args.kids.now) c.two.ensures c.requires.parts in
    (omega (arith, c.decreases, part.less), part.can)

pub push_text_literal-bounds-pieces-i : goal.push_text_literal-bounds-pieces-i
push_text_literal-bounds-pieces-i t c = let fit = text_fit c.args.pieces.now c.args.kids.now c.requires.fit in omega (arith, fit, c.loop-i-test.true)
