use Rattle.std.proofs.Common.{◌≡◌, ◌+◌, ◌*◌, ◌++◌, drop, length}
use Rattle.std.specs.List.{concat}
use Rattle.dh_syntax.specs.Bytes.Binary.{pairs, alternatives}
use Rattle.dh_syntax.specs.Expressions.Arity.{typed_count}
use Rattle.dh_syntax.specs.Expressions.Bridge.{term, row_of}
use Rattle.dh_syntax.specs.Expressions.Nesting.{nesting, parts_nesting}
use Rattle.dh_encode.specs.Inside.Items.{row_items, behind}
use Rattle.dh_encode.proofs.writer.Writer.+expression.Given as goal

abbrev pub decreases-push_abstraction : goal.decreases-push_abstraction
decreases-push_abstraction l = 8 * parts_nesting (row_of l.kids.now) + 2

abbrev pub decreases-push_application : goal.decreases-push_application
decreases-push_application l = 8 * parts_nesting (row_of l.kids.now) + 4

abbrev pub decreases-push_arguments : goal.decreases-push_arguments
decreases-push_arguments l = 8 * parts_nesting (row_of l.kids.now) + 3

abbrev pub decreases-push_bindings : goal.decreases-push_bindings
decreases-push_bindings l = 8 * parts_nesting (row_of l.kids.now) + 3

abbrev pub decreases-push_applied : goal.decreases-push_applied
decreases-push_applied l = 8 * nesting (term l.e.now) + 8

abbrev pub decreases-push_bound : goal.decreases-push_bound
decreases-push_bound l = 8 * nesting (term l.e.now) + 8

abbrev pub decreases-push_coded : goal.decreases-push_coded
decreases-push_coded l = 8 * parts_nesting (row_of l.kids.now) + 1

abbrev pub decreases-push_coded_null : goal.decreases-push_coded_null
decreases-push_coded_null l = 8 * parts_nesting (row_of l.kids.now) + 1

abbrev pub decreases-push_empty_list : goal.decreases-push_empty_list
decreases-push_empty_list l = 8 * nesting (term l.list_type.now) + 8

abbrev pub decreases-push_expression : goal.decreases-push_expression
decreases-push_expression l = 8 * nesting (term l.e.now) + 7

abbrev pub decreases-push_expressions : goal.decreases-push_expressions
decreases-push_expressions l = 8 * parts_nesting (row_of l.kids.now)

abbrev pub decreases-push_fields : goal.decreases-push_fields
decreases-push_fields l = 8 * parts_nesting (row_of l.kids.now) + 1

abbrev pub decreases-push_let : goal.decreases-push_let
decreases-push_let l = 8 * parts_nesting (row_of l.kids.now) + 4

abbrev pub decreases-push_node : goal.decreases-push_node
decreases-push_node l = 8 * parts_nesting (row_of l.kids.now) + 5

abbrev pub decreases-push_operation : goal.decreases-push_operation
decreases-push_operation l = 8 * parts_nesting (row_of l.kids.now) + 1

abbrev pub decreases-push_projection : goal.decreases-push_projection
decreases-push_projection l = 8 * parts_nesting (row_of l.kids.now) + 1

abbrev pub decreases-push_projection_by_type : goal.decreases-push_projection_by_type
decreases-push_projection_by_type l = 8 * parts_nesting (row_of l.kids.now) + 1

abbrev pub decreases-push_selection : goal.decreases-push_selection
decreases-push_selection l = 8 * parts_nesting (row_of l.kids.now) + 1

abbrev pub decreases-push_text_literal : goal.decreases-push_text_literal
decreases-push_text_literal l = 8 * parts_nesting (row_of l.kids.now) + 1

abbrev pub decreases-push_union : goal.decreases-push_union
decreases-push_union l = 8 * parts_nesting (row_of l.kids.now) + 1

abbrev pub decreases-push_update : goal.decreases-push_update
decreases-push_update l = 8 * parts_nesting (row_of l.kids.now) + 1

abbrev pub invariant-push_expressions-loop-kid : goal.invariant-push_expressions-loop-kid
invariant-push_expressions-loop-kid l =
    l.self ++ concat (row_items (row_of (drop l.kid-index l.kids))) ≡ l.initial.self ++ concat (row_items (row_of l.kids))

abbrev pub invariant-push_fields-loop-i : goal.invariant-push_fields-loop-i
invariant-push_fields-loop-i l =
    l.self ++ pairs (drop l.i l.labels) (row_items (row_of (drop l.i l.kids))) ≡ l.initial.self ++ pairs l.labels (row_items (row_of l.kids))

abbrev pub invariant-push_text_literal-loop-i : goal.invariant-push_text_literal-loop-i
invariant-push_text_literal-loop-i l =
    l.self ++ concat (behind (drop (l.i + 1) l.pieces) (row_items (row_of (drop l.i l.kids)))) ≡ l.initial.self ++ concat (behind (drop 1 l.pieces) (row_items (row_of l.kids)))

abbrev pub invariant-push_union-loop-alt : goal.invariant-push_union-loop-alt
invariant-push_union-loop-alt l =
    record {
      room : l.next + typed_count (drop l.alt-index l.alts) ≡ length l.kids;
      bytes : l.self ++ alternatives (drop l.alt-index l.alts) (row_items (row_of (drop l.next l.kids))) ≡ l.initial.self ++ alternatives l.alts (row_items (row_of l.kids));
    }
