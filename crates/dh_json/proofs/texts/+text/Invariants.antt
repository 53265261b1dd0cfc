use Rattle.std.proofs.Common.{◌≡◌, ◌+◌, ◌*◌, List, ℕ, drop, Err}
use Rattle.json.specs.Token.{Token}
use Rattle.dh_syntax.specs.Expressions.Bridge.{row_of, term}
use Rattle.dh_syntax.specs.Expressions.Nesting.{nesting, parts_nesting}
use Rattle.dh_json.specs.JsonValue.{elements, jsons}
use Rattle.dh_json.proofs.Writing.{EndsItems, EndsMembers, in_order}
use Rattle.dh_json.proofs.texts.+text.Given as goal

abbrev pub decreases-write : goal.decreases-write
decreases-write l = 4 * nesting (term l.e.now) + 3

abbrev pub decreases-write_node : goal.decreases-write_node
decreases-write_node l = 4 * parts_nesting (row_of l.kids.now) + 2

abbrev pub decreases-write_elements : goal.decreases-write_elements
decreases-write_elements l = 4 * parts_nesting (row_of l.kids.now) + 1

abbrev pub decreases-write_fields : goal.decreases-write_fields
decreases-write_fields l = 4 * parts_nesting (row_of l.kids.now) + 1

abbrev pub decreases-write_part : goal.decreases-write_part
decreases-write_part l = 4 * parts_nesting (row_of l.kids.now)

-- whatever ends the array well from here ends it well from the start, and what has no value here leaves the whole without one
abbrev pub invariant-write_elements-loop-i : goal.invariant-write_elements-loop-i
invariant-write_elements-loop-i l =
    (l.out.before ≡ l.initial.out.before)
    × ((end : List Token) → EndsItems (elements l.i (jsons (row_of (drop l.i l.kids)))) l.out.tokens end → EndsItems (elements 0 (jsons (row_of l.kids))) l.initial.out.tokens end)
    × ((q : List ℕ) → elements l.i (jsons (row_of (drop l.i l.kids))) ≡ Err q → elements 0 (jsons (row_of l.kids)) ≡ Err q)

-- the same of an object
abbrev pub invariant-write_fields-loop-i : goal.invariant-write_fields-loop-i
invariant-write_fields-loop-i l =
    (l.out.before ≡ l.initial.out.before)
    × ((end : List Token) → EndsMembers (in_order l.i (drop l.i l.labels) (jsons (row_of (drop l.i l.kids)))) l.out.tokens end → EndsMembers (in_order 0 l.labels (jsons (row_of l.kids))) l.initial.out.tokens end)
    × ((q : List ℕ) → in_order l.i (drop l.i l.labels) (jsons (row_of (drop l.i l.kids))) ≡ Err q → in_order 0 l.labels (jsons (row_of l.kids)) ≡ Err q)
