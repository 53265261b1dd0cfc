use Rattle.std.proofs.Common.{◌≡◌, ◌+◌, ◌*◌, drop, map}
use Rattle.serde_json.specs.Data.{no_members}
use Rattle.serde_json.specs.View.{view, members_view}
use Rattle.dh_syntax.specs.Expressions.Bridge.{row_of, term}
use Rattle.dh_syntax.specs.Expressions.Nesting.{nesting, parts_nesting}
use Rattle.dh_json.specs.JsonValue.{answer_map, elements, jsons, members}
use Rattle.dh_json.proofs.Walking.{joined}
use Rattle.dh_json.proofs.values.+json.Given as goal

abbrev pub decreases-to_json : goal.decreases-to_json
decreases-to_json l = 4 * nesting (term l.e.now) + 3

abbrev pub decreases-node : goal.decreases-node
decreases-node l = 4 * parts_nesting (row_of l.kids.now) + 2

abbrev pub decreases-elements : goal.decreases-elements
decreases-elements l = 4 * parts_nesting (row_of l.kids.now) + 1

abbrev pub decreases-fields : goal.decreases-fields
decreases-fields l = 4 * parts_nesting (row_of l.kids.now) + 1

abbrev pub decreases-part : goal.decreases-part
decreases-part l = 4 * parts_nesting (row_of l.kids.now)

abbrev pub invariant-elements-loop-i : goal.invariant-elements-loop-i
invariant-elements-loop-i l = elements 0 (jsons (row_of l.kids)) ≡ answer_map (joined (map view l.values.items)) (elements l.i (jsons (row_of (drop l.i l.kids))))

abbrev pub invariant-fields-loop-i : goal.invariant-fields-loop-i
invariant-fields-loop-i l = members 0 l.labels no_members (jsons (row_of l.kids)) ≡ members l.i (drop l.i l.labels) (members_view l.members.entries) (jsons (row_of (drop l.i l.kids)))
