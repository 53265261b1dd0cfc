use Rattle.std.proofs.Common.{◌≡◌, ◌<◌, ◌^◌, max, map, length}
use Rattle.std.specs.Vec.Iter.{into_iter_items, into_iter_len}
use Rattle.dh_syntax.specs.Expressions.Bridge.{row_of}
use Rattle.dh_syntax.specs.Expressions.Rows.{◌+++◌}
use Rattle.dh_binary.specs.Stubs.{row, deepest}
use Rattle.dh_decode.specs.Inside.Views.{part_of}
use Rattle.dh_decode.proofs.nodes.all.Given as goal

abbrev pub invariant-loop-part : goal.invariant-loop-part
invariant-loop-part l =
    (row_of l.kids +++ row (map part_of (into_iter_items l.rest)) ≡ row (map part_of l.fn.parts))
    × (max l.nests (deepest (map part_of (into_iter_items l.rest))) ≡ deepest (map part_of l.fn.parts))
    × (l.nests < 2 ^ 10)
    × (into_iter_len l.rest ≡ length (into_iter_items l.rest))

abbrev pub decreases-loop-part : goal.decreases-loop-part
decreases-loop-part l = into_iter_len l.rest
