use Rattle.std.proofs.Common.{◌≡◌, map, length}
use Rattle.std.specs.Vec.Iter.{into_iter_items, into_iter_len}
use Rattle.dh_grammar.specs.Stubs.{unbound}
use Rattle.dh_operands.specs.Inside.Nodes.{gathered_of, and_parts}
use Rattle.dh_operands.specs.Operands.{part_of}
use Rattle.dh_operands.proofs.gathering.Gathering.push_all.Given as goal

abbrev pub invariant-loop-part : goal.invariant-loop-part
invariant-loop-part l =
    (and_parts (gathered_of l.self) (unbound (map part_of (into_iter_items l.part-iterator))) ≡ and_parts (gathered_of l.initial.self) (unbound (map part_of (into_iter_items l.initial.part-iterator))))
    × (into_iter_len l.part-iterator ≡ length (into_iter_items l.part-iterator))
