use Rattle.std.proofs.Common.{◌≡◌, ◌++◌, length}
use Rattle.std.specs.Vec.Iter.{into_iter_items, into_iter_len}
use Rattle.dh_grammar.specs.Stubs.{alternatives_in, types_in}
use Rattle.dh_operands.specs.Inside.Nodes.{gathered_of, nothing, and_parts}
use Rattle.dh_operands.proofs.SumRows.{rows_of}
use Rattle.dh_operands.proofs.alternatives.Alternatives.union.Given as goal

abbrev pub invariant-loop-label : goal.invariant-loop-label
invariant-loop-label l =
    (l.alts ++ alternatives_in (rows_of (into_iter_items l.label-iterator)) ≡ alternatives_in (rows_of (into_iter_items l.initial.label-iterator)))
    × (and_parts (gathered_of l.types) (types_in (rows_of (into_iter_items l.label-iterator))) ≡ and_parts nothing (types_in (rows_of (into_iter_items l.initial.label-iterator))))
    × (into_iter_len l.label-iterator ≡ length (into_iter_items l.label-iterator))
