use Rattle.std.proofs.Common.{◌≡◌, ◌++◌, length}
use Rattle.std.specs.Vec.Iter.{into_iter_items, into_iter_len}
use Rattle.dh_syntax.specs.Text.Meaning.{names, values}
use Rattle.dh_grammar.specs.Stubs.{unbound}
use Rattle.dh_operands.specs.Inside.Nodes.{gathered_of, nothing, and_parts}
use Rattle.dh_operands.specs.Rows.{rows_of}
use Rattle.dh_operands.proofs.rows.labels_and_parts.Given as goal

abbrev pub invariant-loop-label : goal.invariant-loop-label
invariant-loop-label l =
    (l.labels ++ names (rows_of (into_iter_items l.label-iterator)) ≡ names (rows_of (into_iter_items l.initial.label-iterator)))
    × (and_parts (gathered_of l.parts) (unbound (values (rows_of (into_iter_items l.label-iterator)))) ≡ and_parts nothing (unbound (values (rows_of (into_iter_items l.initial.label-iterator)))))
    × (into_iter_len l.label-iterator ≡ length (into_iter_items l.label-iterator))
