use Rattle.std.proofs.Common.{◌≡◌, ◌++◌, length}
use Rattle.std.specs.Vec.Iter.{into_iter_items, into_iter_len}
use Rattle.dh_syntax.specs.Text.Meaning.{names}
use Rattle.dh_making.proofs.projections.Projection.into_labels.Given as goal

abbrev pub invariant-loop-label : goal.invariant-loop-label
invariant-loop-label l =
    (l.labels ++ names (into_iter_items l.label-iterator) ≡ names (into_iter_items l.initial.label-iterator)) × (into_iter_len l.label-iterator ≡ length (into_iter_items l.label-iterator))
