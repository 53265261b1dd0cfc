use Rattle.std.proofs.Common.{◌≡◌, ◌++◌, length}
use Rattle.std.specs.Vec.Iter.{into_iter_items, into_iter_len}
use Rattle.dh_making.proofs.KeyLists.{labels_of}
use Rattle.dh_making.proofs.keys.Keys.into_labels.Given as goal

abbrev pub invariant-loop-key : goal.invariant-loop-key
invariant-loop-key l =
    (l.labels ++ labels_of (into_iter_items l.key-iterator) ≡ l.initial.labels ++ labels_of (into_iter_items l.initial.key-iterator))
    × (into_iter_len l.key-iterator ≡ length (into_iter_items l.key-iterator))
