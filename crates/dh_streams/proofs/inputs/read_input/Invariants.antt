use Rattle.std.proofs.Common.{◌-◌, length}
use Rattle.dh_streams.specs.Streams.{most_read}
use Rattle.dh_streams.proofs.Taking.{HasTaken}
use Rattle.dh_streams.proofs.inputs.read_input.Given as goal

abbrev pub invariant-loop-input : goal.invariant-loop-input
invariant-loop-input g l =
    HasTaken (g.I.Feed.left l.initial.input) (g.I.Feed.left l.input) l.bytes.items (g.I.Feed.faults l.initial.input) (g.I.Feed.faults l.input)

abbrev pub decreases-loop-input : goal.decreases-loop-input
decreases-loop-input g l = most_read - length l.bytes.items
