use Rattle.std.proofs.Common.{◌≡◌, ◌++◌, map, length}
use Rattle.dh_binary.specs.Machine as machine
use Rattle.dh_binary.specs.Stubs.{stubs}
use Rattle.dh_decode.specs.Inside.Entries.{labels_of, alternatives_of}
use Rattle.dh_decode.specs.Inside.Views.{part_of, entries_of}
use Rattle.dh_decode.proofs.entries.alternatives.Given as goal

abbrev pub invariant-loop-name : goal.invariant-loop-name
invariant-loop-name l =
    (l.alternatives ++ alternatives_of (entries_of l.rest) ≡ alternatives_of (entries_of l.fn.entries.entries))
    × (map part_of l.parts ++ machine.held_values stubs (entries_of l.rest) ≡ machine.held_values stubs (entries_of l.fn.entries.entries))

abbrev pub decreases-loop-name : goal.decreases-loop-name
decreases-loop-name l = length l.rest
