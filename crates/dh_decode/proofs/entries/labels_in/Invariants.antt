use Rattle.std.proofs.Common.{◌≡◌, ◌++◌, length}
use Rattle.dh_decode.specs.Inside.Views.{names_of}
use Rattle.dh_decode.proofs.entries.labels_in.Given as goal

abbrev pub invariant-loop-name : goal.invariant-loop-name
invariant-loop-name l = l.labels ++ names_of l.rest ≡ names_of l.fn.names.entries

abbrev pub decreases-loop-name : goal.decreases-loop-name
decreases-loop-name l = length l.rest
