use Rattle.std.proofs.Common.{◌-◌, length}
use Rattle.dh_streams.proofs.Gaining.{HasGained}
use Rattle.dh_streams.proofs.writing.write_all.Given as goal

abbrev pub invariant-loop-at : goal.invariant-loop-at
invariant-loop-at g l =
    HasGained (g.O.Sink.written l.initial.sink) (g.O.Sink.written l.sink) l.bytes l.at (g.O.Sink.faults l.initial.sink) (g.O.Sink.faults l.sink)

abbrev pub decreases-loop-at : goal.decreases-loop-at
decreases-loop-at g l = length l.bytes - l.at
