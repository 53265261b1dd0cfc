use Rattle.dh_streams.specs.Streams.{output}
use Rattle.dh_watching.specs.Steps.{state}
use Rattle.dh_watch_disk.specs.FilesRuns.{Passes}
use Rattle.dh_watch_disk.specs.Inside.Rounds.{HasShown}
use Rattle.dh_watch_disk.proofs.following.follow.Given as goal

abbrev pub invariant-loop-look : goal.invariant-loop-look
invariant-loop-look g l = record {
  shown : HasShown l.fn.locs (state (g.W.Watches.now l.fn.watch) (g.W.Watches.kept l.fn.watch) (g.W.Watches.asked l.fn.watch) (g.W.Watches.faults l.fn.watch)) l._look
      (state (g.W.Watches.now l.watch) (g.W.Watches.kept l.watch) (g.W.Watches.asked l.watch) (g.W.Watches.faults l.watch))
      (output (g.O.Sink.written l.fn.out) (g.O.Sink.written l.out) (g.O.Sink.faults l.fn.out) (g.O.Sink.faults l.out)) l.told.items;
  passed : Passes (g.P.Pauses.passed l.fn.pauses) (g.P.Pauses.passed l.pauses) l._look;
  agrees : g.W.Watches.agrees l.watch;
}
