use Rattle.dh_streams.specs.Streams.{output}
use Rattle.dh_watching.specs.Steps.{state}
use Rattle.dh_watch_disk.specs.Inside.Rounds.{HasAsked}
use Rattle.dh_watch_disk.proofs.asking.ask_all.Given as goal

abbrev pub invariant-loop-i : goal.invariant-loop-i
invariant-loop-i g l = record {
  asked : HasAsked l.locs l.fn.before (state (g.W.Watches.now l.initial.watch) (g.W.Watches.kept l.initial.watch) (g.W.Watches.asked l.initial.watch) (g.W.Watches.faults l.initial.watch))
      (state (g.W.Watches.now l.watch) (g.W.Watches.kept l.watch) (g.W.Watches.asked l.watch) (g.W.Watches.faults l.watch)) l.i
      (output (g.O.Sink.written l.initial.out) (g.O.Sink.written l.out) (g.O.Sink.faults l.initial.out) (g.O.Sink.faults l.out)) l.told.items;
  agrees : g.W.Watches.agrees l.watch;
}
