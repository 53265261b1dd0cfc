use Rattle.std.proofs.Common.{take}
use Rattle.dh_script.specs.Orders.{orders_of}
use Rattle.dh_streams.specs.Streams.{output}
use Rattle.dh_watching.specs.Inside.Gone.{HasGone}
use Rattle.dh_watching.specs.Steps.{state}
use Rattle.dh_watching.proofs.following.go_through.Given as goal

abbrev pub invariant-loop-i : goal.invariant-loop-i
invariant-loop-i g l = record {
  gone : HasGone (state (g.W.Watches.now l.initial.watch) (g.W.Watches.kept l.initial.watch) (g.W.Watches.asked l.initial.watch) (g.W.Watches.faults l.initial.watch))
      (state (g.W.Watches.now l.watch) (g.W.Watches.kept l.watch) (g.W.Watches.asked l.watch) (g.W.Watches.faults l.watch)) (orders_of (take l.i l.orders))
      (output (g.O.Sink.written l.initial.out) (g.O.Sink.written l.out) (g.O.Sink.faults l.initial.out) (g.O.Sink.faults l.out)) l.status;
  agrees : g.W.Watches.agrees l.watch;
}
