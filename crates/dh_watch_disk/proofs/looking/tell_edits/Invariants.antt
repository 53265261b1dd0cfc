use Rattle.dh_watching.specs.Steps.{state}
use Rattle.dh_watch_disk.specs.Showing.{Edits}
use Rattle.dh_watch_disk.proofs.looking.tell_edits.Given as goal

abbrev pub invariant-loop-place : goal.invariant-loop-place
invariant-loop-place g l = record {
  edits : Edits (state (g.W.Watches.now l.initial.watch) (g.W.Watches.kept l.initial.watch) (g.W.Watches.asked l.initial.watch) (g.W.Watches.faults l.initial.watch))
      (state (g.W.Watches.now l.watch) (g.W.Watches.kept l.watch) (g.W.Watches.asked l.watch) (g.W.Watches.faults l.watch));
  agrees : g.W.Watches.agrees l.watch;
}
