use Rattle.std.proofs.Common.{◌≡◌, ◌≤◌, ◌+◌}
use Rattle.dh_session.specs.Works.{Asks, Delivers, Fails, FreesLate, GivesBack}
use Rattle.dh_session.proofs.workers.worker.Given as goal

abbrev pub invariant-loop : goal.invariant-loop
invariant-loop g l = record {
  overs : l.seat.shares.overs ≡ l.initial.seat.shares.overs;
  frees : FreesLate l.initial.seat.shares l.seat.shares;
  delivers : Delivers l.initial.seat.shares l.seat.shares;
  returns : GivesBack l.initial.seat.shares l.seat.shares;
  asks : Asks (g.D.Desk.asked l.initial.desk) (g.D.Desk.asked l.desk) l.initial.seat.shares l.seat.shares;
  fails : Fails (g.D.Desk.faults l.initial.desk) (g.D.Desk.faults l.desk) l.initial.seat.shares l.seat.shares;
  filed : g.D.Desk.filed l.desk ≡ g.D.Desk.filed l.initial.desk;
  worker : l.seat.worker ≡ l.initial.seat.worker;
}
