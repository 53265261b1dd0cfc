use Rattle.std.proofs.Common.{take}
use Rattle.dh_demand.specs.Results.{ask_of}
use Rattle.dh_record.specs.Rows.{rows_of}
use Rattle.dh_watch_laws.specs.VisitCounts.{asked_by_all}
use Rattle.dh_watch_rows.specs.Inside.LoopedRows.{Mark, looped_rows}
use Rattle.dh_watch_rows.specs.KeptRows.{kept_of}
use Rattle.dh_watch_rows.proofs.VisitedRows.{chained}
use Rattle.dh_watch_rows.proofs.rows.Rows.count_on_loop.Given as goal

abbrev pub invariant-on : goal.invariant-on
invariant-on l = Mark l.self.keys l.on (chained l.self.keys (take l.n-index l.chain))

abbrev pub invariant-asked : goal.invariant-asked
invariant-asked l =
    Mark l.self.keys l.marks
    (asked_by_all (kept_of l.self).recorded (ask_of (looped_rows (rows_of l.looped.keys.now) l.looped.chain.now l.looped.end.now)) (chained l.self.keys (take l.n-index l.chain)))
