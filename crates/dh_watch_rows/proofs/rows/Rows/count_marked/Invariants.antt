use Rattle.std.proofs.Common.{◌≡◌, ◌≤◌, ◌+◌, List, length}
use Rattle.dh_syntax.specs.declared.locations.Key.{Key}
use Rattle.dh_demand.specs.Results.{ask_of}
use Rattle.dh_watch_laws.specs.VisitCounts.{count_from}
use Rattle.dh_watch_rows.specs.Inside.LoopedRows.{Mark}
use Rattle.dh_watch_rows.specs.KeptRows.{kept_of}
use Rattle.dh_watch_rows.proofs.VisitedRows.{Passes}
use Rattle.dh_watch_rows.proofs.rows.Rows.count_marked.Given as goal

abbrev pub invariant-passed : goal.invariant-passed
invariant-passed g l = record {
  marks : length l.marks ≡ length l.fn.marks;
  few : l.count + l.left ≤ length l.self.found.items;
  passes : (ks : List Key) → Mark l.self.keys l.fn.marks ks
      → Passes l.self.keys l.self.found.items (kept_of l.self).recorded (ask_of (g.R.Results.rows l.results)) l.marks l.count l.left
      (count_from (kept_of l.self).recorded (ask_of (g.R.Results.rows l.results)) (kept_of l.self).outcomes ks);
}

abbrev pub decreases-passed : goal.decreases-passed
decreases-passed g l = l.left
