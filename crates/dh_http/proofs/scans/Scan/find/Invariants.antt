use Rattle.std.proofs.Common.{◌-◌, ◌≤◌, length}
use Rattle.dh_http.proofs.scans.Scan.find.Given as goal

abbrev pub invariant-bytes : goal.invariant-bytes
invariant-bytes l = (l.initial.self.seen ≤ l.self.seen) × (l.self.seen ≤ length l.window)

abbrev pub decreases-bytes : goal.decreases-bytes
decreases-bytes l = length l.window - l.self.seen
