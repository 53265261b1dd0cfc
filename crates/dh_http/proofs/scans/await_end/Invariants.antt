use Rattle.std.proofs.Common.{◌-◌, length}
use Rattle.dh_http.specs.Bodies.{most_line}
use Rattle.dh_http.specs.Reading.{place}
use Rattle.dh_http.proofs.ScanLaws.{HasScanned}
use Rattle.dh_http.proofs.scans.await_end.Given as goal

abbrev pub invariant-pieces : goal.invariant-pieces
invariant-pieces g l = HasScanned
    (place (g.L.Link.sent l.initial.link) (g.L.Link.left l.initial.link) (g.L.Link.receives l.initial.link) (g.L.Link.faults l.initial.link) l.initial.inbox)
    (place (g.L.Link.sent l.link) (g.L.Link.left l.link) (g.L.Link.receives l.link) (g.L.Link.faults l.link) l.inbox) l.initial.scan.seen l.scan.seen

abbrev pub decreases-pieces : goal.decreases-pieces
decreases-pieces g l = most_line - length l.inbox.bytes
