use Rattle.std.proofs.Common.{◌-◌}
use Rattle.dh_http.specs.Bodies.{most_line}
use Rattle.dh_http.specs.Reading.{place}
use Rattle.dh_http.proofs.ScanLaws.{HasScanned}
use Rattle.dh_http.proofs.lines.take_trailer.Given as goal

abbrev pub invariant-ends : goal.invariant-ends
invariant-ends g l = HasScanned
    (place (g.L.Link.sent l.initial.link) (g.L.Link.left l.initial.link) (g.L.Link.receives l.initial.link) (g.L.Link.faults l.initial.link) l.initial.inbox)
    (place (g.L.Link.sent l.link) (g.L.Link.left l.link) (g.L.Link.receives l.link) (g.L.Link.faults l.link) l.inbox) 0 l.scan.seen

abbrev pub decreases-ends : goal.decreases-ends
decreases-ends g l = most_line - l.scan.seen
