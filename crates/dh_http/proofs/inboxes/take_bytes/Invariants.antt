use Rattle.std.proofs.Common.{◌-◌}
use Rattle.dh_http.specs.Reading.{place}
use Rattle.dh_http.proofs.Places.{HasMoved}
use Rattle.dh_http.proofs.inboxes.take_bytes.Given as goal

abbrev pub invariant-loop-moved : goal.invariant-loop-moved
invariant-loop-moved g l = HasMoved
    (place (g.L.Link.sent l.initial.link) (g.L.Link.left l.initial.link) (g.L.Link.receives l.initial.link) (g.L.Link.faults l.initial.link) l.initial.inbox)
    (place (g.L.Link.sent l.link) (g.L.Link.left l.link) (g.L.Link.receives l.link) (g.L.Link.faults l.link) l.inbox)
    l.initial.body.items l.body.items l.moved l.want

abbrev pub decreases-loop-moved : goal.decreases-loop-moved
decreases-loop-moved g l = l.want - l.moved
