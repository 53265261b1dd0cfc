use Rattle.std.proofs.Common.{◌-◌, length}
use Rattle.dh_http.specs.Reading.{place}
use Rattle.dh_http.specs.Reply.{most_found}
use Rattle.dh_http.proofs.ContentLaws.{HasChunked}
use Rattle.dh_http.proofs.bodies.take_chunks.Given as goal

abbrev pub invariant-chunks : goal.invariant-chunks
invariant-chunks g l = HasChunked
    (place (g.L.Link.sent l.initial.link) (g.L.Link.left l.initial.link) (g.L.Link.receives l.initial.link) (g.L.Link.faults l.initial.link) l.initial.inbox)
    (place (g.L.Link.sent l.link) (g.L.Link.left l.link) (g.L.Link.receives l.link) (g.L.Link.faults l.link) l.inbox)
    l.body.items

abbrev pub decreases-chunks : goal.decreases-chunks
decreases-chunks g l = most_found - length l.body.items
