use Rattle.std.proofs.Common.{◌-◌, length}
use Rattle.dh_http.proofs.Gains.{HasGained}
use Rattle.dh_http.proofs.sending.send_all.Given as goal

abbrev pub invariant-loop-at : goal.invariant-loop-at
invariant-loop-at g l =
    HasGained (g.L.Link.sent l.initial.link) (g.L.Link.sent l.link) l.bytes l.at
    (g.L.Link.left l.initial.link) (g.L.Link.left l.link)
    (g.L.Link.receives l.initial.link) (g.L.Link.receives l.link)
    (g.L.Link.faults l.initial.link) (g.L.Link.faults l.link)

abbrev pub decreases-loop-at : goal.decreases-loop-at
decreases-loop-at g l = length l.bytes - l.at
