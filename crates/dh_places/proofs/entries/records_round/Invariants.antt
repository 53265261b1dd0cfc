use Rattle.std.proofs.Common.{◌≡◌}
use Rattle.dh_syntax.specs.Text.Noting.{records_round}
use Rattle.dh_places.specs.Inside.Later.{later}
use Rattle.dh_places.proofs.entries.records_round.Given as goal

abbrev pub invariant-loop-left : goal.invariant-loop-left
invariant-loop-left g l =
    records_round g.N.Notes.noting (later l.left l.fn.from) l.fn.last (g.N.Notes.view l.nodes) ≡ records_round g.N.Notes.noting (later l.initial.left l.fn.from) l.fn.last (g.N.Notes.view l.initial.nodes)

abbrev pub decreases-loop-left : goal.decreases-loop-left
decreases-loop-left g l = l.left
