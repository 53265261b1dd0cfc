use Rattle.std.proofs.Common.{◌≡◌, map, length}
use Rattle.dh_syntax.specs.Text.Noting.{lets_round}
use Rattle.dh_places.specs.Parts.{pending_of}
use Rattle.dh_places.proofs.bindings.lets_round.Given as goal

abbrev pub invariant-loop-binding : goal.invariant-loop-binding
invariant-loop-binding g l =
    lets_round g.N.Notes.noting (map (pending_of g.N.Notes.noting g.N.Notes.view) l.pendings.items) l.fn.last (g.N.Notes.view l.nodes)
    ≡ lets_round g.N.Notes.noting (map (pending_of g.N.Notes.noting g.N.Notes.view) l.initial.pendings.items) l.fn.last (g.N.Notes.view l.initial.nodes)

abbrev pub decreases-loop-binding : goal.decreases-loop-binding
decreases-loop-binding g l = length l.pendings.items
