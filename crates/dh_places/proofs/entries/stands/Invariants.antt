use Rattle.std.proofs.Common.{◌≡◌, length}
use Rattle.dh_places.proofs.FromRight.{before, stand_rows}
use Rattle.dh_places.proofs.entries.stands.Given as goal

abbrev pub invariant-loop-stand : goal.invariant-loop-stand
invariant-loop-stand g l =
    before g.N.Notes.noting (stand_rows g.N.Notes.noting g.N.Notes.view l.entries.items) (g.N.Notes.view l.nodes)
    ≡ before g.N.Notes.noting (stand_rows g.N.Notes.noting g.N.Notes.view l.initial.entries.items) (g.N.Notes.view l.initial.nodes)

abbrev pub decreases-loop-stand : goal.decreases-loop-stand
decreases-loop-stand g l = length l.entries.items
