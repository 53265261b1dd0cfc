use Rattle.std.proofs.Common.{◌≡◌, length}
use Rattle.dh_syntax.specs.Text.Meaning.{values}
use Rattle.dh_places.specs.Parts.{labelled}
use Rattle.dh_places.proofs.FromRight.{before}
use Rattle.dh_places.proofs.rows.concat.Given as goal

abbrev pub invariant-loop-row : goal.invariant-loop-row
invariant-loop-row g l =
    before g.N.Notes.noting (values (labelled g.N.Notes.noting g.N.Notes.view l.rows.items)) (g.N.Notes.view l.nodes)
    ≡ before g.N.Notes.noting (values (labelled g.N.Notes.noting g.N.Notes.view l.initial.rows.items)) (g.N.Notes.view l.initial.nodes)

abbrev pub decreases-loop-row : goal.decreases-loop-row
decreases-loop-row g l = length l.rows.items
