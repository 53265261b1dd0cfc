use Rattle.std.proofs.Common.{◌≡◌, map, replicate, take}
use Rattle.std.specs.Prelude.{None}
use Rattle.once_cell.specs.Once.{cell_name}
use Rattle.dh_shelf.proofs.shelves.Shelf.pass.Given as goal

abbrev pub invariant-loop-slot : goal.invariant-loop-slot
invariant-loop-slot g l = (map (λ n. n.cell) l.notes.items ≡ map cell_name (take l.slot-index l.slot-items)) × (map (λ n. n.known) l.notes.items ≡ replicate l.slot-index None)
