use Rattle.std.proofs.Common.{◌≡◌, ◌≤◌, drop, length, map}
use Rattle.dh_store.specs.Cells.{code_core}
use Rattle.dh_typerows.specs.Greatest.{greatest_type}
use Rattle.dh_typerows.proofs.universes.greatest_type.Given as goal

abbrev pub decreases-loop-i : goal.decreases-loop-i
decreases-loop-i l = l.i

abbrev pub invariant-loop-i : goal.invariant-loop-i
invariant-loop-i l = record { within : l.i ≤ length l.types; so_far : l.greatest ≡ greatest_type (map (code_core l.codes) (drop l.i l.types)) }
