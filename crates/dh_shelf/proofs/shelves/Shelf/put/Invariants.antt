use Rattle.std.proofs.Common.{◌≡◌}
use Rattle.dh_shelf.proofs.Finding.{Went}
use Rattle.dh_shelf.proofs.shelves.Shelf.put.Given as goal

abbrev pub invariant-loop-i : goal.invariant-loop-i
invariant-loop-i g l = Went l.self l.pass.cells l.fn.pass.seen l.pass.seen l.digest l.i × (l.entry ≡ l.fn.entry)
