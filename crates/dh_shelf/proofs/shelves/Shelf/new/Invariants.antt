use Rattle.std.proofs.Common.{◌≡◌, length}
use Rattle.dh_shelf.proofs.shelves.Shelf.new.Given as goal

abbrev pub invariant-loop : goal.invariant-loop
invariant-loop g l = length l.slots.items ≡ l.counter
