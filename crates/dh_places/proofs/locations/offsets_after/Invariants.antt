use Rattle.std.proofs.Common.{◌≡◌, take}
use Rattle.dh_syntax.specs.Text.Offsets.{offsets_after}
use Rattle.dh_places.proofs.locations.offsets_after.Given as goal

abbrev pub invariant-loop-number : goal.invariant-loop-number
invariant-loop-number l = l.offsets.items ≡ offsets_after l.fn.tokens (take l.number-index l.number-items)
