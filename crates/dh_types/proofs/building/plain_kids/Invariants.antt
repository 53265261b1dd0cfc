use Rattle.std.proofs.Common.{◌≡◌, map, take}
use Rattle.dh_types.specs.Growing.{plain_kid}
use Rattle.dh_types.proofs.building.plain_kids.Given as goal

abbrev pub invariant-loop-id : goal.invariant-loop-id
invariant-loop-id l = l.kids ≡ map plain_kid (take l.id-index l.ids)
