use Rattle.std.proofs.Common.{◌≡◌, take}
use Rattle.dh_watch_disk.specs.Showing.{are_open}
use Rattle.dh_watch_disk.proofs.told.are_open.Given as goal

abbrev pub invariant-loop-one : goal.invariant-loop-one
invariant-loop-one l = l.open ≡ are_open (take l.one-index l.told)
