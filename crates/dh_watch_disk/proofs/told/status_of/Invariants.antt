use Rattle.std.proofs.Common.{◌≡◌, take}
use Rattle.dh_watch_disk.specs.Showing.{status_of}
use Rattle.dh_watch_disk.proofs.told.status_of.Given as goal

abbrev pub invariant-loop-one : goal.invariant-loop-one
invariant-loop-one l = l.status ≡ status_of (take l.one-index l.told)
