use Rattle.std.proofs.Common.{map, take}
use Rattle.std.specs.Prelude.{All}
use Rattle.std.specs.String.{string_bytes}
use Rattle.dh_script.specs.Locations.{IsPlace}
use Rattle.dh_watch_disk.specs.Words.{AreLocated}
use Rattle.dh_watch_disk.proofs.words.spelled.Given as goal

abbrev pub invariant-loop-i : goal.invariant-loop-i
invariant-loop-i l = record {
  located : AreLocated (map string_bytes (take l.i l.words)) l.locs.items;
  places : All IsPlace l.locs.items;
}
