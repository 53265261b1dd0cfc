use Rattle.std.specs.Prelude.{map, take}
use Rattle.dh_record.specs.Keeping.{AreEntries}
use Rattle.dh_record.specs.Kept.{pair_of}
use Rattle.dh_record.proofs.keeps.kept.entries_of.Given as goal

abbrev pub invariant-loop-n : goal.invariant-loop-n
invariant-loop-n l = AreEntries l.keys (take l.n-index l.numbers) (map pair_of l.kept)
