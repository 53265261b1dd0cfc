use Rattle.std.proofs.Common.{◌≡◌, take, length}
use Rattle.dh_demand.specs.Digests.{digests_at}
use Rattle.dh_record.specs.Inside.Knowing.{AreKnown}
use Rattle.dh_record.specs.Rows.{rows_of}
use Rattle.dh_record.proofs.keeps.digests.digests_of.Given as goal

abbrev pub invariant-loop-number : goal.invariant-loop-number
invariant-loop-number l = record {
  so_far : l.digests.items ≡ digests_at (rows_of l.keys) (take l.number-index l.numbers);
  known : AreKnown (rows_of l.keys) l.known.items;
  room : length l.known.items ≡ length l.keys;
}
