use Rattle.std.specs.Prelude.{length}
use Rattle.dh_record.proofs.rows.key_order.+are_before.Given as goal

abbrev pub decreases-are_before : goal.decreases-are_before
decreases-are_before l = length l.x.now
