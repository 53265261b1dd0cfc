use Rattle.std.proofs.Common.{◌<◌, ◌+◌, ◌-◌, ◌/◌, length, sym, ◌∙◌, arith}
use Rattle.dh_record.proofs.SortedNumbers.{further, nearer}
use Rattle.dh_record.proofs.rows.index.place_in.Goals as goal

pub loop-low-preserved-then-is_behind : goal.loop-low-preserved-then-is_behind
loop-low-preserved-then-is_behind g c =
    let inside : c.loop-low.low + (c.loop-low.high - c.loop-low.low) / 2 < length c.args.numbers.now = omega arith in
    record {
      ordered = omega arith;
      within = omega arith;
      below = further _ _ _ c.requires.ascends _ inside (sym c.is_behind.ensures ∙ c.if-is_behind.true);
      above = c.loop-low.invariant.above;
    }

pub loop-low-preserved : goal.loop-low-preserved
loop-low-preserved g c = record {
  ordered = omega arith;
  within = omega arith;
  below = c.loop-low.invariant.below;
  above = nearer _ _ _ c.requires.ascends _ (sym c.is_behind.ensures ∙ c.if-is_behind.false);
}
