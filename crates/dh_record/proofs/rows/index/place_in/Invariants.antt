use Rattle.std.specs.Prelude.{◌≤◌, ◌-◌, length}
use Rattle.dh_record.proofs.SortedNumbers.{Below, Above}
use Rattle.dh_record.proofs.rows.index.place_in.Given as goal

abbrev pub invariant-loop-low : goal.invariant-loop-low
invariant-loop-low g l = record {
  ordered : l.low ≤ l.high;
  within : l.high ≤ length l.numbers;
  below : Below (g.P.Probe.ranks l.probe) (g.P.Probe.sought l.probe) l.numbers l.low;
  above : Above (g.P.Probe.ranks l.probe) (g.P.Probe.sought l.probe) l.numbers l.high;
}

abbrev pub decreases-loop-low : goal.decreases-loop-low
decreases-loop-low g l = l.high - l.low
