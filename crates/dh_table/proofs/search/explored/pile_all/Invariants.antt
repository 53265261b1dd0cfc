use Rattle.std.specs.Prelude.{◌≡◌, ◌≤◌, ◌-◌, ℕ, length}
use Rattle.dh_table.specs.Inside.Piling.{number_at}
use Rattle.dh_table.proofs.search.explored.pile_all.Given as goal

abbrev pub invariant-loop-piles : goal.invariant-loop-piles
invariant-loop-piles l = record {
  more : length l.fn.piles ≤ length l.piles;
  same : (n : ℕ) → number_at l.piles n ≡ number_at l.fn.piles n;
}

abbrev pub decreases-loop-piles : goal.decreases-loop-piles
decreases-loop-piles l = l.len - length l.piles
