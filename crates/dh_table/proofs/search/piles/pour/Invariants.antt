use Rattle.std.specs.Prelude.{◌≡◌, ◌⊎◌, ℕ, sum_by, length}
use Rattle.dh_table.specs.Inside.Piling.{number_at}
use Rattle.dh_table.proofs.Piled.{one_if}
use Rattle.dh_table.proofs.search.piles.pour.Given as goal

abbrev pub invariant-keys : goal.invariant-keys
invariant-keys l = record {
  len : length l.piles ≡ length l.fn.piles;
  apart : (n : ℕ) → ¬ (number_at l.fn.piles n ≡ l.from) → number_at l.piles n ≡ number_at l.fn.piles n;
  poured : (n : ℕ) → number_at l.fn.piles n ≡ l.from → (number_at l.piles n ≡ l.from) ⊎ (number_at l.piles n ≡ l.to);
}

abbrev pub decreases-keys : goal.decreases-keys
decreases-keys l = sum_by (one_if l.from) l.piles
