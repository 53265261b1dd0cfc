use Rattle.std.proofs.Common.{◌≡◌, ◌+◌, vec_len}
use Rattle.std.specs.Prelude.{All}
use Rattle.dh_shared.specs.Held.{none_held}
use Rattle.dh_shared.proofs.shared_tables.SharedTable.open.Given as goal

abbrev pub invariant-loop-worker : goal.invariant-loop-worker
invariant-loop-worker g l = (l.rest.parts + l.worker ≡ l.workers) × (l.rest ≡ none_held l.rest.parts) × (vec_len l.seats ≡ l.worker) × All (λ seat. seat.shares ≡ none_held 1) l.seats.items
