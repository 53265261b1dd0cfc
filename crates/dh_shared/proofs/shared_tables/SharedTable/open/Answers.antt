use Rattle.std.proofs.Common.{◌≡◌, arith}
use Rattle.std.proofs.lemmas.Grind.{common_steps}
use Rattle.dh_shared.specs.Held.{none_held}
use Rattle.dh_shared.proofs.Sums.{all_push}
use Rattle.dh_shared.proofs.shared_tables.SharedTable.open.Goals as goal

pub loop-worker-preserved : goal.loop-worker-preserved
loop-worker-preserved g c = (omega arith, c.split_one-shares.ensures.rest.1, grind (arith, common_steps), all_push (λ seat. seat.shares ≡ none_held 1) c.loop-worker.seats.items _ _ c.in_ok-push.ensures.items c.loop-worker.invariant.3 c.split_one-shares.ensures.one)
