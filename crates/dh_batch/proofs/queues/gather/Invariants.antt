use Rattle.std.proofs.Common.{◌≡◌, ◌≤◌, ◌<◌, ◌-◌, length, map, vec_len}
use Rattle.std.specs.Prelude.{vec_capacity}
use Rattle.dh_batch.proofs.Gathering.{Splits, Waits}
use Rattle.dh_batch.proofs.queues.gather.Given as goal

abbrev pub invariant-loop-queues : goal.invariant-loop-queues
invariant-loop-queues g l = record {
  turn : l.turn < l.desks;
  waits : Waits l.desks l.turn l.replies.items;
  splits : Splits l.desks l.replies.items (map (λ q. q.items) l.queues.items) (map (λ q. q.items) l.fn.queues.items);
  len : vec_len l.queues ≡ l.desks;
  room : length l.files ≤ vec_capacity l.replies;
  short : vec_len l.replies ≤ length l.files;
}

abbrev pub decreases-loop-queues : goal.decreases-loop-queues
decreases-loop-queues g l = length l.files - vec_len l.replies
