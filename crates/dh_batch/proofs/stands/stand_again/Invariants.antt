use Rattle.std.proofs.Common.{◌≡◌, ◌≤◌, ◌+◌, ◌++◌, map, vec_len}
use Rattle.std.specs.Prelude.{vec_capacity}
use Rattle.dh_batch.proofs.stands.stand_again.Given as goal

abbrev pub invariant-loop-stand : goal.invariant-loop-stand
invariant-loop-stand g l = record {
  desks : map (λ s. s.desk) l.stands.items ++ l.desks.items ≡ map (λ s. s.desk) l.fn.stands.items ++ l.initial.desks.items;
  queues : map (λ s. s.replies) l.stands.items ++ l.queues.items ≡ map (λ s. s.replies) l.fn.stands.items ++ l.initial.queues.items;
  desks_len : vec_len l.desks + vec_len l.stands ≡ vec_len l.initial.desks + vec_len l.fn.stands;
  queues_len : vec_len l.queues + vec_len l.stands ≡ vec_len l.initial.queues + vec_len l.fn.stands;
  room : vec_len l.desks + vec_len l.stands ≤ vec_capacity l.desks;
  room_queues : vec_len l.queues + vec_len l.stands ≤ vec_capacity l.queues;
}

abbrev pub decreases-loop-stand : goal.decreases-loop-stand
decreases-loop-stand g l = vec_len l.stands
