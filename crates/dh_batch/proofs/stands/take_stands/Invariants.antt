use Rattle.std.proofs.Common.{◌≡◌, ◌≤◌, ◌+◌, ◌++◌, map, vec_len}
use Rattle.std.specs.Prelude.{vec_capacity}
use Rattle.dh_batch.proofs.stands.take_stands.Given as goal

abbrev pub invariant-loop-worker : goal.invariant-loop-worker
invariant-loop-worker g l = record {
  desks : map (λ s. s.desk) l.stands.items ++ l.desks.items ≡ l.initial.desks.items;
  count : vec_len l.stands ≡ l._worker;
  left : vec_len l.desks + l._worker ≡ vec_len l.initial.desks;
  room : l.workers ≤ vec_capacity l.stands;
  room_desks : vec_capacity l.desks ≡ vec_capacity l.initial.desks;
}
