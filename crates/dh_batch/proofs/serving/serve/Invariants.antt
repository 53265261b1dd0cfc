use Rattle.std.proofs.Common.{◌≡◌, ◌≤◌, ◌+◌, length, true, vec_len}
use Rattle.std.specs.Prelude.{vec_capacity}
use Rattle.dh_batch.proofs.Dealt.{Turn}
use Rattle.dh_batch.proofs.serving.serve.Given as goal

abbrev pub invariant-loop-at : goal.invariant-loop-at
invariant-loop-at g l = record {
  turn : Turn (g.S.Session.replies l.session) l.desks l.i l.at l.files l.left l.fn.stand.desk l.stand.desk l.stand.replies.items;
  room : vec_len l.stand.replies + length l.left ≤ vec_capacity l.stand.replies;
  served : l.stand.served ≡ true;
}

abbrev pub decreases-loop-at : goal.decreases-loop-at
decreases-loop-at g l = length l.left
