use Rattle.std.proofs.Common.{arith, ◌∙◌}
use Rattle.std.proofs.lemmas.List.{length-map}
use Rattle.dh_batch.proofs.Gathering.{more_left, splits_last, splits_next, waits_next}
use Rattle.dh_batch.proofs.queues.gather.Goals as goal

pub take_reply-reply-requires-clause-some : goal.take_reply-reply-requires-clause-some
take_reply-reply-requires-clause-some g c =
    let v = c.loop-queues.invariant in
    more_left c.args.desks c.loop-queues.turn c.loop-queues.replies.items c.args.files.now _ _ v.turn v.waits (omega (arith, c.loop-queues-test.true)) (v.splits c.loop-queues.turn v.turn) (c.requires.counts c.loop-queues.turn v.turn)

pub loop-queues-preserved : goal.loop-queues-preserved
loop-queues-preserved g c =
    let v = c.loop-queues.invariant in
    let t = c.take_reply-reply.ensures.taken in
    record {
      turn = c.next_turn-turn.ensures.within;
      waits = waits_next c.args.desks c.loop-queues.turn c.next_turn-turn.result c.loop-queues.replies.items c.put.new.v.items c.take_reply-reply.result v.turn (c.next_turn-turn.ensures.next.0) (c.next_turn-turn.ensures.next.1) c.put.ensures.items v.waits;
      splits = splits_next c.args.desks c.loop-queues.turn c.loop-queues.replies.items c.put.new.v.items c.take_reply-reply.result _ _ _ t.0 v.turn v.waits c.put.ensures.items t.1 t.2 (let many = length-map c.loop-queues.queues.items (λ q. q.items) in omega (arith, v.turn, v.len, many)) v.splits;
      len = c.take_reply-reply.ensures.len ∙ v.len;
      room = omega (arith, v.room, c.put.ensures.room);
      short = omega (arith, c.put.ensures.len, c.loop-queues-test.true);
    }

pub returns-clause-dealt : goal.returns-clause-dealt
returns-clause-dealt g c =
    let v = c.loop-queues.invariant in
    splits_last c.args.desks c.loop-queues.replies.items c.args.files.now _ _ v.splits c.requires.counts (omega (arith, v.short, c.loop-queues-test.false))
