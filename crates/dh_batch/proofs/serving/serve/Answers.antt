use Rattle.std.proofs.Common.{arith, ap, refl, sym, ◌∙◌, ◌+◌, ◌-◌, length, length-drop}
use Rattle.std.proofs.lemmas.Bool.{false≢true}
use Rattle.dh_batch.proofs.Dealt.{last_turn, one_turn}
use Rattle.dh_batch.proofs.serving.serve.Goals as goal

pub loop-at-preserved : goal.loop-at-preserved
loop-at-preserved g c = record {
  turn = one_turn (g.S.Session.replies c.args.session.now) c.args.desks c.args.i c.loop-at.at (c.args.desks - 1) c.args.files.now c.loop-at.left.now c.after-left.result.now c.args.stand.now.desk c.loop-at.stand.desk c.reply-reply.new.desk
      c.loop-at.stand.replies.items c.put.new.v.items c.index-left-at.result c.reply-reply.result c.loop-at.invariant.turn c.loop-at-test.true c.index-left-at.is c.after-left.ensures refl c.reply-reply.ensures c.put.ensures.items;
  room = let fewer = ap length c.after-left.ensures ∙ length-drop (c.loop-at.at + 1) c.loop-at.left.now in omega (arith, fewer, c.put.ensures.len, c.put.ensures.room, c.loop-at.invariant.room, c.loop-at-test.true);
  served = c.loop-at.invariant.served;
}

pub returns : goal.returns
returns g c = record {
  all = λ e. last_turn (g.S.Session.replies c.args.session.now) c.args.desks c.args.i c.loop-at.at c.args.files.now c.loop-at.left.now c.args.stand.now.desk c.loop-at.stand.desk c.loop-at.stand.replies.items c.loop-at.invariant.turn (omega (arith, c.loop-at-test.false));
  none = λ e. absurd (false≢true (sym e ∙ c.loop-at.invariant.served));
}
