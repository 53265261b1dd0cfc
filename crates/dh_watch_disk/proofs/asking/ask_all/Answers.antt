use Rattle.std.proofs.Common.{refl}
use Rattle.std.proofs.lemmas.Option.{slice_get_read}
use Rattle.dh_watch_disk.proofs.Asked.{ask_halted, halted_after, nothing_asked, one_asked}
use Rattle.dh_watch_disk.proofs.asking.ask_all.Goals as goal

pub loop-i-init : goal.loop-i-init
loop-i-init g c = record { asked = rw c.new-told.ensures.items (nothing_asked _ _ _ _ _); agrees = c.requires.agrees }

pub returns-in-Err-push-clause-halts : goal.returns-in-Err-push-clause-halts
returns-in-Err-push-clause-halts g c = halted_after _ _ _ _ _ _ _ (one_asked _ _ _ _ _ _ _ _ _ _ _ _ _ c.loop-i.invariant.asked c.index-locs-i.result (slice_get_read c.args.locs.now _ c.loop-i.i c.index-locs-i.result refl c.loop-i-test.true c.index-locs-i.is) _ c.told_at.ensures c.in-Ok.now c.in-Ok.ensures.asks)

pub returns-in-Err-clause-halts : goal.returns-in-Err-clause-halts
returns-in-Err-clause-halts g c = ask_halted _ _ _ _ _ _ _ _ _ _ _ _ _ c.loop-i.invariant.asked c.index-locs-i.result (slice_get_read c.args.locs.now _ c.loop-i.i c.index-locs-i.result refl c.loop-i-test.true c.index-locs-i.is) _ c.told_at.ensures c.in-Err.halt c.in-Err.ensures.asks

pub loop-i-preserved : goal.loop-i-preserved
loop-i-preserved g c = record {
  asked = rw c.in-Ok-push.ensures.items (one_asked _ _ _ _ _ _ _ _ _ _ _ _ _ c.loop-i.invariant.asked c.index-locs-i.result (slice_get_read c.args.locs.now _ c.loop-i.i c.index-locs-i.result refl c.loop-i-test.true c.index-locs-i.is) _ c.told_at.ensures c.in-Ok.now c.in-Ok.ensures.asks);
  agrees = c.ask_one.ensures.agrees;
}
