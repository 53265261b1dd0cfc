use Rattle.dh_watch_disk.proofs.Rounds.{halted_again, halted_first, none_passed, one_passed, shown_again, shown_all, shown_first}
use Rattle.dh_watch_disk.proofs.following.follow.Goals as goal

pub returns-in-Err-clause-halts : goal.returns-in-Err-clause-halts
returns-in-Err-clause-halts g c = halted_first _ _ _ _ c.in-Err.halt c.in-Err.ensures.halts

pub loop-look-init : goal.loop-look-init
loop-look-init g c = record { shown = shown_first _ _ _ _ _ c.in-Ok.ensures.asks; passed = none_passed _; agrees = c.ask_all.ensures.agrees }

pub returns-then-not-pause-clause-shows : goal.returns-then-not-pause-clause-shows
returns-then-not-pause-clause-shows g c =
    shown_all _ _ _ _ _ _ _ _ c.loop-look.invariant.shown c.loop-look.invariant.passed _ _ _ c.if-not-pause.true c.pause.ensures.last c.pause.ensures.over

pub returns-in-Err-look_and_ask-clause-halts : goal.returns-in-Err-look_and_ask-clause-halts
returns-in-Err-look_and_ask-clause-halts g c = halted_again _ _ _ _ _ _ _ _ _ _ _ _ c.loop-look.invariant.shown c.in-Err-look_and_ask.halt c.in-Err-look_and_ask.ensures.halts

pub loop-look-preserved : goal.loop-look-preserved
loop-look-preserved g c = record {
  shown = shown_again _ _ _ _ _ _ _ _ _ _ _ _ c.loop-look.invariant.shown _ c.in-Ok-look_and_ask.ensures.looks;
  passed = one_passed _ _ _ _ c.loop-look.invariant.passed _ c.if-not-pause.false c.pause.ensures.next;
  agrees = c.look_and_ask.ensures.agrees;
}
