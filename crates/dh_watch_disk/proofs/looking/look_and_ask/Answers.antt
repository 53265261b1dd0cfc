use Rattle.dh_watch_disk.proofs.Rounds.{asked_looked, edit_stopped, halted_looked}
use Rattle.dh_watch_disk.proofs.looking.look_and_ask.Goals as goal

pub returns-in_err-edited-clause-halts : goal.returns-in_err-edited-clause-halts
returns-in_err-edited-clause-halts g c = edit_stopped _ _ _ _ _ _ _ c.in_err-edited.ensures.edits c.from_residual.result c.from_residual.ensures.1

pub returns-clause-looks : goal.returns-clause-looks
returns-clause-looks g c = asked_looked (λ t. t.items) _ _ _ _ _ _ _ c.as_slice-2.ensures.value c.in_ok-edited.edited c.in_ok-edited.ensures.edits _ c.ask_all.ensures.asks

pub returns-clause-halts : goal.returns-clause-halts
returns-clause-halts g c = halted_looked _ _ _ _ _ _ _ c.as_slice-2.ensures.value c.in_ok-edited.edited c.in_ok-edited.ensures.edits _ c.ask_all.ensures.halts
