use Rattle.dh_watch_disk.proofs.Rounds.{lacked, look_halted}
use Rattle.dh_watch_disk.proofs.looking.look.Goals as goal

pub returns-in_err-seen-clause-edits : goal.returns-in_err-seen-clause-edits
returns-in_err-seen-clause-edits g c = look_halted _ _ _ (lacked _) c.from_residual.result c.from_residual.ensures.1

pub returns-in_err-edited-clause-edits : goal.returns-in_err-edited-clause-edits
returns-in_err-edited-clause-edits g c = look_halted _ _ _ (lacked _) c.from_residual-in_err-edited.result c.from_residual-in_err-edited.ensures.1

pub returns-in_err-put_back-clause-edits : goal.returns-in_err-put_back-clause-edits
returns-in_err-put_back-clause-edits g c = look_halted _ _ _ (lacked _) c.from_residual-in_err-put_back.result c.from_residual-in_err-put_back.ensures.1

pub returns-in_err-tell_edits-clause-edits : goal.returns-in_err-tell_edits-clause-edits
returns-in_err-tell_edits-clause-edits g c = look_halted _ _ _ c.in_err-tell_edits.ensures.edits c.from_residual-in_err-tell_edits.result c.from_residual-in_err-tell_edits.ensures.1
