use Rattle.dh_watching.specs.Steps as steps
use Rattle.dh_watch_disk.specs.Showing.{edited, unedited}
use Rattle.dh_watch_disk.proofs.Rounds.{edit_halted, lacked, refused_now}
use Rattle.dh_watch_disk.proofs.looking.tell_edit.Goals as goal

pub returns-in_err-text-clause-edits : goal.returns-in_err-text-clause-edits
returns-in_err-text-clause-edits g c = edit_halted _ _ _ (lacked _) c.from_residual.result c.from_residual.ensures.1

pub returns-in_err-place-clause-edits : goal.returns-in_err-place-clause-edits
returns-in_err-place-clause-edits g c = edit_halted _ _ _ (lacked _) c.from_residual-in_err-place.result c.from_residual-in_err-place.ensures.1

pub returns-in_default-clause-edits : goal.returns-in_default-clause-edits
returns-in_default-clause-edits g c = unedited

pub returns-in_err-change-clause-edits : goal.returns-in_err-change-clause-edits
returns-in_err-change-clause-edits g c =
    edit_halted _ _ _ (refused_now _ _ c.change.ensures.counted _ c.in_err-change.ensures.failed) c.from_residual-in_err-change.result c.from_residual-in_err-change.ensures.1

pub returns-clause-edits : goal.returns-clause-edits
returns-clause-edits g c = edited _ unedited (steps.drops _ c.in_ok-change.ensures.changed c.change.ensures.asked c.change.ensures.counted)
