use Rattle.dh_watch_disk.specs.Showing.{unedited}
use Rattle.dh_watch_disk.proofs.Rounds.{both_edited, edit_halted, refused_later}
use Rattle.dh_watch_disk.proofs.looking.tell_edits.Goals as goal

pub loop-place-init : goal.loop-place-init
loop-place-init g c = record { edits = unedited; agrees = c.requires.agrees }

pub returns-in_err-tell_edit-clause-edits : goal.returns-in_err-tell_edit-clause-edits
returns-in_err-tell_edit-clause-edits g c =
    edit_halted _ _ _ (refused_later _ _ _ _ c.loop-place.invariant.edits c.in_err-tell_edit.ensures.edits) c.from_residual.result c.from_residual.ensures.1

pub loop-place-preserved : goal.loop-place-preserved
loop-place-preserved g c = record { edits = both_edited c.loop-place.invariant.edits c.in_ok-tell_edit.ensures.edits; agrees = c.tell_edit.ensures.agrees }
