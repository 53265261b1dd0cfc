use Rattle.dh_watch_laws.proofs.Editing.{edits_agree_later, agrees_later_then_swept}
use Rattle.dh_watch_laws.proofs.edits.edits_agree_later.Goals as goal

pub returns-clause-edits : goal.returns-clause-edits
returns-clause-edits c = edits_agree_later

pub returns-clause-swept : goal.returns-clause-swept
returns-clause-swept c = agrees_later_then_swept
