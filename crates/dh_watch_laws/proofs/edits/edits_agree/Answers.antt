use Rattle.dh_watch_laws.proofs.Editing.{edits_agree}
use Rattle.dh_watch_laws.proofs.edits.edits_agree.Goals as goal

pub returns : goal.returns
returns c = edits_agree
