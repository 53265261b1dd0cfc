use Rattle.dh_watch_laws.proofs.Editing.{refused_agree}
use Rattle.dh_watch_laws.proofs.edits.refused_agree.Goals as goal

pub returns : goal.returns
returns c = refused_agree
