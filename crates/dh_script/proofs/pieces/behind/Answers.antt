use Rattle.dh_script.proofs.Splitting.{behind_of}
use Rattle.dh_script.proofs.pieces.behind.Goals as goal

pub returns : goal.returns
returns c = behind_of c.args.text.now c.args.first.now c.strip_prefix.result c.strip_prefix.ensures.cases
