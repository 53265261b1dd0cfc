use Rattle.dh_laws.proofs.Normalising.KeptContract.{keeping_answers}
use Rattle.dh_laws.proofs.kept_heads.keeping_answers.Goals as goal

pub returns : goal.returns
returns g c = keeping_answers _
