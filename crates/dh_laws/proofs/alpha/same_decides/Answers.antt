use Rattle.dh_syntax.proofs.SameTree.{term_eq-Decides}
use Rattle.dh_laws.proofs.alpha.same_decides.Goals as goal

pub returns : goal.returns
returns c = λ e f. term_eq-Decides _ _
