use Rattle.dh_laws.proofs.Names.Cores.{core-subst}
use Rattle.dh_laws.proofs.Names.FreeShifts.{at_place-substitutes}
use Rattle.dh_syntax.specs.Names.Nameless.{at_place, core_below}
use Rattle.dh_laws.proofs.nameless.core_of_subst.Goals as goal

pub returns : goal.returns
returns c = λ ys x n k a e h. core-subst ys x n a (at_place k (core_below ys a)) (at_place-substitutes ys x n k (core_below ys a) h) e
