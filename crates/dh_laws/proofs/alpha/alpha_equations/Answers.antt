use Rattle.dh_syntax.proofs.AlphaEquations.{alpha-Leaf, alpha-Node}
use Rattle.dh_laws.proofs.alpha.alpha_equations.Goals as goal

pub returns-clause-variable : goal.returns-clause-variable
returns-clause-variable c = alpha-Leaf

pub returns-clause-node : goal.returns-clause-node
returns-clause-node c = alpha-Node
