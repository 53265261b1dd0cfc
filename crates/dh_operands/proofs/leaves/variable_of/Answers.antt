use Rattle.std.proofs.Common.{◌∙◌, ap}
use Rattle.dh_syntax.proofs.Bridge.{term-Var}
use Rattle.dh_grammar.specs.Stubs.{at, kept}
use Rattle.dh_operands.proofs.leaves.variable_of.Goals as goal

pub returns : goal.returns
returns c = ap (at 17) (c.kept.ensures ∙ ap (λ t. kept t 0) (term-Var _ _))
