use Rattle.std.proofs.Common.{◌∙◌, ap}
use Rattle.dh_syntax.proofs.Bridge.{term-Node}
use Rattle.dh_grammar.specs.Stubs.{kept}
use Rattle.dh_operands.proofs.gathering.Gathering.finish.Goals as goal

pub returns : goal.returns
returns c = c.kept.ensures ∙ ap (λ t. kept t c.args.self.nests) (term-Node _ _)
