use Rattle.dh_infer.proofs.Shapes.{pair-parts}
use Rattle.dh_infer.proofs.forms.pair_parts.Goals as goal

pub returns-clause-parts : goal.returns-clause-parts
returns-clause-parts c = λ g. pair-parts c.args.kids.now c.requires.two g (c.requires.plain g) _ _
