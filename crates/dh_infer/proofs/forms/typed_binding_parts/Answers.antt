use Rattle.dh_infer.proofs.Shapes.{twice-parts}
use Rattle.dh_infer.proofs.forms.typed_binding_parts.Goals as goal

pub returns-clause-parts : goal.returns-clause-parts
returns-clause-parts c = λ g. twice-parts c.args.kids.now c.requires.three g (c.requires.binding g) _ _ _
