use Rattle.dh_store.specs.Cells.{nothing}
use Rattle.dh_infer.proofs.Shapes.{binding-parts, binding-there}
use Rattle.dh_infer.proofs.forms.binding_parts.Goals as goal

pub returns-clause-parts : goal.returns-clause-parts
returns-clause-parts c = λ g. binding-parts c.args.kids.now c.requires.two g (c.requires.binding g) _ _ c.index-kids-1.result c.in-Some.name c.in-Some.is

pub unreachable-requires : goal.unreachable-requires
unreachable-requires c = binding-there c.args.kids.now c.requires.two (λ k. nothing) (c.requires.binding (λ k. nothing)) c.index-kids-1.result c.in-None.is
