use Rattle.std.specs.Prelude.{◌&&◌}
use Rattle.std.proofs.Common.{ap, ◌∙◌}
use Rattle.dh_syntax.specs.declared.operators.Builtin.TheVariants.{Sort}
use Rattle.dh_syntax.specs.Typing.TypeViews.{is_constant}
use Rattle.dh_infer.specs.Inside.Scopes.{in_scope}
use Rattle.dh_infer.proofs.parts.is_untyped.Goals as goal

pub returns-then-is_annotation : goal.returns-then-is_annotation
returns-then-is_annotation c = λ g m below.
    ap (λ z. z && is_constant Sort (in_scope g c.args.scope.now c.args.code)) (c.is_annotation.ensures below ∙ c.if-is_annotation.true) ∙ c.is_sort.ensures g m

pub returns-else-is_annotation : goal.returns-else-is_annotation
returns-else-is_annotation c = λ g m below.
    ap (λ z. z && is_constant Sort (in_scope g c.args.scope.now c.args.code)) (c.is_annotation.ensures below ∙ c.if-is_annotation.false)
