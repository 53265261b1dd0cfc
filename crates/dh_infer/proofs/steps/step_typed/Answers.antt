use Rattle.dh_infer.proofs.Remembering.{keeps_ok}
use Rattle.dh_infer.proofs.steps.step_typed.Goals as goal

pub returns-in-Function-clause-known : goal.returns-in-Function-clause-known
returns-in-Function-clause-known c = keeps_ok _ _ _ _ _ c.args.known.now c.function.result c.function.ensures.ok c.requires.known

pub returns-in-ForallRange-clause-known : goal.returns-in-ForallRange-clause-known
returns-in-ForallRange-clause-known c = keeps_ok _ _ _ _ _ c.args.known.now c.forall_range.result c.forall_range.ensures.ok c.requires.known

pub returns-in-LetAnnotation-clause-known : goal.returns-in-LetAnnotation-clause-known
returns-in-LetAnnotation-clause-known c = keeps_ok _ _ _ _ _ c.args.known.now c.let_annotation.result c.let_annotation.ensures.ok c.requires.known

pub returns-in-LetValue-clause-known : goal.returns-in-LetValue-clause-known
returns-in-LetValue-clause-known c = keeps_ok _ _ _ _ _ c.args.known.now c.let_value.result c.let_value.ensures.ok c.requires.known

pub returns-in-CompletedType-clause-known : goal.returns-in-CompletedType-clause-known
returns-in-CompletedType-clause-known c = keeps_ok _ _ _ _ _ c.args.known.now c.completed_type_typed.result c.completed_type_typed.ensures.ok c.requires.known

pub returns-in-CompletedRecord-clause-known : goal.returns-in-CompletedRecord-clause-known
returns-in-CompletedRecord-clause-known c = keeps_ok _ _ _ _ _ c.args.known.now c.completed_record_typed.result c.completed_record_typed.ensures.ok c.requires.known

pub returns-in-LetBody-clause-known : goal.returns-in-LetBody-clause-known
returns-in-LetBody-clause-known c = λ g m. c.requires.known g (c.let_body.ensures.models g m)

pub returns-in-Used-clause-known : goal.returns-in-Used-clause-known
returns-in-Used-clause-known c = λ g m. c.requires.known g (c.used.ensures.models g m)
