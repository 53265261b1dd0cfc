use Rattle.std.proofs.Common.{◌∙◌}
use Rattle.dh_infer.specs.declared.frames.Frame.TheVariants as frames
use Rattle.dh_infer.specs.declared.frames.State.TheVariants as states
use Rattle.dh_infer.proofs.Readiness.{advances-pushed}
use Rattle.dh_infer.proofs.Starting.{begins-let_typed, begins-let_sort}
use Rattle.dh_infer.proofs.beginnings.annotated_let.Goals as goal

pub returns-in_ok-push-clause-ok : goal.returns-in_ok-push-clause-ok
returns-in_ok-push-clause-ok c =
    let (t, a, b) = c.requires.there in
    advances-pushed c.args.typer.now c.push.new.self (frames.LetValue c.args.annotation c.args.value c.args.body) (states.Type c.args.code) (states.Type c.args.value) c.args.purse.now.left c.args.purse.now.left
    c.in_ok-push.ensures.ok
    (begins-let_sort c.args.typer.now c.args.code c.args.purse.now.left c.requires.ready c.args.annotation c.args.value c.args.body t a b c.requires.form (λ g h. c.is_sort.ensures g h ∙ c.if-is_sort.true))

pub returns-in_ok-push-2-clause-ok : goal.returns-in_ok-push-2-clause-ok
returns-in_ok-push-2-clause-ok c =
    let (t, a, b) = c.requires.there in
    advances-pushed c.args.typer.now c.push-else-is_sort.new.self (frames.LetAnnotation c.args.annotation c.args.value c.args.body) (states.Type c.args.code) (states.Type c.args.annotation) c.args.purse.now.left c.args.purse.now.left
    c.in_ok-push-2.ensures.ok
    (begins-let_typed c.args.typer.now c.args.code c.args.purse.now.left c.requires.ready c.args.annotation c.args.value c.args.body t a b c.requires.form (λ g h. c.is_sort.ensures g h ∙ c.if-is_sort.false))
