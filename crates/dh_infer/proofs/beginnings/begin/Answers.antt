use Rattle.std.proofs.Common.{sym, subst as along}
use Rattle.std.proofs.lemmas.Result.{IfOk-weaker}
use Rattle.dh_infer.specs.declared.frames.Frame.TheVariants as frames
use Rattle.dh_infer.specs.declared.frames.State.TheVariants as states
use Rattle.dh_infer.specs.Inside.Machine.{Advances, with_frame}
use Rattle.dh_infer.proofs.Completing.{begins-completion}
use Rattle.dh_infer.proofs.Parting.{begins-plain}
use Rattle.dh_infer.proofs.Readiness.{advances-as}
use Rattle.dh_infer.proofs.Starting.{begins-lambda, begins-forall, begins-let, begins-application}
use Rattle.dh_infer.proofs.beginnings.begin.Goals as goal

pub returns-in_ok-name-in-Lambda-clause-ok : goal.returns-in_ok-name-in-Lambda-clause-ok
returns-in_ok-name-in-Lambda-clause-ok c =
    let m = c.args.typer.now in
    let (a, b) = c.in-Lambda.ensures.there in
    IfOk-weaker c.first_part.result _ _
    (λ s p. advances-as m c.first_part.new.typer (with_frame (frames.LambdaDomain c.in_ok-name-in-Lambda.name c.in-Lambda.domain c.in-Lambda.body) m) (states.Type c.args.code) s (states.Type c.in-Lambda.domain)
    c.args.purse.now.left c.args.purse.now.left p.1 p.0
    (along (λ x. Advances m (with_frame (frames.LambdaDomain x c.in-Lambda.domain c.in-Lambda.body) m) (states.Type c.args.code) (states.Type c.in-Lambda.domain) c.args.purse.now.left c.args.purse.now.left)
    (sym c.in_ok-name-in-Lambda.ensures)
    (begins-lambda m c.args.code c.args.purse.now.left c.requires.ready c.in-Lambda.name.now c.in-Lambda.domain c.in-Lambda.body a b c.in-Lambda.ensures.form)))
    c.first_part.ensures.ok

pub returns-in_ok-name-in-Forall-clause-ok : goal.returns-in_ok-name-in-Forall-clause-ok
returns-in_ok-name-in-Forall-clause-ok c =
    let m = c.args.typer.now in
    let (a, b) = c.in-Forall.ensures.there in
    IfOk-weaker c.first_part-in-Forall.result _ _
    (λ s p. advances-as m c.first_part-in-Forall.new.typer (with_frame (frames.ForallDomain c.in_ok-name-in-Forall.name c.in-Forall.domain c.in-Forall.range) m) (states.Type c.args.code) s (states.Type c.in-Forall.domain)
    c.args.purse.now.left c.args.purse.now.left p.1 p.0
    (along (λ x. Advances m (with_frame (frames.ForallDomain x c.in-Forall.domain c.in-Forall.range) m) (states.Type c.args.code) (states.Type c.in-Forall.domain) c.args.purse.now.left c.args.purse.now.left)
    (sym c.in_ok-name-in-Forall.ensures)
    (begins-forall m c.args.code c.args.purse.now.left c.requires.ready c.in-Forall.name.now c.in-Forall.domain c.in-Forall.range a b c.in-Forall.ensures.form)))
    c.first_part-in-Forall.ensures.ok

pub returns-in-Let-clause-ok : goal.returns-in-Let-clause-ok
returns-in-Let-clause-ok c =
    let m = c.args.typer.now in
    let (a, b) = c.in-Let.ensures.there in
    IfOk-weaker c.first_part-in-Let.result _ _
    (λ s p. advances-as m c.first_part-in-Let.new.typer (with_frame (frames.Value c.in-Let.value c.in-Let.body) m) (states.Type c.args.code) s (states.Type c.in-Let.value)
    c.args.purse.now.left c.args.purse.now.left p.1 p.0
    (begins-let m c.args.code c.args.purse.now.left c.requires.ready c.in-Let.value c.in-Let.body a b c.in-Let.ensures.form))
    c.first_part-in-Let.ensures.ok

pub returns-in-Application-clause-ok : goal.returns-in-Application-clause-ok
returns-in-Application-clause-ok c =
    let m = c.args.typer.now in
    let (a, b) = c.in-Application.ensures.there in
    IfOk-weaker c.first_part-in-Application.result _ _
    (λ s p. advances-as m c.first_part-in-Application.new.typer (with_frame (frames.Function c.in-Application.argument) m) (states.Type c.args.code) s (states.Type c.in-Application.function)
    c.args.purse.now.left c.args.purse.now.left p.1 p.0
    (begins-application m c.args.code c.args.purse.now.left c.requires.ready c.in-Application.function c.in-Application.argument a b c.in-Application.ensures.form))
    c.first_part-in-Application.ensures.ok

pub returns-in-Plain-clause-ok : goal.returns-in-Plain-clause-ok
returns-in-Plain-clause-ok c =
    begins-plain c.args.typer.now c.args.code c.args.purse.now.left c.requires.ready c.in-Plain.ensures.form c.new.result c.new.ensures.items

pub returns-in-Completion-clause-ok : goal.returns-in-Completion-clause-ok
returns-in-Completion-clause-ok c =
    let m = c.args.typer.now in
    let (a, b) = c.in-Completion.ensures.there in
    IfOk-weaker c.first_part-in-Completion.result _ _
    (λ s p. advances-as m c.first_part-in-Completion.new.typer (with_frame (frames.CompletedType c.in-Completion.typed c.in-Completion.value) m) (states.Type c.args.code) s (states.Type c.in-Completion.typed)
    c.args.purse.now.left c.args.purse.now.left p.1 p.0
    (begins-completion m c.args.code c.args.purse.now.left c.requires.ready c.in-Completion.typed c.in-Completion.value a b c.in-Completion.ensures.form))
    c.first_part-in-Completion.ensures.ok
