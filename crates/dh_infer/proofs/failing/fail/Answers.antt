use Rattle.std.specs.Prelude.{refl}
use Rattle.std.proofs.Common.{sym, subst as along}
use Rattle.std.proofs.lemmas.Result.{IfOk-weaker}
use Rattle.dh_infer.specs.declared.frames.Frame.TheVariants as frames
use Rattle.dh_infer.specs.declared.frames.State.TheVariants as states
use Rattle.dh_infer.specs.Inside.Leaving.{outside_binder, outside_let}
use Rattle.dh_infer.specs.Inside.Machine.{Advances, with_frame}
use Rattle.dh_infer.proofs.Completing.{completion-fails}
use Rattle.dh_infer.proofs.FailedFrames.{by-frame, fails-part, fails-body, fails-let}
use Rattle.dh_infer.proofs.RuleSteps.{universe-none}
use Rattle.dh_infer.proofs.failing.fail.Goals as goal

pub returns-in-LambdaBody-clause-ok : goal.returns-in-LambdaBody-clause-ok
returns-in-LambdaBody-clause-ok c =
    let m = c.args.typer.now in
    let fr = frames.LambdaBody c.in-LambdaBody.field-0 c.in-LambdaBody.field-1 c.in-LambdaBody.field-2 in
    IfOk-weaker c.outwards-in-LambdaBody.result _ _
    (λ s b. along (λ z. Advances (with_frame c.args.frame m) z (states.Failed c.args.failure) s c.args.purse.now.left c.args.purse.now.left) (sym c.leave_binder.ensures)
    (by-frame m (outside_binder m) (states.Failed c.args.failure) s c.args.purse.now.left c.args.purse.now.left c.args.frame fr c.in-LambdaBody.is
    (fails-body m 1 c.args.purse.now.left c.args.failure s b fr refl refl (λ g q. q.frames.0.0) (λ g. (_, refl))) c.requires.ready))
    c.outwards-in-LambdaBody.ensures.ok

pub returns-in-ForallRange-clause-ok : goal.returns-in-ForallRange-clause-ok
returns-in-ForallRange-clause-ok c =
    let m = c.args.typer.now in
    let fr = frames.ForallRange c.in-ForallRange.field-0 in
    IfOk-weaker c.outwards-in-ForallRange.result _ _
    (λ s b. along (λ z. Advances (with_frame c.args.frame m) z (states.Failed c.args.failure) s c.args.purse.now.left c.args.purse.now.left) (sym c.leave_binder-in-ForallRange.ensures)
    (by-frame m (outside_binder m) (states.Failed c.args.failure) s c.args.purse.now.left c.args.purse.now.left c.args.frame fr c.in-ForallRange.is
    (fails-body m 1 c.args.purse.now.left c.args.failure s b fr refl refl (λ g q. q.frames.0) (λ g. (_, refl))) c.requires.ready))
    c.outwards-in-ForallRange.ensures.ok

pub returns-in-LetBody-clause-ok : goal.returns-in-LetBody-clause-ok
returns-in-LetBody-clause-ok c =
    let m = c.args.typer.now in
    IfOk-weaker c.outwards-in-LetBody.result _ _
    (λ s b. along (λ z. Advances (with_frame c.args.frame m) z (states.Failed c.args.failure) s c.args.purse.now.left c.args.purse.now.left) (sym c.leave_let.ensures)
    (by-frame m (outside_let m) (states.Failed c.args.failure) s c.args.purse.now.left c.args.purse.now.left c.args.frame (frames.LetBody c.in-LetBody.part) c.in-LetBody.is
    (fails-let m c.in-LetBody.part c.args.purse.now.left c.args.failure s b) c.requires.ready))
    c.outwards-in-LetBody.ensures.ok

pub returns-in-Part-clause-ok : goal.returns-in-Part-clause-ok
returns-in-Part-clause-ok c =
    let m = c.args.typer.now in
    let fr = frames.Part c.in-Part.field-0 c.in-Part.at c.in-Part.field-2 in
    IfOk-weaker c.outwards-in-Part.result _ _
    (λ s b. by-frame m m (states.Failed c.args.failure) s c.args.purse.now.left c.args.purse.now.left c.args.frame fr c.in-Part.is
    (fails-part m c.in-Part.at c.args.purse.now.left c.args.failure s b fr refl refl (λ g. (_, refl))) c.requires.ready)
    c.outwards-in-Part.ensures.ok

pub returns-in-Universe-clause-ok : goal.returns-in-Universe-clause-ok
returns-in-Universe-clause-ok c =
    let m = c.args.typer.now in
    let u = c.in-Universe in
    by-frame m m (states.Failed c.args.failure) (states.Rule u.code u.types c.with_universe.result) c.args.purse.now.left u.left c.args.frame (frames.Universe u.code u.part u.types u.found u.left) u.is
    (λ r. along (λ z. Advances (with_frame (frames.Universe u.code u.part u.types u.found u.left) m) m (states.Failed c.args.failure) (states.Rule u.code u.types z) c.args.purse.now.left u.left) (sym c.with_universe.ensures)
    (universe-none m u.code u.part u.types u.found u.left c.args.purse.now.left c.args.failure r))
    c.requires.ready

pub returns-in-Completion-clause-ok : goal.returns-in-Completion-clause-ok
returns-in-Completion-clause-ok c =
    let m = c.args.typer.now in
    by-frame m m (states.Failed c.args.failure) c.refuse.result c.args.purse.now.left c.args.purse.now.left c.args.frame frames.Completion c.in-Completion.is
    (λ r. completion-fails m c.args.failure c.refuse.result c.args.purse.now.left r c.refuse.ensures)
    c.requires.ready
