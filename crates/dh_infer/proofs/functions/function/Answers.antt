use Rattle.std.proofs.Common.{ap, refl}
use Rattle.dh_infer.specs.declared.frames.Frame.TheVariants as frames
use Rattle.dh_infer.specs.declared.frames.State.TheVariants as states
use Rattle.dh_infer.specs.Inside.Machine.{with_frame}
use Rattle.dh_infer.proofs.Applying.{after-function}
use Rattle.dh_infer.proofs.Readiness.{with_frames, advances-as}
use Rattle.dh_infer.proofs.functions.function.Goals as goal

pub returns-clause-ok : goal.returns-clause-ok
returns-clause-ok c =
    let m = c.args.typer.now in
    advances-as (with_frame (frames.Function c.args.argument) m) (with_frames c.push.new.self m) (with_frame (frames.Argument c.args.typed c.args.argument) m) (states.Typed c.args.typed)
    (states.Type c.args.argument) (states.Type c.args.argument) c.args.purse.now.left c.args.purse.now.left (ap (λ z. with_frames z m) c.in_ok-push.ensures.ok) refl
    (after-function m c.args.typed c.args.argument c.args.purse.now.left c.requires.ready)
