use Rattle.std.proofs.Common.{ap, refl}
use Rattle.dh_infer.specs.declared.frames.Frame.TheVariants as frames
use Rattle.dh_infer.specs.declared.frames.State.TheVariants as states
use Rattle.dh_infer.specs.Inside.Machine.{with_frame}
use Rattle.dh_infer.proofs.Holding.{after-annotation}
use Rattle.dh_infer.proofs.Readiness.{with_frames, advances-as}
use Rattle.dh_infer.proofs.lets.let_annotation.Goals as goal

pub returns-clause-ok : goal.returns-clause-ok
returns-clause-ok c =
    let m = c.args.typer.now in
    advances-as (with_frame (frames.LetAnnotation c.args.annotation c.args.value c.args.body) m) (with_frames c.push.new.self m)
    (with_frame (frames.LetValue c.args.annotation c.args.value c.args.body) m) (states.Typed c.args.typed) (states.Type c.args.value) (states.Type c.args.value) c.args.purse.now.left
    c.args.purse.now.left (ap (λ z. with_frames z m) c.in_ok-push.ensures.ok) refl
    (after-annotation m c.args.annotation c.args.value c.args.body c.args.typed c.args.purse.now.left c.requires.ready)
