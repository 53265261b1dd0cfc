use Rattle.dh_infer.specs.declared.frames.Frame.TheVariants as frames
use Rattle.dh_infer.specs.declared.frames.State.TheVariants as states
use Rattle.dh_infer.specs.Inside.Machine.{with_frame}
use Rattle.dh_infer.proofs.Completing.{after-type}
use Rattle.dh_infer.proofs.Readiness.{advances-to}
use Rattle.dh_infer.proofs.completions.completed_type_typed.Goals as goal

pub returns-clause-ok : goal.returns-clause-ok
returns-clause-ok c =
    advances-to (with_frame (frames.CompletedType c.args.typed c.args.value) c.args.typer.now) c.args.typer.now c.push.new.self (frames.CompletedRecord c.args.typed c.args.value) (states.Typed c.args.found) (states.Type c.args.value) c.args.purse.now.left c.args.purse.now.left
    c.in_ok-push.ensures.ok
    (after-type c.args.typer.now c.args.typed c.args.value c.args.found c.args.purse.now.left c.requires.ready)
