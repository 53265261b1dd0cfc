use Rattle.std.proofs.Common.{subst as along}
use Rattle.dh_infer.specs.declared.frames.Frame.TheVariants as frames
use Rattle.dh_infer.specs.declared.frames.State.TheVariants as states
use Rattle.dh_infer.specs.Inside.Machine.{Advances, with_frame}
use Rattle.dh_infer.proofs.Parting.{part-typed}
use Rattle.dh_infer.proofs.Turning.{next-is}
use Rattle.dh_infer.proofs.parts.part_typed.Goals as goal

pub returns-clause-ok : goal.returns-clause-ok
returns-clause-ok c =
    along (λ n. Advances (with_frame (frames.Part c.args.code c.args.at c.args.types) c.args.typer.now) c.args.typer.now (states.Typed c.args.typed) (states.Parts c.args.code n c.push.new.self) c.args.purse.now.left c.args.purse.now.left)
    (next-is c.args.at c.in_ok-next.next c.in_ok-next.ensures.ok)
    (part-typed c.args.typer.now c.args.code c.args.at c.args.types c.push.new.self c.args.typed c.args.purse.now.left c.requires.ready c.in_ok-push.ensures.items)
