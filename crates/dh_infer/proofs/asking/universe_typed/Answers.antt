use Rattle.std.proofs.Common.{ap, sym, ◌∙◌, subst as along}
use Rattle.dh_syntax.specs.Typing.Universes.{as_universe}
use Rattle.dh_infer.specs.declared.frames.Frame.TheVariants as frames
use Rattle.dh_infer.specs.declared.frames.State.TheVariants as states
use Rattle.dh_infer.specs.Inside.Machine.{Advances, with_frame}
use Rattle.dh_infer.proofs.RuleSteps.{universe-typed}
use Rattle.dh_infer.proofs.asking.universe_typed.Goals as goal

pub returns : goal.returns
returns c =
    let m = c.args.typer.now in
    along (λ z. Advances (with_frame (frames.Universe c.args.code c.args.part c.args.types c.args.found c.args.left) m) m (states.Typed c.args.typed) (states.Rule c.args.code c.args.types z) c.args.purse.now.left c.args.left) (sym c.with_universe.ensures)
    (universe-typed m c.args.code c.args.part c.args.types c.args.found c.args.left c.args.purse.now.left c.args.typed c.requires.ready c.universe_of-universe.result
    (λ g a. ap as_universe (a c.args.typed c.requires.ready.state) ∙ sym c.universe_of-universe.ensures))
