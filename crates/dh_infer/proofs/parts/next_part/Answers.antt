use Rattle.std.proofs.Common.{subst as along}
use Rattle.dh_store.specs.Cells.{code_core}
use Rattle.dh_infer.specs.declared.frames.Frame.TheVariants as frames
use Rattle.dh_infer.specs.declared.frames.State.TheVariants as states
use Rattle.dh_infer.specs.Inside.Machine.{Advances}
use Rattle.dh_infer.proofs.Modelled.{models-itself}
use Rattle.dh_infer.proofs.Readiness.{advances-pushed}
use Rattle.dh_infer.proofs.Turning.{next-is, turns-done, turns-skip, turns-type}
use Rattle.dh_infer.proofs.parts.next_part.Goals as goal

pub turn_at-requires-clause-node : goal.turn_at-requires-clause-node
turn_at-requires-clause-node c = (c.requires.ready.sound (code_core c.args.typer.now.codes) (models-itself c.args.typer.now.codes)).state.0

pub returns-in-Done-clause-ok : goal.returns-in-Done-clause-ok
returns-in-Done-clause-ok c =
    turns-done c.args.typer.now c.args.code c.args.at c.args.types c.args.purse.now.left c.requires.ready c.turn_at.result c.turn_at.ensures c.in-Done.is

pub returns-in_ok-next_number-in-Skip-clause-ok : goal.returns-in_ok-next_number-in-Skip-clause-ok
returns-in_ok-next_number-in-Skip-clause-ok c =
    along (λ n. Advances c.args.typer.now c.args.typer.now (states.Parts c.args.code c.args.at c.args.types) (states.Parts c.args.code n c.args.types) c.args.purse.now.left c.args.purse.now.left)
    (next-is c.args.at c.in_ok-next_number-in-Skip.field-0 c.in_ok-next_number-in-Skip.ensures.ok)
    (turns-skip c.args.typer.now c.args.code c.args.at c.args.types c.args.purse.now.left c.requires.ready c.turn_at.result c.turn_at.ensures c.in-Skip.is)

pub returns-in_ok-push-in-Type-clause-ok : goal.returns-in_ok-push-in-Type-clause-ok
returns-in_ok-push-in-Type-clause-ok c =
    advances-pushed c.args.typer.now c.push.new.self (frames.Part c.args.code c.args.at c.args.types) (states.Parts c.args.code c.args.at c.args.types) (states.Type c.in-Type.part) c.args.purse.now.left c.args.purse.now.left
    c.in_ok-push-in-Type.ensures.ok
    (turns-type c.args.typer.now c.args.code c.args.at c.args.types c.args.purse.now.left c.requires.ready c.turn_at.result c.turn_at.ensures c.in-Type.part c.in-Type.is)
