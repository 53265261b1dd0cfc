use Rattle.std.proofs.Common.{sym}
use Rattle.dh_store.specs.Cells.{code_core}
use Rattle.dh_infer.proofs.LetSteps.{value-kept}
use Rattle.dh_infer.proofs.Modelled.{models-itself}
use Rattle.dh_infer.proofs.NormalCodes.{no-entry}
use Rattle.dh_infer.proofs.lets.used.Goals as goal

pub unreachable-requires : goal.unreachable-requires
unreachable-requires c =
    let m = c.args.typer.now in
    no-entry m.scope c.args.index (c.requires.ready.sound (code_core m.codes) (models-itself m.codes)).frames.0 (sym c.in-None.ensures)

pub returns : goal.returns
returns c =
    value-kept c.args.typer.now c.args.index c.args.typed c.args.purse.now.left c.in-Some.entry.now (sym c.in-Some.ensures) c.requires.ready c.set.new.self c.set.ensures
