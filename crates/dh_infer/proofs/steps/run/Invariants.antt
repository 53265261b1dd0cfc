use Rattle.dh_infer.specs.Inside.Machine.{Advances}
use Rattle.dh_infer.proofs.Remembering.{Keeps}
use Rattle.dh_infer.proofs.steps.run.Given as goal

abbrev pub invariant-steps : goal.invariant-steps
invariant-steps l = record {
  advances : Advances l.fn.typer l.typer l.fn.start l.state l.fn.purse.left l.purse.left;
  known : Keeps l.typer.codes l.known;
}
