use Rattle.std.proofs.Common.{sym}
use Rattle.dh_infer.specs.declared.frames.Frame.TheVariants as frames
use Rattle.dh_infer.specs.declared.frames.State.TheVariants as states
use Rattle.dh_infer.proofs.Readiness.{advances-pushed}
use Rattle.dh_infer.proofs.Starting.{variable-unbound, variable-typed, variable-used}
use Rattle.dh_infer.proofs.beginnings.variable.Goals as goal

pub returns-in-None-clause-ok : goal.returns-in-None-clause-ok
returns-in-None-clause-ok c =
    variable-unbound c.args.typer.now c.args.code c.args.purse.now.left c.requires.ready c.args.index c.requires.form c.refuse.result c.refuse.ensures (sym c.in-None.ensures)

pub returns-in-Some-typed-clause-ok : goal.returns-in-Some-typed-clause-ok
returns-in-Some-typed-clause-ok c =
    variable-typed c.args.typer.now c.args.code c.args.purse.now.left c.requires.ready c.args.index c.requires.form c.in-Some.entry.now (sym c.in-Some.ensures) c.in-Some-typed.typed c.in-Some-typed.is

pub returns-in_ok-push-in-None-typed-clause-ok : goal.returns-in_ok-push-in-None-typed-clause-ok
returns-in_ok-push-in-None-typed-clause-ok c =
    advances-pushed c.args.typer.now c.push.new.self (frames.Used c.args.index) (states.Type c.args.code) (states.Type c.in-Some.entry.now.value) c.args.purse.now.left c.args.purse.now.left
    c.in_ok-push-in-None-typed.ensures.ok
    (variable-used c.args.typer.now c.args.code c.args.purse.now.left c.requires.ready c.args.index c.requires.form c.in-Some.entry.now (sym c.in-Some.ensures) c.in-None-typed.is)
