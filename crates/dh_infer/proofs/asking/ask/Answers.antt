use Rattle.std.specs.Prelude.{ℕ}
use Rattle.std.proofs.Common.{sym, subst as along}
use Rattle.std.proofs.lemmas.Result.{IfOk-weaker, IfErr-weaker}
use Rattle.dh_syntax.specs.Names.Nameless.{Core}
use Rattle.dh_infer.specs.declared.frames.State.TheVariants as states
use Rattle.dh_infer.specs.Inside.Machine.{Advances, Halts, IsReady}
use Rattle.dh_infer.specs.Inside.Rests.{IsStepOf}
use Rattle.dh_infer.specs.Inside.Scopes.{Models}
use Rattle.dh_infer.proofs.AskedRules.{unruled-as}
use Rattle.dh_infer.proofs.Depending.{halts-grown}
use Rattle.dh_infer.proofs.Readiness.{ready-grown, advances-grown}
use Rattle.dh_infer.proofs.Remembering.{keeps-grown}
use Rattle.dh_infer.proofs.asking.ask.Goals as goal

pub go_on-requires-clause-ready : goal.go_on-requires-clause-ready
go_on-requires-clause-ready c =
    let s = states.Rule c.args.code c.args.types c.args.found in
    along (λ z. IsReady z s) (sym c.in_ok-step.ensures.rest) (ready-grown c.args.typer.now s c.step_of.new.typer.codes c.in_ok-step.ensures.grows c.requires.ready)

pub returns-in-Some-clause-ok : goal.returns-in-Some-clause-ok
returns-in-Some-clause-ok c =
    let m = c.args.typer.now in
    let s = states.Rule c.args.code c.args.types c.args.found in
    IfOk-weaker c.go_on.result _ _
    (λ t h. advances-grown m c.go_on.new.typer c.step_of.new.typer.codes s t c.args.purse.now.left c.go_on.new.purse.left c.in_ok-step.ensures.grows
    (along (λ z. Advances z c.go_on.new.typer s t c.args.purse.now.left c.go_on.new.purse.left) c.in_ok-step.ensures.rest h))
    c.go_on.ensures.ok

pub returns-in-Some-clause-err : goal.returns-in-Some-clause-err
returns-in-Some-clause-err c =
    let m = c.args.typer.now in
    let s = states.Rule c.args.code c.args.types c.args.found in
    IfErr-weaker c.go_on.result _ _
    (λ h k. halts-grown m c.step_of.new.typer.codes s c.args.purse.now.left h c.in_ok-step.ensures.grows c.requires.ready (along (λ z. Halts z s c.args.purse.now.left h) c.in_ok-step.ensures.rest k))
    c.go_on.ensures.err

pub returns-in-None-clause-ok : goal.returns-in-None-clause-ok
returns-in-None-clause-ok c =
    let m = c.args.typer.now in
    let s = states.Rule c.args.code c.args.types c.args.found in
    along (λ z. Advances m z s c.refuse.result c.args.purse.now.left c.args.purse.now.left) (sym c.in_ok-step.ensures.rest)
    (unruled-as m c.args.code c.args.types c.args.found c.args.purse.now.left c.requires.ready c.step_of.new.typer.codes c.in_ok-step.ensures.grows
    (along (λ z. (g : ℕ → Core) → Models c.step_of.new.typer.codes g → IsStepOf g c.args.code c.args.types.items c.args.found z) c.in-None.is c.in_ok-step.ensures.asked) c.refuse.result c.refuse.ensures)

pub go_on-requires-clause-known : goal.go_on-requires-clause-known
go_on-requires-clause-known c = keeps-grown c.args.typer.now.codes c.step_of.new.typer.codes c.args.known.now c.in_ok-step.ensures.grows c.requires.known

pub returns-in-None-clause-known : goal.returns-in-None-clause-known
returns-in-None-clause-known c = keeps-grown c.args.typer.now.codes c.step_of.new.typer.codes c.args.known.now c.in_ok-step.ensures.grows c.requires.known
