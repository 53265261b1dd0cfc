use Rattle.std.proofs.Common.{None, Some, ◌∙◌}
use Rattle.dh_norm.proofs.Running.{handed-on}
use Rattle.dh_syntax.specs.Typing.Universes.{as_universe}
use Rattle.dh_infer.proofs.Ranging.{forall-no_universe, forall-halts}
use Rattle.dh_infer.proofs.Opening.{forall-begins, none-else, seen}
use Rattle.dh_infer.proofs.Remembering.{keeps-grown}
use Rattle.dh_infer.proofs.binders.forall_domain.Goals as goal

pub returns-in_default-clause-ok : goal.returns-in_default-clause-ok
returns-in_default-clause-ok c =
    let m = c.args.typer.now in
    let u = c.args.purse.now.left in
    forall-no_universe m c.args.name c.args.domain c.args.range c.args.typed u u c.requires.ready c.refuse.result c.refuse.ensures
    (λ g k. seen as_universe m.codes g k c.args.typed c.requires.ready.state None (none-else c.universe_of.result c.in_default.not-Some ∙ c.universe_of.ensures))

pub returns-in_err-normal-clause-err : goal.returns-in_err-normal-clause-err
returns-in_err-normal-clause-err c =
    let m = c.args.typer.now in
    let u = c.args.purse.now.left in
    handed-on c.from_residual.result c.in_err-normal.field-0.0 _ c.from_residual.ensures.1
    (forall-halts m c.args.name c.args.domain c.args.range c.args.typed u u c.requires.ready c.in-Some.universe
    (λ g k. seen as_universe m.codes g k c.args.typed c.requires.ready.state (Some c.in-Some.universe) c.in-Some.ensures) c.in_err-normal.field-0.0 c.in_err-normal.ensures.err)

pub returns-clause-ok : goal.returns-clause-ok
returns-clause-ok c =
    forall-begins c.args.typer.now c.shared_normal.new.typer c.enter.new.typer c.args.name c.args.domain c.args.range c.args.typed c.args.purse.now.left c.shared_normal.new.purse.left
    c.in_ok-number.number c.in_ok-normal.normal c.in-Some.universe c.in-Some.ensures c.in_ok-normal.ensures.rest c.in_ok-normal.ensures.grows c.in_ok-number.ensures c.in_ok-normal.ensures.ok c.requires.ready
    c.in_ok-enter.ensures

pub returns-clause-known : goal.returns-clause-known
returns-clause-known c = keeps-grown c.shared_normal.new.typer.codes c.enter.new.typer.codes c.shared_normal.new.known c.in_ok-enter.ensures.grows c.in_ok-normal.ensures.known
