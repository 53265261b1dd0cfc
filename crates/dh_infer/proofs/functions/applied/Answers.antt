use Rattle.std.specs.Prelude.{ℕ}
use Rattle.dh_syntax.specs.Names.Nameless.{Core}
use Rattle.dh_infer.specs.Inside.Scopes.{in_scope}
use Rattle.dh_infer.proofs.Remembering.{grown_ok}
use Rattle.dh_infer.proofs.Unmentioned.{alone-put, alone-stopped}
use Rattle.dh_infer.proofs.functions.applied.Goals as goal

pub returns-in-Some-clause-ok : goal.returns-in-Some-clause-ok
returns-in-Some-clause-ok c =
    let t = c.args.typer.now in
    alone-put t.codes c.args.range c.in-Some.alone c.in_ok-outside.outside c.in-Some.is c.requires.range c.requires.closed c.in_ok-outside.ensures.same c.in_ok-outside.ensures.view (λ (g : ℕ → Core). in_scope g t.scope c.args.argument)
    c.known_form.new.codes c.args.purse.now.left c.known_form.new.purse.left c.known_form.ensures.grows c.known_form.result c.known_form.ensures.ok

pub returns-in-Some-clause-err : goal.returns-in-Some-clause-err
returns-in-Some-clause-err c =
    let t = c.args.typer.now in
    alone-stopped t.codes c.args.range c.in-Some.alone c.in_ok-outside.outside c.in-Some.is c.requires.range c.requires.closed c.in_ok-outside.ensures.same c.in_ok-outside.ensures.view (λ (g : ℕ → Core). in_scope g t.scope c.args.argument)
    c.args.purse.now.left c.known_form.result c.known_form.ensures.err

pub returns-in-None-clause-known : goal.returns-in-None-clause-known
returns-in-None-clause-known c =
    grown_ok c.args.typer.now.codes c.normal_put.new.typer.codes c.args.known.now c.normal_put.ensures.grows c.requires.known c.normal_put.result
