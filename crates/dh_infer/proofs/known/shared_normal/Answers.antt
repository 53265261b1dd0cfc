use Rattle.std.specs.Prelude.{ℕ}
use Rattle.dh_norm.proofs.Running.{handed-on}
use Rattle.dh_syntax.specs.Names.Nameless.{Core}
use Rattle.dh_infer.specs.Inside.Scopes.{in_scope}
use Rattle.dh_infer.proofs.Remembering.{first-normal, keeps-grown, sharing-kept}
use Rattle.dh_infer.proofs.known.shared_normal.Goals as goal

pub returns-in_err-normal-clause-err : goal.returns-in_err-normal-clause-err
returns-in_err-normal-clause-err c = handed-on c.from_residual.result c.in_err-normal.field-0.0 _ c.from_residual.ensures.1 c.in_err-normal.ensures.err

pub returns-clause-known : goal.returns-clause-known
returns-clause-known c = λ g m.
    let k = keeps-grown c.args.typer.now.codes c.normal_in_scope.new.typer.codes c.args.known.now c.in_ok-normal.ensures.grows c.requires.known g m in
    sharing-kept g c.args.known.now c.first.new.self k (c.in_ok-number.ensures.shared g m k.shared)

pub returns-clause-ok : goal.returns-clause-ok
returns-clause-ok c =
    let t = c.args.typer.now in
    let cs = c.normal_in_scope.new.typer.codes in
    first-normal cs c.args.purse.now.left c.normal_in_scope.new.purse.left (λ (g : ℕ → Core). in_scope g t.scope c.args.code) c.in_ok-normal.normal c.in_ok-number.number c.in_ok-normal.ensures.ok
    (λ g m. c.in_ok-number.ensures.ok g m (keeps-grown t.codes cs c.args.known.now c.in_ok-normal.ensures.grows c.requires.known g m).shared)
