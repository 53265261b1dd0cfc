use Rattle.std.proofs.Common.{sym, ◌∙◌, subst as along}
use Rattle.dh_norm.proofs.Running.{handed-on}
use Rattle.dh_infer.proofs.Opening.{sort-refused, body-halts, body-typed}
use Rattle.dh_infer.proofs.Remembering.{Keeps, keeps-grown}
use Rattle.dh_infer.proofs.binders.lambda_body.Goals as goal

pub returns-then-is_constant-clause-ok : goal.returns-then-is_constant-clause-ok
returns-then-is_constant-clause-ok c =
    sort-refused c.args.typer.now c.args.name c.args.domain c.args.number c.args.typed c.args.purse.now.left c.requires.ready c.leave.new.typer c.leave.ensures c.refuse.result c.refuse.ensures
    (sym c.if-is_constant.true ∙ c.is_constant.ensures)

pub returns-in_err-found-clause-err : goal.returns-in_err-found-clause-err
returns-in_err-found-clause-err c =
    handed-on c.from_residual-in_err-found.result c.in_err-found.field-0.0 _ c.from_residual-in_err-found.ensures.1
    (body-halts c.args.typer.now c.args.name c.args.domain c.args.number c.args.typed c.args.purse.now.left c.requires.ready c.leave.new.typer c.leave.ensures c.bound_in.new.codes
    c.function_type.new.codes c.in_ok-range.range c.in_ok-function.function c.in_ok-range.ensures.grows c.in_ok-function.ensures.grows c.in_ok-range.ensures.made c.in_ok-function.ensures.made
    (sym c.if-is_constant.false ∙ c.is_constant.ensures) c.in_err-found.field-0.0 c.in_err-found.ensures.err)

pub returns-clause-ok : goal.returns-clause-ok
returns-clause-ok c =
    body-typed c.args.typer.now c.args.name c.args.domain c.args.number c.args.typed c.args.purse.now.left c.requires.ready c.leave.new.typer c.leave.ensures c.bound_in.new.codes
    c.function_type.new.codes c.in_ok-range.range c.in_ok-function.function c.in_ok-range.ensures.grows c.in_ok-function.ensures.grows c.in_ok-range.ensures.made c.in_ok-function.ensures.made
    (sym c.if-is_constant.false ∙ c.is_constant.ensures) c.known_form.new.codes c.in_ok-found.found c.known_form.new.purse.left c.in_ok-found.ensures.grows c.in_ok-found.ensures.ok

pub known_form-requires-clause-known : goal.known_form-requires-clause-known
known_form-requires-clause-known c =
    keeps-grown c.bound_in.new.codes c.function_type.new.codes c.args.known.now c.in_ok-function.ensures.grows
    (keeps-grown c.leave.new.typer.codes c.bound_in.new.codes c.args.known.now c.in_ok-range.ensures.grows (along (λ z. Keeps z.codes c.args.known.now) (sym c.leave.ensures) c.requires.known))

pub returns-then-is_constant-clause-known : goal.returns-then-is_constant-clause-known
returns-then-is_constant-clause-known c = along (λ z. Keeps z.codes c.args.known.now) (sym c.leave.ensures) c.requires.known
