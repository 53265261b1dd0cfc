use Rattle.std.proofs.Common.{subst as along}
use Rattle.dh_syntax.specs.Expressions.Forms as form
use Rattle.dh_types.specs.Growing.{Stands}
use Rattle.dh_infer.proofs.Opening.{range-refused, range-typed}
use Rattle.dh_infer.proofs.binders.forall_range.Goals as goal

pub returns-in-None-clause-ok : goal.returns-in-None-clause-ok
returns-in-None-clause-ok c =
    range-refused c.args.typer.now c.args.universe c.args.typed c.args.purse.now.left c.requires.ready c.leave.new.typer c.leave.ensures c.refuse.result c.refuse.ensures c.in-None.ensures

pub returns-in_ok-found-in-Some-clause-ok : goal.returns-in_ok-found-in-Some-clause-ok
returns-in_ok-found-in-Some-clause-ok c =
    range-typed c.args.typer.now c.args.universe c.args.typed c.args.purse.now.left c.requires.ready c.leave.new.typer c.leave.ensures c.in-Some.range c.in-Some.ensures c.constant.new.codes
    c.in_ok-found-in-Some.ensures.grows c.in_ok-found-in-Some.found
    (along (λ b. Stands c.constant.new.codes c.in_ok-found-in-Some.found (form.builtin b)) c.function_universe.ensures c.in_ok-found-in-Some.ensures.made)
