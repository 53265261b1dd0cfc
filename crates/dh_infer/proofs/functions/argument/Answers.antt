use Rattle.std.specs.Prelude.{length, map}
use Rattle.dh_store.specs.Cells.{code_core}
use Rattle.dh_norm.proofs.Running.{handed-on}
use Rattle.dh_infer.proofs.AppliedSteps.{argument-differs, argument-halts, argument-put}
use Rattle.dh_infer.proofs.Applying.{forall-parts, no-function}
use Rattle.dh_infer.proofs.LevelTypes.{of_below-closed}
use Rattle.dh_infer.proofs.Modelled.{models-itself}
use Rattle.dh_infer.proofs.functions.argument.Goals as goal

pub returns-in-None-clause-ok : goal.returns-in-None-clause-ok
returns-in-None-clause-ok c =
    no-function c.args.typer.now c.args.typed c.args.function c.args.argument c.args.purse.now.left c.requires.ready c.refuse.result c.refuse.ensures c.in-None.ensures.none

pub returns-else-branch-clause-ok : goal.returns-else-branch-clause-ok
returns-else-branch-clause-ok c =
    argument-differs c.args.typer.now c.args.typed c.args.function c.args.argument c.args.purse.now.left c.in-Some.domain c.in-Some.range c.requires.ready c.in-Some.ensures.there.0
    c.in-Some.ensures.some c.in_ok-same-in-Some.field-0 c.in_ok-same-in-Some.ensures c.if-branch.false c.refuse-else-branch.result c.refuse-else-branch.ensures

pub applied-requires-clause-closed : goal.applied-requires-clause-closed
applied-requires-clause-closed c =
    let m = c.args.typer.now in
    let g = code_core m.codes in
    let k = models-itself m.codes in
    let n = length (map g m.levels) in
    let (x, is) = c.in-Some.ensures.some g k in
    of_below-closed n (g c.in-Some.range) (forall-parts n (g c.args.function) (g c.in-Some.domain) x (g c.in-Some.range) is (c.requires.ready.sound g k).frames.0.0)

pub returns-in_err-found-in-Some-clause-err : goal.returns-in_err-found-in-Some-clause-err
returns-in_err-found-in-Some-clause-err c =
    handed-on c.from_residual-in_err-found-in-Some.result c.in_err-found-in-Some.field-0.0 _ c.from_residual-in_err-found-in-Some.ensures.1
    (argument-halts c.args.typer.now c.args.typed c.args.function c.args.argument c.args.purse.now.left c.in-Some.domain c.in-Some.range c.requires.ready c.in-Some.ensures.there.0
    c.in-Some.ensures.some c.in_ok-same-in-Some.field-0 c.in_ok-same-in-Some.ensures c.if-branch.true c.in_err-found-in-Some.field-0.0 c.in_err-found-in-Some.ensures.err)

pub returns-in_ok-found-in-Some-clause-ok : goal.returns-in_ok-found-in-Some-clause-ok
returns-in_ok-found-in-Some-clause-ok c =
    argument-put c.args.typer.now c.args.typed c.args.function c.args.argument c.args.purse.now.left c.in-Some.domain c.in-Some.range c.requires.ready c.in-Some.ensures.there.0
    c.in-Some.ensures.some c.in_ok-same-in-Some.field-0 c.in_ok-same-in-Some.ensures c.if-branch.true c.applied.new.typer c.in_ok-found-in-Some.found c.applied.new.purse.left c.in_ok-found-in-Some.ensures.rest
    c.in_ok-found-in-Some.ensures.grows c.in_ok-found-in-Some.ensures.ok
