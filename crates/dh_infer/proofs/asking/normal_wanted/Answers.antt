use Rattle.std.specs.Prelude.{option_map}
use Rattle.std.proofs.Common.{ap, sym, ◌∙◌, subst as along}
use Rattle.dh_norm.proofs.Running.{handed-on}
use Rattle.dh_infer.specs.declared.frames.State.TheVariants as states
use Rattle.dh_infer.specs.Inside.Machine.{Advances, Halts}
use Rattle.dh_infer.specs.Inside.Scopes.{env, in_scope}
use Rattle.dh_infer.proofs.AskedRules.{rule-node, wanted-as, wanted-stops}
use Rattle.dh_infer.proofs.RuleSteps.{no-part}
use Rattle.dh_infer.proofs.asking.normal_wanted.Goals as goal

pub part_of-requires-clause-node : goal.part_of-requires-clause-node
part_of-requires-clause-node c = rule-node c.args.typer.now c.args.code c.args.types c.args.found c.requires.ready

pub returns-in_err-normal-in-Some-clause-err : goal.returns-in_err-normal-in-Some-clause-err
returns-in_err-normal-in-Some-clause-err c =
    let m = c.args.typer.now in
    handed-on c.from_residual.result c.in_err-normal-in-Some.field-0.0 (λ h. Halts m (states.Rule c.args.code c.args.types c.args.found) c.args.purse.now.left h) c.from_residual.ensures.1
    (wanted-stops m c.args.code c.args.types c.args.found c.args.purse.now.left c.requires.ready c.args.part c.in-Some.wanted c.requires.asked
    (λ g a. c.part_of.ensures.part g (env g m.scope) a ∙ ap (option_map (λ z. in_scope g m.scope z)) c.in-Some.is)
    c.in_err-normal-in-Some.field-0.0 c.in_err-normal-in-Some.ensures.err)

pub returns-in_ok-normal-in-Some-clause-ok : goal.returns-in_ok-normal-in-Some-clause-ok
returns-in_ok-normal-in-Some-clause-ok c =
    let m = c.args.typer.now in
    along (λ z. Advances m z (states.Rule c.args.code c.args.types c.args.found) (states.Rule c.args.code c.args.types c.with_normal.result) c.args.purse.now.left c.normal_in_scope.new.purse.left) (sym c.in_ok-normal-in-Some.ensures.rest)
    (along (λ z. Advances m (record m { codes = c.normal_in_scope.new.typer.codes }) (states.Rule c.args.code c.args.types c.args.found) (states.Rule c.args.code c.args.types z) c.args.purse.now.left c.normal_in_scope.new.purse.left) (sym c.with_normal.ensures)
    (wanted-as m c.args.code c.args.types c.args.found c.args.purse.now.left c.requires.ready c.args.part c.in-Some.wanted c.requires.asked
    (λ g a. c.part_of.ensures.part g (env g m.scope) a ∙ ap (option_map (λ z. in_scope g m.scope z)) c.in-Some.is)
    c.normal_in_scope.new.typer.codes c.in_ok-normal-in-Some.ensures.grows c.in_ok-normal-in-Some.normal c.normal_in_scope.new.purse.left c.in_ok-normal-in-Some.ensures.ok))

pub returns-in-None-clause-ok : goal.returns-in-None-clause-ok
returns-in-None-clause-ok c =
    let m = c.args.typer.now in
    no-part m c.args.code c.args.types c.args.found c.args.purse.now.left c.requires.ready c.args.part c.requires.asked
    (λ g a. c.part_of.ensures.part g (env g m.scope) a ∙ ap (option_map (λ z. in_scope g m.scope z)) c.in-None.is) c.refuse.result c.refuse.ensures
