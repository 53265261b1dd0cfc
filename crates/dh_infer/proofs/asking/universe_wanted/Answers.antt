use Rattle.std.specs.Prelude.{slice_get}
use Rattle.std.proofs.Common.{ap, sym, ◌∙◌}
use Rattle.dh_syntax.specs.Limits.{purse_aside}
use Rattle.dh_infer.specs.declared.frames.Frame.TheVariants as frames
use Rattle.dh_infer.specs.declared.frames.State.TheVariants as states
use Rattle.dh_infer.proofs.AskedRules.{aside-as}
use Rattle.dh_infer.proofs.Readiness.{advances-pushed}
use Rattle.dh_infer.proofs.RuleSteps.{no-type}
use Rattle.dh_infer.proofs.asking.universe_wanted.Goals as goal

pub returns-in_ok-push-in-Some-clause-ok : goal.returns-in_ok-push-in-Some-clause-ok
returns-in_ok-push-in-Some-clause-ok c =
    let m = c.args.typer.now in
    advances-pushed m c.push.new.self (frames.Universe c.args.code c.args.part c.args.types c.args.found c.args.purse.now.left) (states.Rule c.args.code c.args.types c.args.found) (states.Type c.in-Some.typed) c.args.purse.now.left purse_aside
    c.in_ok-push-in-Some.ensures.ok
    (aside-as m c.args.code c.args.types c.args.found c.args.purse.now.left c.requires.ready c.args.part c.in-Some.typed c.requires.asked
    (ap (λ ts. slice_get ts c.args.part) (sym c.as_slice.ensures.value) ∙ sym c.type_at.ensures ∙ c.in-Some.is))

pub returns-in-None-clause-ok : goal.returns-in-None-clause-ok
returns-in-None-clause-ok c =
    no-type c.args.typer.now c.args.code c.args.types c.args.found c.args.purse.now.left c.requires.ready c.args.part c.requires.asked
    (ap (λ ts. slice_get ts c.args.part) (sym c.as_slice.ensures.value) ∙ sym c.type_at.ensures ∙ c.in-None.is) c.refuse.result c.refuse.ensures
