use Rattle.std.specs.Prelude.{ℕ, Some}
use Rattle.std.proofs.Common.{subst as along}
use Rattle.dh_syntax.specs.Names.Nameless.{Core}
use Rattle.dh_types.specs.There.{IsStepThere}
use Rattle.dh_infer.specs.Inside.Rests.{IsStepOf}
use Rattle.dh_infer.specs.Inside.Scopes.{Models}
use Rattle.dh_infer.proofs.Remembering.{keeps_ok}
use Rattle.dh_infer.proofs.RuleSteps.{takes, refuses}
use Rattle.dh_infer.proofs.asking.go_on.Goals as goal

pub returns-in-Takes-clause-ok : goal.returns-in-Takes-clause-ok
returns-in-Takes-clause-ok c =
    let m = c.args.typer.now in
    takes m c.args.code c.args.types c.args.found c.args.purse.now.left c.requires.ready c.in-Takes.typed
    (along (λ z. (g : ℕ → Core) → Models m.codes g → IsStepOf g c.args.code c.args.types.items c.args.found (Some z)) c.in-Takes.is c.requires.asked)
    (along (IsStepThere m.codes) c.in-Takes.is c.requires.there)

pub returns-in-Refuses-clause-ok : goal.returns-in-Refuses-clause-ok
returns-in-Refuses-clause-ok c =
    let m = c.args.typer.now in
    refuses m c.args.code c.args.types c.args.found c.args.purse.now.left c.requires.ready c.in-Refuses.rule
    (along (λ z. (g : ℕ → Core) → Models m.codes g → IsStepOf g c.args.code c.args.types.items c.args.found (Some z)) c.in-Refuses.is c.requires.asked) c.refuse.result c.refuse.ensures

pub returns-in-WantsNormal-clause-known : goal.returns-in-WantsNormal-clause-known
returns-in-WantsNormal-clause-known c = keeps_ok _ _ _ _ _ c.args.known.now c.normal_wanted.result c.normal_wanted.ensures.ok c.requires.known

pub returns-in-WantsUniverse-clause-known : goal.returns-in-WantsUniverse-clause-known
returns-in-WantsUniverse-clause-known c = keeps_ok _ _ _ _ _ c.args.known.now c.universe_wanted.result c.universe_wanted.ensures.ok c.requires.known
