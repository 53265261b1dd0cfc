use Rattle.std.proofs.Common.{[], subst}
use Rattle.dh_syntax.specs.declared.faults.NormFault.TheVariants as limit
use Rattle.dh_syntax.specs.Expressions.Bridge.{term}
use Rattle.dh_imports.specs.Machine.{outcome_of}
use Rattle.dh_imports.specs.Readings.{root_reading}
use Rattle.dh_syntax.specs.Limits.{whole_purse}
use Rattle.dh_syntax.specs.Typing.NamedTyping.{IsTypeFault}
use Rattle.dh_table.specs.States.{state_of}
use Rattle.dh_top.proofs.TypedReplies.{for_reading, type_limited}
use Rattle.dh_top.proofs.typing.typing.Goals as goal

pub returns-in-Ok : goal.returns-in-Ok
returns-in-Ok g c = for_reading c.typed_reply.result c.args.verb (term c.args.e.now) (root_reading c.args.text.now (state_of c.args.table.now).root (outcome_of (state_of c.args.table.now))) c.typed_reply.ensures

pub returns-in-Err-Wide : goal.returns-in-Err-Wide
returns-in-Err-Wide g c = type_limited c.limit.result c.args.verb _ (term c.args.e.now) limit.Wide (λ h. absurd cc) (subst (λ f. IsTypeFault [] whole_purse (term c.args.e.now) f) c.in-Err-Wide.field-0-is c.in-Err-Wide.ensures.err) c.limit.ensures

pub returns-in-Err-Spent : goal.returns-in-Err-Spent
returns-in-Err-Spent g c =
    type_limited c.limit-in-Err-Spent.result c.args.verb _ (term c.args.e.now) limit.Spent (λ h. absurd cc) (subst (λ f. IsTypeFault [] whole_purse (term c.args.e.now) f) c.in-Err-Spent.field-0-is c.in-Err-Spent.ensures.err) c.limit-in-Err-Spent.ensures

pub returns-in-Err-Deep : goal.returns-in-Err-Deep
returns-in-Err-Deep g c =
    type_limited c.limit-in-Err-Deep.result c.args.verb _ (term c.args.e.now) limit.Deep (λ h. absurd cc) (subst (λ f. IsTypeFault [] whole_purse (term c.args.e.now) f) c.in-Err-Deep.field-0-is c.in-Err-Deep.ensures.err) c.limit-in-Err-Deep.ensures
