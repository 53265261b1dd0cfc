use Rattle.std.proofs.Common.{[], subst}
use Rattle.dh_syntax.specs.Expressions.Bridge.{term}
use Rattle.dh_syntax.specs.Limits.{whole_purse}
use Rattle.dh_syntax.specs.Typing.NamedTyping.{IsTypeFault}
use Rattle.dh_work.specs.Inside.Coming.{IsCodeCame}
use Rattle.dh_work.proofs.Comings.{ill_last, of_came, type_wide, type_spent, type_deep}
use Rattle.dh_work.proofs.codes.untyped.Goals as goal

pub returns-in_ok-own_fault-in-Ill : goal.returns-in_ok-own_fault-in-Ill
returns-in_ok-own_fault-in-Ill c =
    ill_last c.args.key.now (term c.args.code.now) c.args.allow.now c.args.fault c.in-Ill.ill c.in_ok-own_fault-in-Ill.field-0 c.in-Ill.is c.requires c.in_ok-own_fault-in-Ill.ensures

pub returns-in-Wide : goal.returns-in-Wide
returns-in-Wide c =
    of_came c.args.key.now (term c.args.code.now) c.args.allow.now _ c.limit.result
    (type_wide c.args.key.now (term c.args.code.now) c.args.allow.now (subst (IsTypeFault [] whole_purse (term c.args.code.now)) c.in-Wide.is c.requires)) c.limit.ensures

pub returns-in-Spent : goal.returns-in-Spent
returns-in-Spent c =
    of_came c.args.key.now (term c.args.code.now) c.args.allow.now _ c.limit-in-Spent.result
    (type_spent c.args.key.now (term c.args.code.now) c.args.allow.now (subst (IsTypeFault [] whole_purse (term c.args.code.now)) c.in-Spent.is c.requires)) c.limit-in-Spent.ensures

pub returns-in-Deep : goal.returns-in-Deep
returns-in-Deep c =
    of_came c.args.key.now (term c.args.code.now) c.args.allow.now _ c.limit-in-Deep.result
    (type_deep c.args.key.now (term c.args.code.now) c.args.allow.now (subst (IsTypeFault [] whole_purse (term c.args.code.now)) c.in-Deep.is c.requires)) c.limit-in-Deep.ensures
