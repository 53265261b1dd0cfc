use Rattle.std.proofs.Common.{[], subst}
use Rattle.dh_syntax.specs.declared.faults.NormFault.TheVariants as limit
use Rattle.dh_syntax.specs.Limits.{whole_purse}
use Rattle.dh_syntax.specs.Typing.NamedTyping.{IsTypeFault}
use Rattle.dh_watch_lines.proofs.ValueLines.{ill_line_told, limit_line_told}
use Rattle.dh_watch_lines.proofs.values.untyped.Goals as goal

pub returns-in-Ill : goal.returns-in-Ill
returns-in-Ill c = ill_line_told c.ill_told.result c.args.fault.now c.in-Ill.ill c.in-Ill.is c.ill_told.ensures

pub returns-in-Wide : goal.returns-in-Wide
returns-in-Wide c =
    limit_line_told c.limit_told.result c.args.fault.now limit.Wide (λ h. absurd cc) (λ e h. subst (λ f. IsTypeFault [] whole_purse e f) c.in-Wide.is h) c.limit_told.ensures

pub returns-in-Spent : goal.returns-in-Spent
returns-in-Spent c =
    limit_line_told c.limit_told-in-Spent.result c.args.fault.now limit.Spent (λ h. absurd cc) (λ e h. subst (λ f. IsTypeFault [] whole_purse e f) c.in-Spent.is h) c.limit_told-in-Spent.ensures

pub returns-in-Deep : goal.returns-in-Deep
returns-in-Deep c =
    limit_line_told c.limit_told-in-Deep.result c.args.fault.now limit.Deep (λ h. absurd cc) (λ e h. subst (λ f. IsTypeFault [] whole_purse e f) c.in-Deep.is h) c.limit_told-in-Deep.ensures
