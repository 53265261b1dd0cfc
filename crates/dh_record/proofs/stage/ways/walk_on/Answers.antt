use Rattle.std.specs.Prelude.{Some}
use Rattle.std.proofs.Common.{subst}
use Rattle.dh_syntax.specs.Expressions.Bridge.{term}
use Rattle.dh_imports.specs.Walk.{walk}
use Rattle.dh_demand.specs.declared.ends.Next.TheVariants as next
use Rattle.dh_demand.specs.Nexts.{IsNext}
use Rattle.dh_demand.specs.Results.{ask_of}
use Rattle.dh_record.specs.Rows.{rows_of}
use Rattle.dh_record.proofs.Ways.{reach-fault, reach-needs, reach-ready}
use Rattle.dh_record.proofs.stage.ways.walk_on.Goals as goal

pub returns-in-Need-clause-reach : goal.returns-in-Need-clause-reach
returns-in-Need-clause-reach c t allow =
    let k = c.args.key.now in
    let rows = rows_of c.args.keys.now in
    reach-needs rows k allow (walk (Some k) (ask_of rows) (term c.args.scan.now.expr)) c.in-Need.other
    (subst (λ j. IsNext (Some k.loc) rows (walk j (ask_of rows) (term c.args.scan.now.expr)) (next.Need c.in-Need.other)) t (subst (IsNext (Some k.loc) rows (walk _ (ask_of rows) (term c.args.scan.now.expr))) c.in-Need.is c.next_from-next.ensures.next))

pub returns-in-Ready-clause-reach : goal.returns-in-Ready-clause-reach
returns-in-Ready-clause-reach c t allow =
    let k = c.args.key.now in
    let rows = rows_of c.args.keys.now in
    reach-ready rows k allow (walk (Some k) (ask_of rows) (term c.args.scan.now.expr))
    (subst (λ j. IsNext (Some k.loc) rows (walk j (ask_of rows) (term c.args.scan.now.expr)) next.Ready) t (subst (IsNext (Some k.loc) rows (walk _ (ask_of rows) (term c.args.scan.now.expr))) c.in-Ready.is c.next_from-next.ensures.next))

pub returns-in-Fault-clause-reach : goal.returns-in-Fault-clause-reach
returns-in-Fault-clause-reach c t allow =
    let k = c.args.key.now in
    let rows = rows_of c.args.keys.now in
    reach-fault rows k allow (walk (Some k) (ask_of rows) (term c.args.scan.now.expr)) c.in-Fault.field-0
    (subst (λ j. IsNext (Some k.loc) rows (walk j (ask_of rows) (term c.args.scan.now.expr)) (next.Fault c.in-Fault.field-0)) t (subst (IsNext (Some k.loc) rows (walk _ (ask_of rows) (term c.args.scan.now.expr))) c.in-Fault.is c.next_from-next.ensures.next))
