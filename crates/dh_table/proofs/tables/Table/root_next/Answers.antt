use Rattle.std.proofs.Common.{sym, None, subst as along}
use Rattle.dh_syntax.specs.Expressions.Bridge.{term}
use Rattle.dh_imports.specs.Machine.{root_walk}
use Rattle.dh_imports.specs.Walk.{Ask, walk}
use Rattle.dh_demand.specs.Nexts.{IsNext}
use Rattle.dh_demand.specs.Results.{ask_of}
use Rattle.dh_record.specs.Rows.{rows_of}
use Rattle.dh_table.specs.States.{state_of}
use Rattle.dh_table.proofs.tables.Table.root_next.Goals as goal

pub returns-clause-next : goal.returns-clause-next
returns-clause-next g c =
    let t = c.self.inside in
    let rows = rows_of t.keys in
    let here : IsNext None rows (walk None (ask_of rows) (term t.root.expr)) c.next.result =
    along (λ v. IsNext None (rows_of v.keys) (walk None (ask_of (rows_of v.keys)) (term t.root.expr)) c.next.result) (sym c.self.view_is) c.next.ensures.next in
    along (λ v. IsNext None (rows_of v.keys) (root_walk (state_of v)) c.next.result) c.self.view_is
    (along (λ (ask : Ask). IsNext None rows (walk None ask (term t.root.expr)) c.next.result) (sym c.self.invariant.asks) here)
