use Rattle.std.proofs.Common.{◌≡◌, ◌∙◌, true, sym, ap, subst as along}
use Rattle.dh_syntax.specs.Expressions.Bridge.{term}
use Rattle.dh_imports.specs.Freezing.{digests_behind}
use Rattle.dh_imports.specs.Machine.{outcome_of}
use Rattle.dh_imports.specs.Walk.{Ask}
use Rattle.dh_demand.specs.Digests.{digests_at}
use Rattle.dh_demand.specs.Results.{ask_of}
use Rattle.dh_table.specs.Shown.{Shown}
use Rattle.dh_record.specs.Rows.{rows_of}
use Rattle.dh_table.specs.States.{state_of}
use Rattle.dh_record.proofs.ReadBack.{ok_with}
use Rattle.dh_table.proofs.tables.Table.root_digests.Goals as goal

pub returns : goal.returns
returns g c =
    let here = c.args.self.now in
    let t = c.self.inside in
    let asks : ask_of (rows_of here.keys) ≡ outcome_of (state_of here) =
    sym (along (λ v. outcome_of (state_of v) ≡ ask_of (rows_of v.keys)) c.self.view_is c.self.invariant.asks) in
    ok_with c.digests_of.result
    (λ ds h.
    h ∙ ap (λ (v : Shown). digests_at (rows_of v.keys) c.as_slice.result.now) c.self.view_is ∙ ap (digests_at (rows_of here.keys)) c.as_slice.ensures.value ∙ c.in_ok-keys.ensures.digests
    ∙ ap (λ (ask : Ask). digests_behind ask true (term t.root.expr)) asks ∙ ap (λ v. digests_behind (outcome_of (state_of here)) true (state_of v).root) c.self.view_is)
    c.digests_of.ensures
