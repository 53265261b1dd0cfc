use Rattle.std.proofs.Common.{◌≡◌, ◌∙◌, None, sym, ap, subst as along}
use Rattle.dh_syntax.specs.Expressions.Bridge.{term}
use Rattle.dh_imports.specs.Machine.{outcome_of}
use Rattle.dh_imports.specs.TextPaths.{text_path}
use Rattle.dh_imports.specs.Walk.{Ask}
use Rattle.dh_demand.specs.Results.{ask_of}
use Rattle.dh_record.specs.Rows.{rows_of}
use Rattle.dh_table.specs.States.{state_of}
use Rattle.dh_record.proofs.ReadBack.{ok_with}
use Rattle.dh_table.proofs.tables.Table.root_path.Goals as goal

pub returns : goal.returns
returns g c =
    let asks : ask_of (rows_of c.args.self.now.keys) ≡ outcome_of (state_of c.args.self.now) =
    sym (along (λ v. outcome_of (state_of v) ≡ ask_of (rows_of v.keys)) c.self.view_is c.self.invariant.asks) in
    let here = c.args.self.now in
    ok_with c.text_path.result
    (λ p h. h ∙ ap (λ (ask : Ask). text_path None ask (term c.self.inside.root.expr) c.args.path.now) asks ∙ ap (λ v. text_path None (outcome_of (state_of here)) (state_of v).root c.args.path.now) c.self.view_is)
    c.text_path.ensures
