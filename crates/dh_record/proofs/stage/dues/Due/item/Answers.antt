use Rattle.std.proofs.Common.{◌≡◌, sym, Some, subst as along}
use Rattle.std.proofs.lemmas.Result.{IfOk-weaker}
use Rattle.dh_syntax.specs.Expressions.Bridge.{term}
use Rattle.dh_imports.specs.Resolver.{Stage}
use Rattle.dh_demand.specs.Scans.{text_key}
use Rattle.dh_record.specs.declared.items.Body.TheVariants as body
use Rattle.dh_record.specs.declared.items.Item.{Item}
use Rattle.dh_record.specs.Due.{IsItem}
use Rattle.dh_record.specs.Dues.{IsDueOn, IsFitDue}
use Rattle.dh_record.specs.Rows.{rows_of}
use Rattle.dh_record.specs.Values.{IsCode, IsFit}
use Rattle.dh_record.proofs.DueItems.{code_fits}
use Rattle.dh_record.proofs.Stages.{assembled_item}
use Rattle.dh_record.proofs.stage.dues.Due.item.Goals as goal

pub returns-in_ok-assemble-in-Code-clause-item : goal.returns-in_ok-assemble-in-Code-clause-item
returns-in_ok-assemble-in-Code-clause-item c =
    let rows = rows_of c.args.keys.now in
    let k = c.args.key.now in
    let code = c.in_ok-assemble-in-Code.field-0 in
    let a = c.in_ok-allow-in-Code.allow in
    IfOk-weaker c.item_of.result (λ (i : Item). i ≡ record { key = k; allow = a; body = body.Code code }) (λ i. (s : Stage) → IsDueOn rows k s c.args.self → IsItem k s i)
    (λ i p s h.
    assembled_item rows k s c.in-Code.scan.now c.in-Code.allow.now a code i p c.in_ok-allow-in-Code.ensures (λ v r. c.in_ok-assemble-in-Code.ensures (Some k.loc) v r) (along (λ d. IsDueOn rows k s d) c.in-Code.is h))
    c.item_of.ensures

pub returns-in_ok-assemble-in-Code-clause-fits : goal.returns-in_ok-assemble-in-Code-clause-fits
returns-in_ok-assemble-in-Code-clause-fits c =
    let rows = rows_of c.args.keys.now in
    let k = c.args.key.now in
    let code = c.in_ok-assemble-in-Code.field-0 in
    let x = c.requires.due in
    let h = along (λ d. IsDueOn rows k x.0 d) c.in-Code.is x.1 in
    let spelled = along IsFitDue c.in-Code.is c.requires.fit in
    IfOk-weaker c.item_of.result (λ (i : Item). i ≡ record { key = k; allow = c.in_ok-allow-in-Code.allow; body = body.Code code }) (λ i. IsFit i.body)
    (λ i p.
    along (λ (y : Item). IsFit y.body) (sym p)
    (along IsCode (sym (c.in_ok-assemble-in-Code.ensures (Some k.loc) h.value h.ready)) (code_fits (text_key (Some k.loc)) c.args.keys.now (term c.in-Code.scan.now.expr) h.value c.requires.valued spelled h.ready.ready)))
    c.item_of.ensures
