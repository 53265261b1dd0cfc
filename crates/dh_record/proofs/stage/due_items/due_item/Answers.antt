use Rattle.std.proofs.Common.{◌≡◌, sym, subst as along}
use Rattle.std.proofs.lemmas.Result.{IfOk-weaker}
use Rattle.dh_syntax.specs.declared.locations.Key.{Key}
use Rattle.dh_imports.specs.Resolver.{Stage, stage}
use Rattle.dh_demand.specs.Results.{ask_of}
use Rattle.dh_record.specs.Due.{IsItem}
use Rattle.dh_record.specs.Dues.{IsDueOn}
use Rattle.dh_record.specs.Reading.{record_by}
use Rattle.dh_record.specs.Rows.{key_named, rows_of}
use Rattle.dh_record.proofs.Reading.{key_at_names}
use Rattle.dh_record.proofs.stage.due_items.due_item.Goals as goal

pub item-requires-clause-due : goal.item-requires-clause-due
item-requires-clause-due c =
    let keys = c.args.keys.now in
    let s = stage (record_by c.args.texts.now c.args.looks.now) (ask_of (rows_of keys)) (key_named keys c.args.n) in
    (s, along (λ (j : Key). IsDueOn (rows_of keys) j s c.in-Finish.due) (key_at_names keys c.args.n c.key.result.now c.key.ensures) c.in-Finish.ensures.stage)

pub returns-clause-item : goal.returns-clause-item
returns-clause-item c =
    let keys = c.args.keys.now in
    let rows = rows_of keys in
    let k = key_named keys c.args.n in
    let s = stage (record_by c.args.texts.now c.args.looks.now) (ask_of rows) k in
    let named : k ≡ c.key.result.now = key_at_names keys c.args.n c.key.result.now c.key.ensures in
    let due = along (λ (j : Key). IsDueOn rows j s c.in-Finish.due) named c.in-Finish.ensures.stage in
    IfOk-weaker c.item.result (λ i. (x : Stage) → IsDueOn rows c.key.result.now x c.in-Finish.due → IsItem c.key.result.now x i) (IsItem k s) (λ i h. along (λ (j : Key). IsItem j s i) (sym named) (h s due)) c.item.ensures.item
