use Rattle.std.specs.Prelude.{IfOk}
use Rattle.std.proofs.Common.{sym, subst}
use Rattle.dh_record.specs.Due.{AreSpelled, IsItem}
use Rattle.dh_record.specs.Reading.{record_by}
use Rattle.dh_record.specs.Rows.{key_named, rows_of}
use Rattle.dh_demand.specs.Results.{ask_of}
use Rattle.dh_imports.specs.Resolver.{stage}
use Rattle.dh_watch_rows.proofs.Standing.{stage_rows, texts_spelled}
use Rattle.dh_watch_rows.proofs.rows.Rows.item.Goals as goal

pub due_item-requires-clause-spelled : goal.due_item-requires-clause-spelled
due_item-requires-clause-spelled c = subst AreSpelled (sym c.found_texts-texts.ensures) (texts_spelled c.args.self.now c.requires.good)

pub returns-clause-item : goal.returns-clause-item
returns-clause-item c =
    let t = c.args.self.now in
    let k = key_named t.keys c.args.n in
    let ask = ask_of (rows_of t.keys) in
    subst (λ s. IfOk c.due_item.result (IsItem k s)) (sym (stage_rows t c.requires.good k))
    (subst (λ ls. IfOk c.due_item.result (IsItem k (stage (record_by t.texts.items ls) ask k))) c.found_looks-looks.ensures
    (subst (λ ts. IfOk c.due_item.result (IsItem k (stage (record_by ts c.found_looks-looks.result) ask k))) c.found_texts-texts.ensures c.due_item.ensures.item))
