use Rattle.std.specs.Prelude.{[], ◌∷◌}
use Rattle.dh_watch_rows.proofs.RecordedRows.{keys-good, keys-kept}
use Rattle.dh_watch_rows.proofs.rows.Rows.enter.Goals as goal

pub returns-in-Ok-clause-good : goal.returns-in-Ok-clause-good
returns-in-Ok-clause-good c =
    let t = c.args.self.now in
    keys-good t.keys t.texts.items t.looks.items t.text_order.numbers.items t.look_order.numbers.items t.found.items t.limited.items c.requires c.enter_all.new.keys (c.args.key ∷ []) c.in-Ok.ensures.entered c.in-Ok.ensures.few

pub returns-in-Ok-clause-kept : goal.returns-in-Ok-clause-kept
returns-in-Ok-clause-kept c =
    let t = c.args.self.now in
    keys-kept t.keys t.texts.items t.looks.items t.text_order.numbers.items t.look_order.numbers.items t.found.items t.limited.items c.requires c.enter_all.new.keys (c.args.key ∷ []) c.in-Ok.ensures.entered c.in-Ok.ensures.few
