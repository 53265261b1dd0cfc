use Rattle.std.proofs.Common.{subst as along}
use Rattle.dh_syntax.specs.declared.locations.Key.{Key}
use Rattle.dh_imports.specs.Resolver.{stage}
use Rattle.dh_demand.specs.Results.{ask_of}
use Rattle.dh_record.specs.Dues.{IsDueOn}
use Rattle.dh_record.specs.Reading.{record_by}
use Rattle.dh_record.specs.Rows.{key_named, rows_of}
use Rattle.dh_record.proofs.Reading.{key_at_names}
use Rattle.dh_record.proofs.stage.own_items.is_own_item.Goals as goal

pub is_item-requires : goal.is_item-requires
is_item-requires c =
    let keys = c.args.keys.now in
    let s = stage (record_by c.args.texts.now c.args.looks.now) (ask_of (rows_of keys)) (key_named keys c.args.n) in
    (s, along (λ (j : Key). IsDueOn (rows_of keys) j s c.in-Finish.due) (key_at_names keys c.args.n c.key.result.now c.key.ensures) c.in-Finish.ensures.stage)

pub returns-in-Finish : goal.returns-in-Finish
returns-in-Finish c =
    let keys = c.args.keys.now in
    let s = stage (record_by c.args.texts.now c.args.looks.now) (ask_of (rows_of keys)) (key_named keys c.args.n) in
    c.is_item.ensures s (along (λ (j : Key). IsDueOn (rows_of keys) j s c.in-Finish.due) (key_at_names keys c.args.n c.key.result.now c.key.ensures) c.in-Finish.ensures.stage)
