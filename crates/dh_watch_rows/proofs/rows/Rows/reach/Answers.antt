use Rattle.std.proofs.Common.{sym, subst}
use Rattle.dh_demand.specs.Results.{ask_of}
use Rattle.dh_imports.specs.Resolver.{stage}
use Rattle.dh_record.specs.Reading.{IsReach, record_by}
use Rattle.dh_record.specs.Rows.{key_named, rows_of}
use Rattle.dh_record.specs.Ways.{IsWay}
use Rattle.dh_watch_rows.proofs.Standing.{rows_way, stage_rows, way_rows}
use Rattle.dh_watch_rows.proofs.rows.Rows.reach.Goals as goal

pub look_on-requires-clause-way : goal.look_on-requires-clause-way
look_on-requires-clause-way c =
    let t = c.args.self.now in
    let k = key_named t.keys c.args.n in
    let ask = ask_of (rows_of t.keys) in
    subst (λ ts. IsWay (record_by ts c.found_looks-looks.result) ask k c.args.way) (sym c.found_texts-texts.ensures)
    (subst (λ ls. IsWay (record_by t.texts.items ls) ask k c.args.way) (sym c.found_looks-looks.ensures) (way_rows t c.requires.good k c.args.way c.requires.way))

pub returns-clause-reach : goal.returns-clause-reach
returns-clause-reach c =
    let t = c.args.self.now in
    let k = key_named t.keys c.args.n in
    let ask = ask_of (rows_of t.keys) in
    subst (λ s. IsReach (rows_of t.keys) k s c.look_on.result.0) (sym (stage_rows t c.requires.good k))
    (subst (λ ls. IsReach (rows_of t.keys) k (stage (record_by t.texts.items ls) ask k) c.look_on.result.0) c.found_looks-looks.ensures
    (subst (λ ts. IsReach (rows_of t.keys) k (stage (record_by ts c.found_looks-looks.result) ask k) c.look_on.result.0) c.found_texts-texts.ensures c.look_on.ensures.reach))

pub returns-clause-way : goal.returns-clause-way
returns-clause-way c =
    let t = c.args.self.now in
    let k = key_named t.keys c.args.n in
    let ask = ask_of (rows_of t.keys) in
    rows_way t c.requires.good k c.look_on.result.1
    (subst (λ ls. IsWay (record_by t.texts.items ls) ask k c.look_on.result.1) c.found_looks-looks.ensures
    (subst (λ ts. IsWay (record_by ts c.found_looks-looks.result) ask k c.look_on.result.1) c.found_texts-texts.ensures c.look_on.ensures.way))
