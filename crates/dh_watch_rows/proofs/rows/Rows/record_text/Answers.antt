use Rattle.std.specs.Prelude.{◌≡◌, List, [], ◌∷◌, ◌++◌, map, Some, None}
use Rattle.std.proofs.Common.{ap, sym, ◌∙◌, subst}
use Rattle.dh_syntax.specs.Imports.Keys.{loc_rank}
use Rattle.dh_imports.specs.Records.{IsParsed}
use Rattle.dh_record.specs.declared.news.Noted.TheVariants as noteds
use Rattle.dh_record.specs.declared.rows.recorded.Text.{Text}
use Rattle.dh_record.specs.Brought.{imports_of, read_of}
use Rattle.dh_record.specs.Entering.{AreEdges, AreMore, entered_all, keys_in}
use Rattle.dh_record.specs.Rows.{noted_by, parsed_by, rows_of}
use Rattle.dh_record.specs.Sorting.{IsOrder, IsRanked, rank_of_text}
use Rattle.dh_record.proofs.Recorded.{order_grown, text_new}
use Rattle.dh_watch_laws.specs.Kept.{keep_text}
use Rattle.dh_watch_rows.specs.KeptRows.{AreGood, kept_by}
use Rattle.dh_watch_rows.proofs.Growing.{noted_same, is_parsed, is_read}
use Rattle.dh_watch_rows.proofs.RecordedRows.{keys-good, keys-kept, text-good, text-kept}
use Rattle.dh_watch_rows.proofs.rows.Rows.record_text.Goals as goal

pub insert-requires-clause-new : goal.insert-requires-clause-new
insert-requires-clause-new c =
    subst (λ (ts : List Text). IsRanked (map rank_of_text ts) (loc_rank c.args.loc) None) (sym (c.as_slice-rows.ensures.value ∙ c.room_for.ensures.items))
    (text_new c.args.loc c.args.self.now.texts.items c.requires.new)

pub returns-clause-good : goal.returns-clause-good
returns-clause-good c =
    let t = c.args.self.now in
    let g = c.requires.good in
    let l = c.args.loc in
    let got = noteds.Got c.args.got in
    let scan = c.args.scan in
    let keys' = c.room_for.new.keys in
    let edges = c.in_ok-edges.edges in
    let m : AreMore t.keys (entered_all (keys_in t.keys) (imports_of scan)) keys' = subst (λ ks. AreMore t.keys (entered_all (keys_in t.keys) ks) keys') c.imports_of.ensures c.in_ok-edges.ensures.entered in
    let text : Text = record { loc = l; got = got; read = read_of scan edges } in
    let ends : AreEdges (Some l) (rows_of keys') (imports_of scan) edges = subst (λ ks. AreEdges (Some l) (rows_of keys') ks edges) c.imports_of.ensures c.in_ok-edges.ensures.edges in
    let texts : c.put.new.v.items ≡ t.texts.items ++ text ∷ [] =
    c.put.ensures.items ∙ (λ i. c.room_for.ensures.items i ++ record { loc = l; got = got; read = c.read_of-read.ensures i } ∷ []) in
    let order : IsOrder (map rank_of_text (t.texts.items ++ text ∷ [])) c.insert.new.self.numbers.items =
    order_grown rank_of_text c.as_slice-rows.result.now c.room_for.new.texts.items (t.texts.items ++ text ∷ []) text c.insert.new.self.numbers.items c.as_slice-rows.ensures.value
    (ap (λ ts. ts ++ text ∷ []) (sym c.room_for.ensures.items)) c.insert.ensures in
    let grown = keys-good t.keys t.texts.items t.looks.items t.text_order.numbers.items t.look_order.numbers.items t.found.items t.limited.items g keys' (imports_of scan) m c.in_ok-edges.ensures.few in
    subst (λ ts. AreGood keys' ts t.looks.items c.insert.new.self.numbers.items t.look_order.numbers.items t.found.items t.limited.items) (sym texts)
    (text-good keys' t.texts.items t.looks.items t.text_order.numbers.items t.look_order.numbers.items t.found.items t.limited.items grown text c.insert.new.self.numbers.items order
    (is_read (rows_of keys') l got scan edges c.requires.scanned ends)
    (subst IsParsed (sym (noted_same got scan edges)) (is_parsed l got scan c.requires.scanned)))

pub returns-clause-kept : goal.returns-clause-kept
returns-clause-kept c =
    let t = c.args.self.now in
    let g = c.requires.good in
    let l = c.args.loc in
    let got = noteds.Got c.args.got in
    let scan = c.args.scan in
    let keys' = c.room_for.new.keys in
    let edges = c.in_ok-edges.edges in
    let m : AreMore t.keys (entered_all (keys_in t.keys) (imports_of scan)) keys' = subst (λ ks. AreMore t.keys (entered_all (keys_in t.keys) ks) keys') c.imports_of.ensures c.in_ok-edges.ensures.entered in
    let text : Text = record { loc = l; got = got; read = read_of scan edges } in
    let ends : AreEdges (Some l) (rows_of keys') (imports_of scan) edges = subst (λ ks. AreEdges (Some l) (rows_of keys') ks edges) c.imports_of.ensures c.in_ok-edges.ensures.edges in
    let texts : c.put.new.v.items ≡ t.texts.items ++ text ∷ [] =
    c.put.ensures.items ∙ (λ i. c.room_for.ensures.items i ++ record { loc = l; got = got; read = c.read_of-read.ensures i } ∷ []) in
    let order : IsOrder (map rank_of_text (t.texts.items ++ text ∷ [])) c.insert.new.self.numbers.items =
    order_grown rank_of_text c.as_slice-rows.result.now c.room_for.new.texts.items (t.texts.items ++ text ∷ []) text c.insert.new.self.numbers.items c.as_slice-rows.ensures.value
    (ap (λ ts. ts ++ text ∷ []) (sym c.room_for.ensures.items)) c.insert.ensures in
    let grown = keys-good t.keys t.texts.items t.looks.items t.text_order.numbers.items t.look_order.numbers.items t.found.items t.limited.items g keys' (imports_of scan) m c.in_ok-edges.ensures.few in
    let parsed = subst IsParsed (sym (noted_same got scan edges)) (is_parsed l got scan c.requires.scanned) in
    ap (λ ts. kept_by keys' ts t.looks.items t.found.items t.limited.items) texts
    ∙ text-kept keys' t.texts.items t.looks.items t.text_order.numbers.items t.look_order.numbers.items t.found.items t.limited.items grown text c.insert.new.self.numbers.items order
    (is_read (rows_of keys') l got scan edges c.requires.scanned ends) parsed
    ∙ ap (keep_text (kept_by keys' t.texts.items t.looks.items t.found.items t.limited.items) l) (noted_same got scan edges)
    ∙ ap (λ s. keep_text s l (noted_by got (parsed_by scan)))
    (keys-kept t.keys t.texts.items t.looks.items t.text_order.numbers.items t.look_order.numbers.items t.found.items t.limited.items g keys' (imports_of scan) m c.in_ok-edges.ensures.few)
