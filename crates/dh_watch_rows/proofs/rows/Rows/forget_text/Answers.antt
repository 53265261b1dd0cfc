use Rattle.std.specs.Prelude.{List, map, Some, None, refl}
use Rattle.std.specs.List.{remove}
use Rattle.std.proofs.Common.{sym, subst}
use Rattle.dh_syntax.specs.Imports.Keys.{loc_rank}
use Rattle.dh_record.specs.declared.rows.recorded.Text.{Text}
use Rattle.dh_record.specs.Sorting.{IsRanked, rank_of_text}
use Rattle.dh_record.proofs.Recorded.{text_none}
use Rattle.dh_watch_rows.specs.KeptRows.{AreGood, kept_by, kept_of}
use Rattle.dh_watch_rows.specs.Removing.{Forgets}
use Rattle.dh_watch_rows.proofs.Removing.{ranked-there, removed-good, removed-forgets}
use Rattle.dh_watch_rows.proofs.rows.Rows.forget_text.Goals as goal

pub returns-in_default-clause-forgets : goal.returns-in_default-clause-forgets
returns-in_default-clause-forgets c =
    let t = c.args.self.now in
    let ranked = subst (λ (ts : List Text). IsRanked (map rank_of_text ts) (loc_rank c.args.loc.now) None) c.as_slice.ensures.value c.in_default.ensures in
    record { gone = sym (text_none c.args.loc.now t.texts.items ranked); others = λ x n. refl; looks = refl; limits = refl; outcomes = refl }

pub returns-clause-good : goal.returns-clause-good
returns-clause-good c =
    let t = c.args.self.now in
    let n = c.in-Some.number in
    let d = c.remove-text.result in
    let ranked = subst (λ (ts : List Text). IsRanked (map rank_of_text ts) (loc_rank c.args.loc.now) (Some n)) c.as_slice.ensures.value c.in-Some.ensures in
    let at = ranked-there t.texts.items d c.args.loc.now n ranked in
    subst (λ ts. AreGood t.keys ts t.looks.items c.close_gap.new.order.numbers.items t.look_order.numbers.items t.found.items t.limited.items) (sym c.remove-text.ensures.items)
    (subst (λ ns. AreGood t.keys (remove t.texts.items n) t.looks.items ns t.look_order.numbers.items t.found.items t.limited.items) (sym c.close_gap.ensures)
    (removed-good t.keys t.texts.items t.looks.items t.text_order.numbers.items t.look_order.numbers.items t.found.items t.limited.items c.requires.good n d at.0))

pub returns-clause-forgets : goal.returns-clause-forgets
returns-clause-forgets c =
    let t = c.args.self.now in
    let n = c.in-Some.number in
    let d = c.remove-text.result in
    let ranked = subst (λ (ts : List Text). IsRanked (map rank_of_text ts) (loc_rank c.args.loc.now) (Some n)) c.as_slice.ensures.value c.in-Some.ensures in
    let at = ranked-there t.texts.items d c.args.loc.now n ranked in
    subst (λ ts. Forgets (kept_of t) c.args.loc.now (kept_by t.keys ts t.looks.items t.found.items t.limited.items)) (sym c.remove-text.ensures.items)
    (removed-forgets t.keys t.texts.items t.looks.items t.text_order.numbers.items t.look_order.numbers.items t.found.items t.limited.items c.requires.good n d at.0 c.args.loc.now at.1)
