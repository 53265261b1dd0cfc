use Rattle.std.specs.Prelude.{◌≡◌, List, Bool, true, false, [], ◌∷◌, replicate, slice_set}
use Rattle.std.proofs.Common.{ap, sym, ◌∙◌, subst, arith, rules}
use Rattle.dh_record.specs.Rows.{key_named}
use Rattle.dh_watch_rows.specs.Inside.LoopedRows.{Mark}
use Rattle.dh_watch_rows.proofs.VisitedRows.{mark-none, mark-one, visited-counts}
use Rattle.dh_watch_rows.proofs.rows.Rows.count_visited.Goals as goal

pub returns : goal.returns
returns c =
    let t = c.args.self.now in
    let root = c.args.root in
    let marks : c.set.new.self ≡ slice_set (replicate c.len.result false) root true = c.set.ensures ∙ ap (λ ms. slice_set ms root true) (c.of-marks.ensures ∙ c.in_ok-vec.ensures.items_if_clones_equal (λ y h. search rules)) in
    visited-counts t c.requires.good c.requires.sound root c.count_marked.result c.requires.decided
    (c.count_marked.ensures.count (key_named t.keys root ∷ [])
    (subst (λ (ms : List Bool). Mark t.keys ms (key_named t.keys root ∷ [])) (sym marks)
    (mark-one t.keys c.requires.good.distinct (replicate c.len.result false) [] root c.requires.inside (mark-none t.keys c.len.result (omega (arith, c.len.ensures))))))
