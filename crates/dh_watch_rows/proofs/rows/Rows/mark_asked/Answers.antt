use Rattle.std.specs.Prelude.{◌⊎◌, ◌++◌, List, Some, refl}
use Rattle.std.proofs.Common.{◌≡◌, sym, ◌∙◌, subst as along, inl, inr, arith}
use Rattle.std.proofs.lemmas.List.{length-map}
use Rattle.dh_syntax.specs.declared.locations.Key.{Key}
use Rattle.dh_syntax.specs.Expressions.Bridge.{term}
use Rattle.dh_imports.specs.Keeps.{asked_by}
use Rattle.dh_imports.specs.Resolver.{plan}
use Rattle.dh_imports.specs.Walk.{course}
use Rattle.dh_demand.specs.Results.{Row, ask_of}
use Rattle.dh_demand.specs.Scans.{text_key}
use Rattle.dh_demand.specs.Wants.{AreMarked}
use Rattle.dh_record.specs.declared.stage.dues.Due.{Due}
use Rattle.dh_record.specs.declared.stage.plans.Plan.{Plan}
use Rattle.dh_record.specs.declared.stage.plans.Plan.TheVariants as plans
use Rattle.dh_record.specs.Reading.{IsPlan, record_by}
use Rattle.dh_record.specs.Rows.{rows_of, key_named, row_of_entrant}
use Rattle.dh_record.proofs.Reading.{key_at_names, plan_limits}
use Rattle.dh_record.proofs.Reaching.{asked_inside}
use Rattle.dh_record.proofs.Visiting.{IsQuiet}
use Rattle.dh_watch_rows.specs.Inside.LoopedRows.{Mark}
use Rattle.dh_watch_rows.specs.KeptRows.{kept_of}
use Rattle.dh_watch_rows.proofs.VisitedRows.{bare-marks, quiet-marks, walk-fits, walk-marks, walk-room}
use Rattle.dh_watch_rows.proofs.rows.Rows.mark_asked.Goals as goal

quiet : (rows : List Row) (k : Key) (r : Plan) → (r ≡ plans.Fetch) ⊎ ((r ≡ plans.Look) ⊎ ((d : Due) × (r ≡ plans.Now d))) → IsQuiet rows k r
quiet rows k r (inl e) = along (IsQuiet rows k) (sym e) tt
quiet rows k r (inr (inl e)) = along (IsQuiet rows k) (sym e) tt
quiet rows k r (inr (inr (d, e))) = along (IsQuiet rows k) (sym e) tt

pub asked-requires-clause-fits : goal.asked-requires-clause-fits
asked-requires-clause-fits g c =
    let keys = c.args.self.now.keys in
    let k = key_named keys c.args.n in
    let p = plan (record_by c.found_texts-texts.result c.found_looks-looks.result) k in
    walk-fits keys (g.R.Results.rows c.args.results.now) c.requires.same k c.key.result.now p c.in-Walk.scan c.in-Walk._allow (key_at_names keys c.args.n c.key.result.now c.key.ensures)
    (along (λ x. IsPlan (rows_of keys) k p x) c.in-Walk.is c.plan_of.ensures.plan)

pub asked-requires-clause-room : goal.asked-requires-clause-room
asked-requires-clause-room g c =
    let keys = c.args.self.now.keys in
    let k = key_named keys c.args.n in
    let p = plan (record_by c.found_texts-texts.result c.found_looks-looks.result) k in
    walk-room keys k p c.in-Walk.scan c.in-Walk._allow c.args.marks.now c.requires.marks (along (λ x. IsPlan (rows_of keys) k p x) c.in-Walk.is c.plan_of.ensures.plan)

pub set-requires : goal.set-requires
set-requires g c =
    let keys = c.args.self.now.keys in
    let k = key_named keys c.args.n in
    let p = plan (record_by c.found_texts-texts.result c.found_looks-looks.result) k in
    let inside = asked_inside (rows_of keys) k p c.in-Ask.key (along (λ x. IsPlan (rows_of keys) k p x) c.in-Ask.is c.plan_of.ensures.plan) in
    let same = length-map keys row_of_entrant in
    omega (arith, c.requires.marks)

pub returns-in-Fetch : goal.returns-in-Fetch
returns-in-Fetch g c =
    let t = c.args.self.now in
    let keys = t.keys in
    let rows = g.R.Results.rows c.args.results.now in
    let k = key_named keys c.args.n in
    let p = plan (record_by c.found_texts-texts.result c.found_looks-looks.result) k in
    record {
      marks = refl;
      mark =
          quiet-marks keys rows c.requires.same k p (plan (kept_of t).recorded k)
          (plan_limits (kept_of t).recorded k ∙ (λ i. plan (record_by (sym c.found_texts-texts.ensures i) (sym c.found_looks-looks.ensures i)) k))
          c.args.marks.now c.plan_of.result (quiet (rows_of keys) k c.plan_of.result c.in-Fetch.is) c.plan_of.ensures.plan;
    }

pub returns-in-Walk-clause-mark : goal.returns-in-Walk-clause-mark
returns-in-Walk-clause-mark g c =
    let t = c.args.self.now in
    let keys = t.keys in
    let rows = g.R.Results.rows c.args.results.now in
    let k = key_named keys c.args.n in
    let p = plan (record_by c.found_texts-texts.result c.found_looks-looks.result) k in
    walk-marks keys rows c.requires.same k p (plan (kept_of t).recorded k)
    (plan_limits (kept_of t).recorded k ∙ (λ i. plan (record_by (sym c.found_texts-texts.ensures i) (sym c.found_looks-looks.ensures i)) k))
    c.args.marks.now c.asked.new.marks c.in-Walk.scan c.in-Walk._allow (along (λ x. IsPlan (rows_of keys) k p x) c.in-Walk.is c.plan_of.ensures.plan)
    (along (λ (j : Key). AreMarked rows (course (text_key (Some j.loc)) (ask_of rows) (term c.in-Walk.scan.now.expr)).asked c.args.marks.now c.asked.new.marks) (sym (key_at_names keys c.args.n c.key.result.now c.key.ensures)) c.asked.ensures)

pub returns-in-Ask-clause-mark : goal.returns-in-Ask-clause-mark
returns-in-Ask-clause-mark g c =
    let t = c.args.self.now in
    let keys = t.keys in
    let rows = g.R.Results.rows c.args.results.now in
    let k = key_named keys c.args.n in
    let p = plan (record_by c.found_texts-texts.result c.found_looks-looks.result) k in
    along (λ ms. (ks : List Key) → Mark keys c.args.marks.now ks → Mark keys ms (asked_by (ask_of rows) k (plan (kept_of t).recorded k) ++ ks)) (sym c.set.ensures)
    (bare-marks keys rows c.requires.same k p (plan (kept_of t).recorded k)
    (plan_limits (kept_of t).recorded k ∙ (λ i. plan (record_by (sym c.found_texts-texts.ensures i) (sym c.found_looks-looks.ensures i)) k))
    c.args.marks.now c.in-Ask.key (along (λ x. IsPlan (rows_of keys) k p x) c.in-Ask.is c.plan_of.ensures.plan))
