use Rattle.std.specs.Prelude.{◌≡◌, ◌<◌, ◌+◌, ℕ, List, Bool, true, take, length, Some, slice_set, refl}
use Rattle.std.proofs.Common.{ap, sym, ◌∙◌, subst, arith, get_or}
use Rattle.std.proofs.lemmas.List.{take_all}
use Rattle.std.proofs.lemmas.List.Elements.{All-get_or}
use Rattle.dh_syntax.specs.declared.locations.Key.{Key}
use Rattle.dh_imports.specs.declared.outcomes.Outcome.TheVariants as variants
use Rattle.dh_imports.specs.declared.outcomes.Why.TheVariants as whys
use Rattle.dh_imports.specs.Outcomes.{Loop}
use Rattle.dh_demand.specs.Results.{ask_of}
use Rattle.dh_record.specs.Rows.{key_named, rows_of}
use Rattle.dh_record.proofs.Reading.{key_at_names}
use Rattle.dh_watch_laws.specs.VisitCounts.{asked_by_all}
use Rattle.dh_watch_rows.specs.Inside.LoopedRows.{Mark, looped_rows}
use Rattle.dh_watch_rows.specs.KeptRows.{kept_of}
use Rattle.dh_watch_rows.proofs.LoopedRows.{looped-same}
use Rattle.dh_watch_rows.proofs.VisitedRows.{asked-more, chained, chained-more, loop-counts, mark-one}
use Rattle.dh_watch_rows.proofs.rows.Rows.count_on_loop.Goals as goal

pub on-preserved : goal.on-preserved
on-preserved c =
    let t = c.args.self.now in
    let chain = c.args.chain.now in
    let i = c.on.n-index in
    let n = get_or chain i 0 in
    let low : i < length chain = omega (arith, c.on-test.true) in
    subst (λ (ms : List Bool). Mark t.keys ms (chained t.keys (take (i + 1) chain))) (sym c.set.ensures)
    (subst (λ (ks : List Key). Mark t.keys (slice_set c.on.on n true) ks) (sym (chained-more t.keys chain i n 0 low refl))
    (mark-one t.keys c.requires.good.distinct c.on.on (chained t.keys (take i chain)) n (All-get_or (λ (x : ℕ). x < length t.keys) chain i 0 low c.requires.chain_inside) c.on.invariant))

pub mark_asked-requires-clause-same : goal.mark_asked-requires-clause-same
mark_asked-requires-clause-same c = looped-same (rows_of c.args.self.now.keys) c.on.on (variants.Bad (record { at = Some c.in_ok-at.at; why = whys.Cycle }))

pub asked-preserved : goal.asked-preserved
asked-preserved c =
    let t = c.args.self.now in
    let chain = c.args.chain.now in
    let i = c.asked.n-index in
    let r = (kept_of t).recorded in
    let ask = ask_of (looped_rows (rows_of t.keys) c.on.on (variants.Bad (record { at = Some c.in_ok-at.at; why = whys.Cycle }))) in
    let low : i < length chain = omega (arith, c.asked-test.true) in
    subst (Mark t.keys c.mark_asked.new.marks) (asked-more t.keys r ask chain i (get_or chain i 0) 0 low refl)
    (c.mark_asked.ensures.mark (asked_by_all r ask (chained t.keys (take i chain))) c.asked.invariant)

pub count_marked-requires-clause-same : goal.count_marked-requires-clause-same
count_marked-requires-clause-same c = looped-same (rows_of c.args.self.now.keys) c.on.on (variants.Bad (record { at = Some c.in_ok-at.at; why = whys.Cycle }))

pub returns : goal.returns
returns c =
    let t = c.args.self.now in
    let chain = c.args.chain.now in
    let r = (kept_of t).recorded in
    let end = variants.Bad (record { at = Some c.in_ok-at.at; why = whys.Cycle }) in
    let ask = ask_of (looped_rows (rows_of t.keys) c.on.on end) in
    let at : c.in_ok-at.at ≡ key_named t.keys c.args.least = c.in_ok-at.ensures ∙ sym (key_at_names t.keys c.args.least c.key.result.now c.key.ensures) in
    let on = subst (λ (ns : List ℕ). Mark t.keys c.on.on (chained t.keys ns)) (take_all c.on.n-index chain (omega (arith, c.on-test.false))) c.on.invariant in
    let marks = subst (λ (ns : List ℕ). Mark t.keys c.asked.marks (asked_by_all r ask (chained t.keys ns))) (take_all c.asked.n-index chain (omega (arith, c.asked-test.false))) c.asked.invariant in
    loop-counts t c.requires.good c.requires.sound chain c.args.least c.count_marked.result c.on.on end (ap Loop at) on (c.count_marked.ensures.count (asked_by_all r ask (chained t.keys chain)) marks)
