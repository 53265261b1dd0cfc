use Rattle.std.specs.Prelude.{◌≡◌, ◌<◌, ◌+◌, false, length}
use Rattle.std.proofs.Common.{rules, sym, ◌∙◌, arith, subst as along}
use Rattle.dh_record.specs.Keeping.{AreLeast}
use Rattle.dh_record.proofs.LeastFresh.{place_here, before_here, most_here, least_adds, least_replaces, least_stays}
use Rattle.dh_record.proofs.keeps.fresh.put_least.Goals as goal
use Rattle.dh_record.proofs.keeps.fresh.put_least.Goals.{then-place-len+else-not-is_before, else-place-len}

pub returns-then-is_at_most : goal.returns-then-is_at_most
returns-then-is_at_most c looks marks d f h =
    let keys = c.args.keys.now in
    let rows = c.as_slice-rows.result.now in
    let n = c.args.n in
    let found = c.args.found.now.items in
    let more = c.as_slice.result.now in
    let p = c.place_in-place.result in
    let e = c.index-rows-n.result in
    let other = c.index-other.result.now in
    let there : p < length found = search rules in
    let before : c.is_before.result ≡ false = search rules in
    least_replaces keys looks marks n found h d f c.requires.inside p (place_here keys rows n e found more p c.as_slice-rows.ensures c.requires.inside c.as_slice.ensures.value c.place_in-place.ensures) there
    (before_here keys rows n e found more p c.as_slice-rows.ensures c.requires.inside c.as_slice.ensures.value c.is_before.result other c.is_before.ensures there c.index-other.ensures ∙ before)
    (most_here keys rows n e found more p c.as_slice-rows.ensures c.requires.inside c.as_slice.ensures.value c.is_at_most.result other c.index-rows-n-then-not-is_before.result c.index-rows-other.result c.is_at_most.ensures
    c.index-rows-n-then-not-is_before.is c.index-rows-other.is there c.index-other.ensures c.requires.numbers ∙ c.if-is_at_most.true)

pub returns-else-is_at_most : goal.returns-else-is_at_most
returns-else-is_at_most c looks marks d f h =
    let keys = c.args.keys.now in
    let rows = c.as_slice-rows.result.now in
    let n = c.args.n in
    let found = c.args.found.now.items in
    let more = c.as_slice.result.now in
    let p = c.place_in-place.result in
    let e = c.index-rows-n.result in
    let other = c.index-other.result.now in
    let there : p < length found = search rules in
    let before : c.is_before.result ≡ false = search rules in
    least_stays keys looks marks n found h d f c.requires.inside p (place_here keys rows n e found more p c.as_slice-rows.ensures c.requires.inside c.as_slice.ensures.value c.place_in-place.ensures) there
    (before_here keys rows n e found more p c.as_slice-rows.ensures c.requires.inside c.as_slice.ensures.value c.is_before.result other c.is_before.ensures there c.index-other.ensures ∙ before)
    (most_here keys rows n e found more p c.as_slice-rows.ensures c.requires.inside c.as_slice.ensures.value c.is_at_most.result other c.index-rows-n-then-not-is_before.result c.index-rows-other.result c.is_at_most.ensures
    c.index-rows-n-then-not-is_before.is c.index-rows-other.is there c.index-other.ensures c.requires.numbers ∙ c.if-is_at_most.false)

pub returns : goal.returns
returns c looks marks d f h =
    let keys = c.args.keys.now in
    let rows = c.as_slice-rows.result.now in
    let n = c.args.n in
    let found = c.args.found.now.items in
    let more = c.as_slice.result.now in
    let p = c.place_in-place.result in
    let e = c.index-rows-n.result in
    along (AreLeast keys looks marks (n + 1)) (sym c.in_ok-insert.ensures.items)
    (least_adds keys looks marks n found h d f c.requires.inside p (place_here keys rows n e found more p c.as_slice-rows.ensures c.requires.inside c.as_slice.ensures.value c.place_in-place.ensures)
    (λ there.
    elim c.if-place-len.branch [
      | then-place-len+else-not-is_before w ↦ before_here keys rows n e found more p c.as_slice-rows.ensures c.requires.inside c.as_slice.ensures.value w.is_before.result w.index-other.result.now w.is_before.ensures there w.index-other.ensures ∙ (search rules)
      | else-place-len w ↦ absurd (let k = w.if-place-len.false in let l = c.len.ensures in omega arith)
    ]))
