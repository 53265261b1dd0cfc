use Rattle.std.specs.Prelude.{◌≡◌, [], filter}
use Rattle.std.proofs.Common.{ap, sym, ◌∙◌, subst}
use Rattle.dh_record.specs.Reading.{record_by}
use Rattle.dh_watch_laws.specs.Kept.{IsSound}
use Rattle.dh_watch_rows.specs.Inside.Sifting.{Sifting, has_outcome}
use Rattle.dh_watch_rows.specs.KeptRows.{AreGood, kept_by, kept_of}
use Rattle.dh_watch_rows.proofs.Sifted.{sifted-good, sifted-kept, sifting-begins, swept-sound}
use Rattle.dh_watch_rows.proofs.rows.Rows.sweep.Goals as goal

pub sift-requires-clause-begins : goal.sift-requires-clause-begins
sift-requires-clause-begins c =
    let t = c.args.self.now in
    let texts : c.of-texts.result ≡ t.texts.items = c.of-texts.ensures ∙ c.as_slice.ensures.value in
    let looks : c.of-looks.result ≡ t.looks.items = c.of-looks.ensures ∙ c.as_slice-2.ensures.value in
    subst (λ ts. Sifting (record_by ts c.of-looks.result) ts t.keys t.found.items t.keys [] t.found.items) (sym texts)
    (subst (λ ls. Sifting (record_by t.texts.items ls) t.texts.items t.keys t.found.items t.keys [] t.found.items) (sym looks)
    (sifting-begins t.keys t.texts.items t.looks.items t.text_order.numbers.items t.look_order.numbers.items t.found.items t.limited.items c.requires.good c.requires.left))

pub returns-clause-good : goal.returns-clause-good
returns-clause-good c =
    let t = c.args.self.now in
    let texts : c.of-texts.result ≡ t.texts.items = c.of-texts.ensures ∙ c.as_slice.ensures.value in
    let looks : c.of-looks.result ≡ t.looks.items = c.of-looks.ensures ∙ c.as_slice-2.ensures.value in
    let s : Sifting (record_by t.texts.items t.looks.items) t.texts.items t.keys t.found.items c.sift.new.keys c.sift.new.found.items []
    = subst (λ ls. Sifting (record_by t.texts.items ls) t.texts.items t.keys t.found.items c.sift.new.keys c.sift.new.found.items []) looks
    (subst (λ ts. Sifting (record_by ts c.of-looks.result) ts t.keys t.found.items c.sift.new.keys c.sift.new.found.items []) texts c.sift.ensures) in
    let limits : c.keep_known.new.numbers.items ≡ filter (has_outcome c.sift.new.keys) t.limited.items
    = c.keep_known.ensures ∙ ap (λ ks. filter (has_outcome ks) t.limited.items) c.as_slice-3.ensures in
    subst (AreGood c.sift.new.keys t.texts.items t.looks.items t.text_order.numbers.items t.look_order.numbers.items c.sift.new.found.items) (sym limits)
    (sifted-good t.keys t.texts.items t.looks.items t.text_order.numbers.items t.look_order.numbers.items t.found.items t.limited.items c.requires.good c.requires.left c.sift.new.keys c.sift.new.found.items s)

pub returns-clause-kept : goal.returns-clause-kept
returns-clause-kept c =
    let t = c.args.self.now in
    let texts : c.of-texts.result ≡ t.texts.items = c.of-texts.ensures ∙ c.as_slice.ensures.value in
    let looks : c.of-looks.result ≡ t.looks.items = c.of-looks.ensures ∙ c.as_slice-2.ensures.value in
    let s : Sifting (record_by t.texts.items t.looks.items) t.texts.items t.keys t.found.items c.sift.new.keys c.sift.new.found.items []
    = subst (λ ls. Sifting (record_by t.texts.items ls) t.texts.items t.keys t.found.items c.sift.new.keys c.sift.new.found.items []) looks
    (subst (λ ts. Sifting (record_by ts c.of-looks.result) ts t.keys t.found.items c.sift.new.keys c.sift.new.found.items []) texts c.sift.ensures) in
    let limits : c.keep_known.new.numbers.items ≡ filter (has_outcome c.sift.new.keys) t.limited.items
    = c.keep_known.ensures ∙ ap (λ ks. filter (has_outcome ks) t.limited.items) c.as_slice-3.ensures in
    ap (kept_by c.sift.new.keys t.texts.items t.looks.items c.sift.new.found.items) limits
    ∙ sifted-kept t.keys t.texts.items t.looks.items t.text_order.numbers.items t.look_order.numbers.items t.found.items t.limited.items c.requires.good c.requires.left c.sift.new.keys c.sift.new.found.items s

pub returns-clause-sound : goal.returns-clause-sound
returns-clause-sound c =
    let t = c.args.self.now in
    let texts : c.of-texts.result ≡ t.texts.items = c.of-texts.ensures ∙ c.as_slice.ensures.value in
    let looks : c.of-looks.result ≡ t.looks.items = c.of-looks.ensures ∙ c.as_slice-2.ensures.value in
    let s : Sifting (record_by t.texts.items t.looks.items) t.texts.items t.keys t.found.items c.sift.new.keys c.sift.new.found.items []
    = subst (λ ls. Sifting (record_by t.texts.items ls) t.texts.items t.keys t.found.items c.sift.new.keys c.sift.new.found.items []) looks
    (subst (λ ts. Sifting (record_by ts c.of-looks.result) ts t.keys t.found.items c.sift.new.keys c.sift.new.found.items []) texts c.sift.ensures) in
    let limits : c.keep_known.new.numbers.items ≡ filter (has_outcome c.sift.new.keys) t.limited.items
    = c.keep_known.ensures ∙ ap (λ ks. filter (has_outcome ks) t.limited.items) c.as_slice-3.ensures in
    subst IsSound
    (sym (ap (kept_by c.sift.new.keys t.texts.items t.looks.items c.sift.new.found.items) limits
    ∙ sifted-kept t.keys t.texts.items t.looks.items t.text_order.numbers.items t.look_order.numbers.items t.found.items t.limited.items c.requires.good c.requires.left c.sift.new.keys c.sift.new.found.items s))
    (swept-sound (kept_of t) c.requires.left)
