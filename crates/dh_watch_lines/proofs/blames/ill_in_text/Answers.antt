use Rattle.std.proofs.Common.{◌≡◌, refl, sym, ◌∙◌, subst, Ok}
use Rattle.dh_laws.proofs.KeyOrder.{some-equal}
use Rattle.dh_syntax.specs.Text.Spelling.{ParsesTo}
use Rattle.dh_watch_laws.specs.Kept.{known}
use Rattle.dh_watch_lines.proofs.BlameLines.{stands_found, stands_parsed, told_in_text}
use Rattle.dh_watch_lines.proofs.blames.ill_in_text.Goals as goal
use Rattle.dh_watch_rows.specs.KeptRows.{kept_of}

pub place_told-requires : goal.place_told-requires
place_told-requires c =
    let s = c.requires.stands in
    let t = kept_of c.args.rows.now in
    let here = stands_found t.recorded (known t.outcomes) c.args.blame.now c.args.ill.now c.in-Some.key c.in-Some.is s in
    let text_is : c.in-Some-bytes_at.text.now ≡ s.text = some-equal (c.in-Some-bytes_at.ensures s.text s.reading.allow s.spelled here) in
    record { spelled = (s.spelled, subst (λ u. ParsesTo u (Ok s.spelled)) (sym text_is) (stands_parsed c.args.rows.now (known t.outcomes) c.args.blame.now c.args.ill.now c.requires.good s)) }

pub returns : goal.returns
returns c =
    let s = c.requires.stands in
    let t = kept_of c.args.rows.now in
    let here = stands_found t.recorded (known t.outcomes) c.args.blame.now c.args.ill.now c.in-Some.key c.in-Some.is s in
    let text_is : c.in-Some-bytes_at.text.now ≡ s.text = some-equal (c.in-Some-bytes_at.ensures s.text s.reading.allow s.spelled here) in
    told_in_text c.place_told.result c.args.rows.now c.args.blame.now c.args.ill.now c.in-Some.key _ c.in-Some-bytes_at.text.now c.as_slice-2.result.now c.as_slice.result.now
    c.requires.good c.requires.told s c.in-Some.is refl text_is c.as_slice.ensures (λ bytes allow e h. c.as_slice-2.ensures.value ∙ c.in_ok-path.ensures bytes allow e h) c.place_told.ensures
