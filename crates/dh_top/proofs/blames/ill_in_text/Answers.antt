use Rattle.std.proofs.Common.{◌≡◌, refl, sym, ◌∙◌, subst, List, ℕ, Ok}
use Rattle.dh_syntax.specs.Text.Spelling.{ParsesTo}
use Rattle.dh_laws.proofs.KeyOrder.{some-equal}
use Rattle.dh_top.proofs.Resolutions.{told_in_text, stands_found, stands_parsed}
use Rattle.dh_top.proofs.blames.ill_in_text.Goals as goal

pub ill_reply-requires : goal.ill_reply-requires
ill_reply-requires g c =
    let s = c.requires.stands in
    let here = stands_found c.args.table.now c.args.blame.now c.args.ill.now c.in-Some.key c.in-Some.is s in
    let text_is : c.in-Some-bytes_at.text.now ≡ s.text = some-equal (c.in-Some-bytes_at.ensures.found s.text s.reading.allow s.spelled here) in
    record { spelled = (s.spelled, subst (λ u. ParsesTo u (Ok s.spelled)) (sym text_is) (stands_parsed c.args.table.now c.args.blame.now c.args.ill.now c.by_history.ensures s)) }

pub returns : goal.returns
returns g c =
    let s = c.requires.stands in
    let here = stands_found c.args.table.now c.args.blame.now c.args.ill.now c.in-Some.key c.in-Some.is s in
    let text_is : c.in-Some-bytes_at.text.now ≡ s.text = some-equal (c.in-Some-bytes_at.ensures.found s.text s.reading.allow s.spelled here) in
    told_in_text c.ill_reply.result c.args.table.now c.args.blame.now c.args.ill.now c.in-Some.key _ c.in-Some-bytes_at.text.now c.as_slice-2.result.now c.as_slice.result.now
    c.by_history.ensures c.requires.told s c.in-Some.is refl text_is c.as_slice.ensures (λ bytes allow e h. c.as_slice-2.ensures.value ∙ c.in_ok-path.ensures.found bytes allow e h) c.ill_reply.ensures
