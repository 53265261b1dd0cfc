use Rattle.std.proofs.Common.{◌≡◌, ◌<◌, List, [], ℕ, ◌++◌, Some, take, drop, ◌∙◌, ap, arith}
use Rattle.std.proofs.lemmas.Slice.{between_from_start}
use Rattle.std.specs.Char.{encode_utf8}
use Rattle.std.specs.String.{string_bytes}
use Rattle.dh_syntax.specs.Text.LexForms.{Form}
use Rattle.dh_syntax.specs.Text.LexTexts.{piece_character}
use Rattle.dh_syntax.specs.Text.Stretches.{stretch, UpTo}
use Rattle.dh_tokens.specs.Inside.Texts.{found_piece}
use Rattle.dh_tokens.proofs.TextSteps.{started, step, plain_front, plain_whole, one_front, ends_past, ends_here, piece_read}
use Rattle.dh_tokens.proofs.texts.piece.Goals as goal
use Rattle.dh_tokens.proofs.texts.piece.Goals.{else-places-test, then-places-test+in-Ends}

pub places-init : goal.places-init
places-init c = started c.args.form c.args.rest.now (string_bytes c.new-text.result) c.utf8.rest c.new-text.ensures.bytes

pub range-requires-clause-end_boundary : goal.range-requires-clause-end_boundary
range-requires-clause-end_boundary c = plain_whole c.in-Plain.len c.range_from-here.result.now c.range_from-here.utf8 c.in-Plain.ensures.1

pub places-preserved-in-Plain : goal.places-preserved-in-Plain
places-preserved-in-Plain c =
    let here : List ℕ = c.range_from-here.result.now in
    let n = c.in-Plain.len in
    let text = string_bytes c.places.text in
    let pushed = c.in_ok-push_str-in-Plain.ensures.bytes ∙ ap (λ l. text ++ l) (c.range.ensures.value ∙ between_from_start here n) in
    step c.args.form c.args.rest.now here text (take n here) (string_bytes c.push_str.new.self) c.places.n n c.places.invariant c.range_from-here.ensures.value
    (plain_front c.args.form n here c.in-Plain.ensures.1) (plain_whole n here c.range_from-here.utf8 c.in-Plain.ensures.1) pushed

pub places-preserved-in-Text : goal.places-preserved-in-Text
places-preserved-in-Text c =
    let here : List ℕ = c.range_from-here.result.now in
    let part : List ℕ = c.in-Text.part.now in
    let n = c.in-Text.len in
    let takes = c.in-Text.ensures.1 in
    step c.args.form c.args.rest.now here (string_bytes c.places.text) part (string_bytes c.push_str-in-Text.new.self) c.places.n n c.places.invariant c.range_from-here.ensures.value
    (one_front (piece_character c.args.form) here part n takes.0 takes.1.0 c.in-Text.ensures.0) takes.1 c.in_ok-push_str-in-Text.ensures.bytes

pub places-preserved : goal.places-preserved
places-preserved c =
    let here : List ℕ = c.range_from-here.result.now in
    let part : List ℕ = encode_utf8 c.in-Escape.c in
    let n = c.in-Escape.len in
    let takes = c.in-Escape.ensures.1 in
    step c.args.form c.args.rest.now here (string_bytes c.places.text) part (string_bytes c.push.new.self) c.places.n n c.places.invariant c.range_from-here.ensures.value
    (one_front (piece_character c.args.form) here part n takes.0 takes.1.0 c.in-Escape.ensures.0) takes.1 c.in_ok-push-in-Escape.ensures.bytes

pub returns-clause-value : goal.returns-clause-value
returns-clause-value c =
    let bs : List ℕ = c.args.rest.now in
    let n = c.places.n in
    let some : 0 < n = omega arith in
    let shown : List ℕ → Form = λ t. record { found = found_piece t; len = n } in
    let end : stretch (piece_character c.args.form) 0 (drop n bs) ≡ UpTo [] 0 = elim c.places-test.branch [
      | else-places-test w ↦ ends_past c.args.form bs n w.places-test.false
      | then-places-test+in-Ends w ↦ ends_here c.args.form bs w.range_from-here.result.now n w.range_from-here.ensures.value w.in-Ends.ensures
    ] in
    ap (λ t. Some (shown t)) c.of.ensures ∙ piece_read c.args.form bs (string_bytes c.places.text) n c.places.invariant end some
