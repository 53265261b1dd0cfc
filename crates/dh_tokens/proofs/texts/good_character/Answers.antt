use Rattle.std.proofs.Common.{List, ℕ, ◌∙◌, ap, sym, subst}
use Rattle.std.proofs.lemmas.Slice.{between_from_start}
use Rattle.std.specs.Str.{IsCharBoundary}
use Rattle.dh_syntax.specs.Text.Characters.{char_len}
use Rattle.dh_tokens.proofs.TextSteps.{first_character, good_reads}
use Rattle.dh_tokens.proofs.texts.good_character.Goals as goal

pub range-requires-clause-end_boundary : goal.range-requires-clause-end_boundary
range-requires-clause-end_boundary c =
    let bs : List ℕ = c.args.rest.now in
    let P : ℕ → Type 0 = λ k. IsCharBoundary bs k in
    subst P (sym (c.char_len-len.ensures.value ∙ ap char_len c.as_bytes-2.ensures.value)) (first_character bs c.utf8.rest c.requires)

pub returns : goal.returns
returns c =
    let bs : List ℕ = c.args.rest.now in
    let n = c.char_len-len.result in
    let P : ℕ → Type 0 = λ k. IsCharBoundary bs k in
    let shown = c.range.ensures.value ∙ between_from_start bs n in (
      good_reads bs c.as_bytes.result.now c.as_bytes-2.result.now c.range.result.now n c.is_good.result c.as_bytes.ensures.value c.is_good.ensures c.if-not-is_good.false c.char_len-len.ensures.value c.as_bytes-2.ensures.value shown,
      (c.char_len-len.ensures.some, subst P (sym (c.char_len-len.ensures.value ∙ ap char_len c.as_bytes-2.ensures.value)) (first_character bs c.utf8.rest c.requires)),
    )
