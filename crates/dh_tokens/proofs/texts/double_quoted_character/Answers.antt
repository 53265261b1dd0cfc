use Rattle.std.proofs.Common.{◌≡◌, List, ℕ, true, codes, lit<, ◌∙◌, ap, sym}
use Rattle.dh_syntax.specs.Text.Characters.{begins}
use Rattle.dh_tokens.proofs.TextSteps.{after_text, escape_reads}
use Rattle.dh_tokens.proofs.texts.double_quoted_character.Goals as goal

pub range_from-requires : goal.range_from-requires
range_from-requires c =
    let bs : List ℕ = c.args.rest.now in
    let opens : begins "\\" bs ≡ true = ap (begins "\\") (sym c.as_bytes.ensures.value) ∙ sym c.starts_with.ensures.value ∙ c.if-not-starts_with.false in
    λ _. after_text (codes "\\") bs c.utf8.rest opens (lit< tt) (lit< tt)

pub returns-in-Some : goal.returns-in-Some
returns-in-Some c =
    let bs : List ℕ = c.args.rest.now in
    let opens : begins "\\" bs ≡ true = ap (begins "\\") (sym c.as_bytes.ensures.value) ∙ sym c.starts_with.ensures.value ∙ c.if-not-starts_with.false in
    escape_reads bs c.range_from.result.now c.in-Some.c c.in-Some.len opens c.requires c.range_from.ensures.value c.in-Some.ensures
