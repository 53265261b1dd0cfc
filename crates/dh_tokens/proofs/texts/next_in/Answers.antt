use Rattle.std.proofs.Common.{◌≡◌, List, ℕ, ◌∙◌, ap, sym, arith}
use Rattle.dh_syntax.specs.Text.Characters.{begins}
use Rattle.dh_syntax.specs.Text.LexTexts.{closing_len, character_of, double_quoted_character, multi_line_character}
use Rattle.dh_tokens.proofs.TextSteps.{goes_on, next_from}
use Rattle.dh_tokens.proofs.texts.next_in.Goals as goal

pub returns-in-DoubleQuoted : goal.returns-in-DoubleQuoted
returns-in-DoubleQuoted c =
    let bs : List ℕ = c.args.rest.now in
    let form = c.args.form in
    let same = sym c.as_bytes-bytes.ensures.value in
    let none : c.closing_len.result ≡ 0 = omega arith in
    let more = goes_on form bs c.closing_len.result c.starts_with.result (ap (closing_len form) same ∙ sym c.closing_len.ensures) (ap (begins "${") same ∙ sym c.starts_with.ensures.value) none c.if-starts_with.false in
    next_from form c.double_quoted_character.result bs (double_quoted_character bs) (more ∙ ap (λ f. character_of f bs) c.in-DoubleQuoted.is) c.double_quoted_character.ensures

pub returns-in-MultiLine : goal.returns-in-MultiLine
returns-in-MultiLine c =
    let bs : List ℕ = c.args.rest.now in
    let form = c.args.form in
    let same = sym c.as_bytes-bytes.ensures.value in
    let none : c.closing_len.result ≡ 0 = omega arith in
    let more = goes_on form bs c.closing_len.result c.starts_with.result (ap (closing_len form) same ∙ sym c.closing_len.ensures) (ap (begins "${") same ∙ sym c.starts_with.ensures.value) none c.if-starts_with.false in
    next_from form c.multi_line_character.result bs (multi_line_character bs) (more ∙ ap (λ f. character_of f bs) c.in-MultiLine.is) c.multi_line_character.ensures
