use Rattle.std.proofs.Common.{◌≡◌, List, ℕ, true, codes, lit<, ◌∙◌, ap, sym}
use Rattle.dh_syntax.specs.Text.Characters.{begins}
use Rattle.dh_syntax.specs.Text.LexTexts.{closing_len}
use Rattle.dh_tokens.proofs.TextSteps.{after_text, closing_whole}
use Rattle.dh_tokens.proofs.texts.text_part.Goals as goal

pub returns-then-closing-gt0-clause-whole : goal.returns-then-closing-gt0-clause-whole
returns-then-closing-gt0-clause-whole c =
    closing_whole c.args.form c.args.rest.now c.closing_len-closing.result c.utf8.rest (c.closing_len-closing.ensures ∙ ap (closing_len c.args.form) c.as_bytes.ensures.value) c.if-closing-gt0.true

pub returns-then-starts_with-clause-whole : goal.returns-then-starts_with-clause-whole
returns-then-starts_with-clause-whole c =
    let bs : List ℕ = c.args.rest.now in
    let opens : begins "${" bs ≡ true = ap (begins "${") (sym c.as_bytes-2.ensures.value) ∙ sym c.starts_with.ensures.value ∙ c.if-starts_with.true in
    after_text (codes "${") bs c.utf8.rest opens (lit< tt) (lit< tt)
