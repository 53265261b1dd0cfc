use Rattle.std.proofs.Common.{◌≡◌, ◌≤◌, List, ℕ, length, ◌∙◌, ap, sym, arith}
use Rattle.dh_syntax.specs.Text.Characters.{begins, line_end_len}
use Rattle.dh_tokens.proofs.TextSteps.{triple_reads, dollar_reads, line_end_reads, tab_reads}
use Rattle.dh_tokens.proofs.texts.multi_line_character.Goals as goal

pub returns-then-starts_with : goal.returns-then-starts_with
returns-then-starts_with c =
    let bs : List ℕ = c.args.rest.now in
    triple_reads bs c.utf8.rest (ap (begins "'''") (sym c.as_bytes-bytes.ensures.value) ∙ sym c.starts_with.ensures.value ∙ c.if-starts_with.true)

pub returns-then-starts_with-2 : goal.returns-then-starts_with-2
returns-then-starts_with-2 c =
    let bs : List ℕ = c.args.rest.now in
    let same = sym c.as_bytes-bytes.ensures.value in
    dollar_reads bs c.utf8.rest (ap (begins "'''") same ∙ sym c.starts_with.ensures.value ∙ c.if-starts_with.false)
    (ap (begins "''${") same ∙ sym c.starts_with-else-starts_with.ensures.value ∙ c.if-starts_with-2.true)

pub returns-then-line_end-gt0 : goal.returns-then-line_end-gt0
returns-then-line_end-gt0 c =
    let bs : List ℕ = c.args.rest.now in
    let n = c.line_end_len-line_end.result in
    let same = sym c.as_bytes-bytes.ensures.value in
    let within : n ≤ length bs = omega (arith, c.line_end_len-line_end.ensures.within, ap length same) in
    line_end_reads bs n c.utf8.rest (ap (begins "'''") same ∙ sym c.starts_with.ensures.value ∙ c.if-starts_with.false)
    (ap (begins "''${") same ∙ sym c.starts_with-else-starts_with.ensures.value ∙ c.if-starts_with-2.false)
    (ap line_end_len same ∙ sym c.line_end_len-line_end.ensures.value) c.if-line_end-gt0.true within

pub returns-then-starts_with-3 : goal.returns-then-starts_with-3
returns-then-starts_with-3 c =
    let bs : List ℕ = c.args.rest.now in
    let n = c.line_end_len-line_end.result in
    let same = sym c.as_bytes-bytes.ensures.value in
    let none : n ≡ 0 = omega arith in
    tab_reads bs n c.utf8.rest (ap (begins "'''") same ∙ sym c.starts_with.ensures.value ∙ c.if-starts_with.false)
    (ap (begins "''${") same ∙ sym c.starts_with-else-starts_with.ensures.value ∙ c.if-starts_with-2.false)
    (ap line_end_len same ∙ sym c.line_end_len-line_end.ensures.value) none
    (ap (begins "\t") same ∙ sym c.starts_with-else-line_end-gt0.ensures.value ∙ c.if-starts_with-3.true)
