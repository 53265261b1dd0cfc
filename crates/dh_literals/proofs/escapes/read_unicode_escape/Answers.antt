use Rattle.std.proofs.Common.{Some, ◌∙◌, lit<, arith}
use Rattle.std.proofs.lemmas.Str.Pattern.{starts_char, strip_prefix_char}
use Rattle.dh_literals.proofs.Fronts.{text_after}
use Rattle.dh_literals.proofs.EscapesRead.{hexadecimal_boundary, four_too_few, four_none, four_some, braced_open, braced_some, no_digits, closed_by}
use Rattle.dh_literals.proofs.escapes.read_unicode_escape.Goals as goal
use Rattle.dh_literals.proofs.escapes.read_unicode_escape.Goals.{then-count-eq0-via-then-count-eq0, then-count-eq0-via-else-count-eq0+then-not-starts_with}

pub returns-then-hexadecimal_len-lt4 : goal.returns-then-hexadecimal_len-lt4
returns-then-hexadecimal_len-lt4 c = four_too_few c.args.text.now c.in_default.ensures.cases (omega arith)

pub returns-in_err-named : goal.returns-in_err-named
returns-in_err-named c = rw c.from_residual.ensures (four_none c.args.text.now (omega arith) c.in_err-named.ensures)

pub returns-in_default : goal.returns-in_default
returns-in_default c = four_some c.args.text.now c.in_ok-named.field-0 c.utf8.text (omega arith) c.in_ok-named.ensures

pub range_from-requires : goal.range_from-requires
range_from-requires c =
    let opened = strip_prefix_char 123 c.args.text.now (Some c.in-Some.braced) c.in-Some.ensures.cases (lit< tt) in
    λ _. hexadecimal_boundary c.hexadecimal_len-count.result c.in-Some.braced.now (text_after 123 c.args.text.now c.in-Some.braced.now (lit< tt) c.utf8.text opened) (omega arith)

pub returns-then-count-eq0 : goal.returns-then-count-eq0
returns-then-count-eq0 c =
    let opened = strip_prefix_char 123 c.args.text.now (Some c.in-Some.braced) c.in-Some.ensures.cases (lit< tt) in
    let ds = c.in-Some.braced.now in
    let n = c.hexadecimal_len-count.result in
    elim c.then-count-eq0.branch [
      | then-count-eq0-via-then-count-eq0 w ↦ braced_open c.args.text.now ds n opened c.hexadecimal_len-count.ensures (no_digits n ds w.if-count-eq0.true)
      | then-count-eq0-via-else-count-eq0+then-not-starts_with w ↦
          braced_open c.args.text.now ds n opened c.hexadecimal_len-count.ensures
          (closed_by w.starts_with.result n ds w.range_from.result.now (omega arith) w.range_from.ensures.value (starts_char 125 w.range_from.result.now w.starts_with.result w.starts_with.ensures.cases (lit< tt) (lit< tt)) ∙ w.if-not-starts_with.true)
    ]

pub returns : goal.returns
returns c =
    let opened = strip_prefix_char 123 c.args.text.now (Some c.in-Some.braced) c.in-Some.ensures.cases (lit< tt) in
    let ds = c.in-Some.braced.now in
    let n = c.hexadecimal_len-count.result in
    braced_some c.args.text.now ds c.in_ok-named-2.field-0 n c.utf8.text opened c.hexadecimal_len-count.ensures
    (closed_by c.starts_with.result n ds c.range_from.result.now (omega arith) c.range_from.ensures.value (starts_char 125 c.range_from.result.now c.starts_with.result c.starts_with.ensures.cases (lit< tt) (lit< tt)) ∙ c.if-not-starts_with.false)
    c.in_ok-named-2.ensures
