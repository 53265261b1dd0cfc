use Rattle.std.proofs.Common.{rules, ◌≡◌, suc, ◌+◌, ◌-◌, ◌++◌, drop, take, slice_index, string_bytes, ap, ◌∙◌, arith}
use Rattle.std.proofs.lemmas.Str.{IsCharBoundary-after_ascii}
use Rattle.dh_syntax.specs.Text.Literals.{escape, escape_byte}
use Rattle.dh_literals.proofs.EscapesWritten.{escaped_ascii, run_written}
use Rattle.dh_literals.proofs.escaping.push_escaped_str.Goals as goal

pub range_from-rest-requires : goal.range_from-rest-requires
range_from-rest-requires c =
    let rest = c.loop-at.rest.now in
    λ _. IsCharBoundary-after_ascii rest c.in-Some.at (search rules) c.in-Some.ensures.0 (escaped_ascii (slice_index rest c.in-Some.at) c.in-Some.ensures.2)

pub loop-at-preserved : goal.loop-at-preserved
loop-at-preserved c =
    let text = string_bytes c.loop-at.text in
    let one = string_bytes c.push_str.new.self in
    let at = c.in-Some.at in
    let up_to : at - 0 ≡ at = omega arith in
    let behind : at + 1 ≡ suc at = omega arith in (
      search rules,
      run_written text one (string_bytes c.push_escape.new.text) c.loop-at.rest.now c.range_from-rest.result.now (string_bytes c.args.text.now ++ escape c.args.plain.now) at c.in-Some.ensures.0 c.in-Some.ensures.1
          (c.in_ok-push_str.ensures.bytes ∙ ap (λ l. text ++ l) (c.range.ensures.value ∙ ap (λ n. take n c.loop-at.rest.now) up_to)) (c.in_ok-push_escape.ensures ∙ ap (λ bs. one ++ escape_byte (slice_index bs at)) c.as_bytes.ensures.value)
          (c.range_from-rest.ensures.value ∙ ap (λ n. drop n c.loop-at.rest.now) behind) c.loop-at.invariant.1,
    )
