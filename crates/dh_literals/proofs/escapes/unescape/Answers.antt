use Rattle.std.proofs.Common.{None, Ok, ◌++◌, ap, sym, ◌∙◌, lit<}
use Rattle.std.proofs.lemmas.Str.Pattern.{split_parts}
use Rattle.std.specs.Char.{encode_utf8}
use Rattle.std.specs.String.{string_bytes}
use Rattle.dh_literals.proofs.SplitParts.{split_at}
use Rattle.dh_literals.proofs.Unescaping.{after_escape, at_fault, at_end}
use Rattle.dh_literals.proofs.escapes.unescape.Goals as goal

pub returns-in_default-read_escape-clause-fault : goal.returns-in_default-read_escape-clause-fault
returns-in_default-read_escape-clause-fault c =
    let rest = c.loop-plain.rest.now in
    let split = split_at 92 rest c.in-Some.plain c.in-Some.escape (lit< tt) c.in-Some.ensures.cases in
    at_fault c.args.inner.now (string_bytes c.loop-plain.text) rest c.in-Some.plain.now c.in-Some.escape.now c.loop-plain.invariant.1 split c.in_default-read_escape.ensures

pub loop-plain-preserved : goal.loop-plain-preserved
loop-plain-preserved c =
    let rest = c.loop-plain.rest.now in
    let split = split_at 92 rest c.in-Some.plain c.in-Some.escape (lit< tt) c.in-Some.ensures.cases in
    let text = c.in_ok-push.ensures.bytes ∙ ap (λ l. l ++ encode_utf8 c.in-Some-read_escape.c) c.in_ok-push_str.ensures.bytes in
    (c.range_from-rest.utf8, after_escape c.args.inner.now (string_bytes c.loop-plain.text) rest c.in-Some.plain.now c.in-Some.escape.now (string_bytes c.push.new.self) c.range_from-rest.result.now c.in-Some-read_escape.c c.in-Some-read_escape.len c.loop-plain.invariant.1 split c.in-Some-read_escape.ensures text c.range_from-rest.ensures.value)

pub returns-clause-ok : goal.returns-clause-ok
returns-clause-ok c =
    let rest = c.loop-plain.rest.now in
    at_end c.args.inner.now (string_bytes c.loop-plain.text) rest c.loop-plain.invariant.1 (split_parts 92 rest None c.in_default.ensures.cases (lit< tt))
    ∙ ap Ok (sym (c.of.ensures ∙ c.in_ok-push_str-2.ensures.bytes))
