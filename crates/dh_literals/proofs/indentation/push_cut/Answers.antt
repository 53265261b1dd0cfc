use Rattle.std.proofs.Common.{None, [], ◌∷◌, ◌++◌, ap, ◌∙◌, lit<}
use Rattle.std.proofs.lemmas.Str.Pattern.{split_parts}
use Rattle.std.specs.String.{string_bytes}
use Rattle.dh_literals.proofs.LinesCut.{blank_first, blank_last, written_more, written_last}
use Rattle.dh_literals.proofs.SplitParts.{split_at, after_utf8}
use Rattle.dh_literals.proofs.indentation.push_cut.Goals as goal

pub cut_line-requires : goal.cut_line-requires
cut_line-requires c =
    let rest = c.loop-line.rest.now in
    let split = split_at 10 rest c.in-Some.line c.in-Some.more (lit< tt) c.in-Some.ensures.cases in
    (blank_first c.args.width rest c.in-Some.line.now c.in-Some.more.now split c.loop-line.invariant.1).0

pub loop-line-preserved : goal.loop-line-preserved
loop-line-preserved c =
    let rest = c.loop-line.rest.now in
    let line = c.in-Some.line.now in
    let more = c.in-Some.more.now in
    let split = split_at 10 rest c.in-Some.line c.in-Some.more (lit< tt) c.in-Some.ensures.cases in
    let so_far = string_bytes c.loop-line.text in
    let end = c.in_ok-push.ensures.ascii (lit< tt) in
    let written = c.in_ok-push.ensures.bytes ∙ ap (λ l. string_bytes c.push_str.new.self ++ l) end ∙ ap (λ l. l ++ (10 ∷ [])) (c.in_ok-push_str.ensures.bytes ∙ ap (λ l. so_far ++ l) c.cut_line.ensures) in (
      after_utf8 10 rest line more (lit< tt) c.loop-line.invariant.0 split,
      (blank_first c.args.width rest line more split c.loop-line.invariant.1).1,
      written_more c.args.width rest line more so_far (string_bytes c.push.new.self) split written ∙ c.loop-line.invariant.2,
    )

pub cut_line-requires-2 : goal.cut_line-requires-2
cut_line-requires-2 c =
    let rest = c.loop-line.rest.now in
    blank_last c.args.width rest (split_parts 10 rest None c.in_default.ensures.cases (lit< tt)) c.loop-line.invariant.1

pub returns : goal.returns
returns c =
    let rest = c.loop-line.rest.now in
    written_last c.args.width rest c.cut_line-2.result.now (string_bytes c.loop-line.text) (string_bytes c.push_str-2.new.self) _ c.push_str-2.result (split_parts 10 rest None c.in_default.ensures.cases (lit< tt)) c.cut_line-2.ensures c.push_str-2.ensures.bytes c.loop-line.invariant.2
