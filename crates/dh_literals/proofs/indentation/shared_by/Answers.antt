use Rattle.std.proofs.Common.{None, ◌∙◌, lit<}
use Rattle.std.proofs.lemmas.Str.Pattern.{split_parts}
use Rattle.std.specs.Option.{option_copied}
use Rattle.dh_literals.proofs.LinesShared.{shared_full, shared_last}
use Rattle.dh_literals.proofs.SplitParts.{split_at, after_utf8}
use Rattle.dh_literals.proofs.indentation.shared_by.Goals as goal

pub loop-line-preserved-then-not-is_empty : goal.loop-line-preserved-then-not-is_empty
loop-line-preserved-then-not-is_empty c =
    let rest = c.loop-line.rest.now in
    let split = split_at 10 rest c.in-Some.line c.in-Some.more (lit< tt) c.in-Some.ensures.cases in (
      after_utf8 10 rest c.in-Some.line.now c.in-Some.more.now (lit< tt) c.loop-line.invariant.0 split,
      shared_full (option_copied c.loop-line.shared) rest c.in-Some.line.now c.in-Some.more.now c.shared_with.result.now split c.if-not-is_empty.ensures c.shared_with.ensures ∙ c.loop-line.invariant.1,
    )

pub returns : goal.returns
returns c =
    let rest = c.loop-line.rest.now in
    c.shared_with-2.ensures ∙ shared_last (option_copied c.loop-line.shared) rest (split_parts 10 rest None c.in_default.ensures.cases (lit< tt)) ∙ c.loop-line.invariant.1
