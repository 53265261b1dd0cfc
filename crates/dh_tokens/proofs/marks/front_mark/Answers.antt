use Rattle.std.proofs.Common.{◌∙◌}
use Rattle.dh_tokens.proofs.FrontMarks.{alone-mark, rows-mark}
use Rattle.dh_tokens.proofs.marks.front_mark.Goals as goal

pub returns-in-Some-clause-value : goal.returns-in-Some-clause-value
returns-in-Some-clause-value c = alone-mark c.in-Some.mark c.byte_at-first.result c.args.rest.now c.requires.some c.byte_at-first.ensures c.in-Some.ensures

pub returns-in_default-first-clause-value : goal.returns-in_default-first-clause-value
returns-in_default-first-clause-value c =
    c.longest_in.ensures.value ∙ rows-mark c.byte_at-first.result c.args.rest.now c.rows.result.now c.requires.some c.byte_at-first.ensures c.rows.ensures
