use Rattle.dh_top.proofs.Commands.{count_by}
use Rattle.dh_top.proofs.words.is_count.Goals as goal

pub returns-then-first-ne48 : goal.returns-then-first-ne48
returns-then-first-ne48 c = count_by c.args.word.now c.are_digits.result c.in-len1-up.len_at_least c.if-first-ne48.true c.are_digits.ensures
