use Rattle.std.specs.Prelude.{is_some}
use Rattle.std.proofs.Common.{lit<, rules, tests}
use Rattle.std.proofs.lemmas.Iterator.Search.{all_from_yields_List}
use Rattle.std.proofs.lemmas.Iterator.Splits.{YieldsList-from_str_split}
use Rattle.dh_steps.specs.StepWords.{part_of}
use Rattle.dh_steps.proofs.words.are_parts.Goals as goal

pub returns : goal.returns
returns c =
    all_from_yields_List (λ w. is_some (part_of w)) _ _ _ c.all.ensures.ran
    (YieldsList-from_str_split 47 c.args.word.now (lit< tt) c.split.ensures.text c.split.ensures.has_more c.split.ensures.pattern)
    (λ x b q k. search (rules, tests))
