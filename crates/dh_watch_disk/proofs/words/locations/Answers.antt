use Rattle.std.proofs.Common.{string_bytes}
use Rattle.dh_watch_disk.proofs.Located.{misused_if, named_if, no_words_at_all, one_word_alone}
use Rattle.dh_watch_disk.proofs.words.locations.Goals as goal

pub returns-in-None-clause-misused : goal.returns-in-None-clause-misused
returns-in-None-clause-misused c = no_words_at_all string_bytes c.args.words.now c.in-None.ensures.cases

pub returns-then-is_empty-clause-misused : goal.returns-then-is_empty-clause-misused
returns-then-is_empty-clause-misused c = one_word_alone string_bytes c.args.words.now _ _ c.in-Some.ensures.cases.0 _ c.is_empty.ensures c.if-is_empty.true

pub returns-clause-named : goal.returns-clause-named
returns-clause-named c = named_if (λ t. t.items) string_bytes c.args.words.now _ _ c.in-Some.ensures.cases.0 _ c.is_empty.ensures c.if-is_empty.false _ c.spelled.ensures.located

pub returns-clause-misused : goal.returns-clause-misused
returns-clause-misused c = misused_if string_bytes c.args.words.now _ _ c.in-Some.ensures.cases.0 _ c.spelled.ensures.wrong
