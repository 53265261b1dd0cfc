use Rattle.dh_syntax.specs.Expressions.Spellable.{is_query}
use Rattle.dh_decode.proofs.SpellingLaws.{query_utf8, unspelled}
use Rattle.dh_decode.proofs.texts.query.Goals as goal

pub returns-in-Err-clause-none : goal.returns-in-Err-clause-none
returns-in-Err-clause-none c = unspelled is_query c.args.bytes.now (query_utf8 c.args.bytes.now) c.in-Err.ensures.cases.0
