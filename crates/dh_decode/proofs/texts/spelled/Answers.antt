use Rattle.dh_decode.specs.Inside.States.{test_of}
use Rattle.dh_decode.proofs.SpellingLaws.{passes_utf8, unspelled}
use Rattle.dh_decode.proofs.texts.spelled.Goals as goal

pub returns-in-Err-clause-none : goal.returns-in-Err-clause-none
returns-in-Err-clause-none c = unspelled (test_of c.args.test) c.args.bytes.now (passes_utf8 c.args.test c.args.bytes.now) c.in-Err.ensures.cases.0
