use Rattle.std.proofs.Common.{arith, string_bytes}
use Rattle.std.proofs.lemmas.Result.{IfOk-weaker}
use Rattle.dh_steps.proofs.PlaceWords.{many_named, few_named, few_found}
use Rattle.dh_steps.proofs.words.read_places.Goals as goal

pub returns-then-words-clause-places : goal.returns-then-words-clause-places
returns-then-words-clause-places c = λ at. many_named string_bytes c.args.words.now (omega (arith, c.if-words.true)) at

pub returns-clause-places : goal.returns-clause-places
returns-clause-places c =
    IfOk-weaker c.read_each.result _ _ (λ places h. λ at. few_named string_bytes c.args.words.now places (omega (arith, c.if-words.false)) h at) c.read_each.ensures

pub returns-clause-few : goal.returns-clause-few
returns-clause-few c =
    IfOk-weaker c.read_each.result _ _ (λ places h. few_found string_bytes c.args.words.now places (omega (arith, c.if-words.false)) h) c.read_each.ensures
