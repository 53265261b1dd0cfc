use Rattle.dh_infer.proofs.FoundFacts.{fact-at, fact-told}
use Rattle.dh_infer.proofs.Turning.{get-some}
use Rattle.dh_infer.proofs.facts.told.Goals as goal

pub returns-then-is_for-clause-there : goal.returns-then-is_for-clause-there
returns-then-is_for-clause-there c = (c.is_for.ensures c.if-is_for.true).there

pub returns-then-is_for-clause-typed : goal.returns-then-is_for-clause-typed
returns-then-is_for-clause-typed c = λ g h.
    let f = c.in-Some.fact.now in
    fact-told g c.args.codes.now c.args.levels.now c.args.code f (c.is_for.ensures c.if-is_for.true)
    (fact-at g c.args.found.now c.args.place f (get-some c.args.found.now c.args.place f c.in-Some.ensures.lookup.3.0 c.in-Some.ensures.lookup.1) h)
