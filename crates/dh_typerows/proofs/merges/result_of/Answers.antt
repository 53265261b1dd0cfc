use Rattle.std.proofs.Common.{◌<◌, ◌≡◌, arith}
use Rattle.dh_typerows.proofs.FoundFields.{some-there}
use Rattle.dh_typerows.proofs.merges.result_of.Goals as goal

pub returns-in-Some-2-clause-there : goal.returns-in-Some-2-clause-there
returns-in-Some-2-clause-there c =
    let older : c.in-Some.range < c.args.h = c.in-Some.ensures.older.1 in
    let same : c.in-Some-2.result ≡ c.in-Some.range = some-there (λ r. r ≡ c.in-Some.range) _ c.in-Some-2.result c.in-Some-2.is c.in_ok-result-in-Some.ensures.same in
    omega (arith, older, same, c.requires.there)
