use Rattle.std.proofs.Common.{rules}
use Rattle.dh_syntax.specs.Expressions.Bridge.{term}
use Rattle.dh_record.specs.Values.{IsValue}
use Rattle.dh_record.proofs.KeptEntries.{value_below}
use Rattle.dh_record.proofs.keeps.digests.digest_of.Goals as goal

pub digest-requires-clause-indices : goal.digest-requires-clause-indices
digest-requires-clause-indices c =
    let v : IsValue (term c.in-Some-Good.value) = search rules in
    value_below (term c.in-Some-Good.value) v
