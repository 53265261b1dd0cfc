use Rattle.std.proofs.Common.{arith}
use Rattle.dh_store.specs.Growth.{count}
use Rattle.dh_typerows.proofs.FoundFields.{kids-below}
use Rattle.dh_typerows.proofs.maps.to_map.Goals as goal

pub entries-requires-clause-there : goal.entries-requires-clause-there
entries-requires-clause-there c = kids-below c.args.t (count c.args.codes.now) _ (omega (arith, c.requires.there)) c.in-Some.ensures.older
