use Rattle.std.proofs.Common.{arith}
use Rattle.dh_store.specs.Growth.{count}
use Rattle.dh_typerows.proofs.FoundFields.{kids-below}
use Rattle.dh_typerows.proofs.merges.merge.Goals as goal

pub merge_with-requires-clause-there : goal.merge_with-requires-clause-there
merge_with-requires-clause-there c = kids-below c.args.h (count c.args.codes.now) _ (omega (arith, c.requires.there)) c.in-Some.ensures.older
