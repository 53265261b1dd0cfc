use Rattle.std.proofs.Common.{arith}
use Rattle.dh_typerows.proofs.FoundFields.{kids-below}
use Rattle.dh_store.specs.Growth.{count}
use Rattle.dh_typerows.proofs.updates.type_under.Goals as goal

pub returns-in-Some-field_at-clause-there : goal.returns-in-Some-field_at-clause-there
returns-in-Some-field_at-clause-there c = c.in-Some-field_at.ensures.below (count c.args.codes.now) (kids-below c.args.t (count c.args.codes.now) c.in-Some.kids.now (omega (arith, c.requires.own)) c.in-Some.ensures.older)
