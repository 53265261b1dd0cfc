use Rattle.dh_typerows.proofs.JoinedRecords.{joined-once}
use Rattle.dh_typerows.proofs.joins.settle.Goals as goal

pub returns-clause-joined : goal.returns-clause-joined
returns-clause-joined c =
    joined-once c.args.codes.now c.made.new.codes c.args.memo.now c.put.new.self c.args.couple.left c.args.couple.right c.in_ok-found.found c.in_ok-fields.fields c.put.result c.in_ok-found.ensures.grows c.requires.joined c.requires.left
    c.requires.right c.in_ok-found.ensures.made c.in_ok-fields.ensures.view c.in_ok-found.ensures.there c.put.ensures
