use Rattle.dh_types.proofs.ChangedCodes.{kept-more}
use Rattle.dh_types.proofs.changes.settle.Goals as goal

pub returns-clause-made : goal.returns-clause-made
returns-clause-made c =
    kept-more c.args.codes.now c.make.new.codes c.args.change c.args.memo.now c.put.new.self c.args.id c.args.level c.in_ok-found.found c.put.result c.in_ok-found.ensures.grows c.requires.there c.requires.made c.in_ok-plan.ensures.there
    c.in_ok-found.ensures.made c.put.ensures
