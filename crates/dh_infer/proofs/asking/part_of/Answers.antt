use Rattle.dh_infer.proofs.AskedRules.{part-below, part-by}
use Rattle.dh_infer.proofs.asking.part_of.Goals as goal

pub returns-clause-part : goal.returns-clause-part
returns-clause-part c =
    part-by c.args.codes.now c.args.code c.requires.there c.requires.node c.in-Some._op.now c.in-Some.kids.now c.in-Some.ensures c.args.part c.code_at.result c.code_at.ensures

pub returns-clause-there : goal.returns-clause-there
returns-clause-there c =
    part-below c.args.codes.now c.args.code c.requires.there c.requires.node c.in-Some._op.now c.in-Some.kids.now c.in-Some.ensures c.args.part c.code_at.result c.code_at.ensures
