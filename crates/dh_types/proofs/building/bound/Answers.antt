use Rattle.dh_types.proofs.Grown.{bound-grows, bound-stands}
use Rattle.dh_types.proofs.building.bound.Goals as goal

pub returns-clause-grows : goal.returns-clause-grows
returns-clause-grows c = bound-grows c.args.codes.now c.push.new.self c.args.index c.requires.coded c.push.result c.push.ensures.ok c.push.ensures.err

pub returns-clause-made : goal.returns-clause-made
returns-clause-made c = bound-stands c.args.codes.now c.push.new.self c.args.index c.requires.coded c.push.result c.push.ensures.ok
