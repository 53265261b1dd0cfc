use Rattle.dh_types.proofs.Grown.{node-grows, node-stands}
use Rattle.dh_types.proofs.building.node.Goals as goal

pub returns-clause-grows : goal.returns-clause-grows
returns-clause-grows c = node-grows c.args.codes.now c.push.new.self c.args.op c.args.kids c.requires.coded c.requires.there c.requires.fits c.push.result c.push.ensures.ok c.push.ensures.err

pub returns-clause-made : goal.returns-clause-made
returns-clause-made c = node-stands c.args.codes.now c.push.new.self c.args.op c.args.kids c.requires.coded c.requires.there c.requires.fits c.push.result c.push.ensures.ok
