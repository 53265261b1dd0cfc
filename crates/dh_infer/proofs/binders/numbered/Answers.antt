use Rattle.dh_infer.proofs.Opening.{numbered-grows, numbered-stands}
use Rattle.dh_infer.proofs.binders.numbered.Goals as goal

pub returns-clause-grows : goal.returns-clause-grows
returns-clause-grows c =
    numbered-grows c.args.codes.now c.push.new.self c.requires.coded c.in_ok-name.name c.args.number c.in_ok-name.ensures c.push.result c.push.ensures.ok c.push.ensures.err

pub returns-clause-made : goal.returns-clause-made
returns-clause-made c = numbered-stands c.args.codes.now c.push.new.self c.requires.coded c.in_ok-name.name c.args.number c.in_ok-name.ensures c.push.result c.push.ensures.ok
