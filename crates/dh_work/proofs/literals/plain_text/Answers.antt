use Rattle.dh_work.proofs.BuiltNodes.{built_text, pushed}
use Rattle.dh_work.proofs.literals.plain_text.Goals as goal

pub returns : goal.returns
returns c =
    built_text c.push.new.self c.new-2.result c.args.text.now (pushed c.push.new.self c.new-pieces.result _ c.in_ok-new.field-0 c.args.text.now c.in_ok-push.ensures.ok c.new-pieces.ensures c.in_ok-new.ensures) c.new-2.ensures
