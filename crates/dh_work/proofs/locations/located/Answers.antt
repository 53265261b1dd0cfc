use Rattle.dh_work.proofs.BuiltNodes.{built_app, part, pushed}
use Rattle.dh_work.proofs.locations.located.Goals as goal

pub returns : goal.returns
returns c =
    built_app c.push-2.new.self c.in_ok-selected.field-0 c.in_ok-plain_text.field-0 _ _
    (pushed c.push-2.new.self c.push.new.self _ c.part-2.result (part c.in_ok-plain_text.field-0) c.in_ok-push-2.ensures.ok
    (pushed c.push.new.self c.new-kids.result _ c.part.result (part c.in_ok-selected.field-0) c.in_ok-push.ensures.ok c.new-kids.ensures c.part.ensures) c.part-2.ensures)
    c.in_ok-selected.ensures c.in_ok-plain_text.ensures
