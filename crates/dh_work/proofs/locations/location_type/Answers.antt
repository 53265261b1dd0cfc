use Rattle.dh_work.proofs.BuiltNodes.{built_type, part, pushed}
use Rattle.dh_work.proofs.locations.location_type.Goals as goal

pub returns : goal.returns
returns c =
    let alts = pushed c.push-4.new.self c.push-3.new.self _ c.in_ok-alternative-4.field-0 _ c.in_ok-push-4.ensures.ok
    (pushed c.push-3.new.self c.push-2.new.self _ c.in_ok-alternative-3.field-0 _ c.in_ok-push-3.ensures.ok
    (pushed c.push-2.new.self c.push.new.self _ c.in_ok-alternative-2.field-0 _ c.in_ok-push-2.ensures.ok
    (pushed c.push.new.self c.new-alts.result _ c.in_ok-alternative.field-0 _ c.in_ok-push.ensures.ok c.new-alts.ensures c.in_ok-alternative.ensures) c.in_ok-alternative-2.ensures) c.in_ok-alternative-3.ensures) c.in_ok-alternative-4.ensures in
    let types = pushed c.push-7.new.self c.push-6.new.self _ c.part-3.result (part c.text_type-3.result) c.in_ok-push-7.ensures.ok
    (pushed c.push-6.new.self c.push-5.new.self _ c.part-2.result (part c.text_type-2.result) c.in_ok-push-6.ensures.ok
    (pushed c.push-5.new.self c.new-types.result _ c.part.result (part c.text_type.result) c.in_ok-push-5.ensures.ok c.new-types.ensures c.part.ensures) c.part-2.ensures) c.part-3.ensures in
    built_type c.push-4.new.self c.push-7.new.self c.text_type.result c.text_type-2.result c.text_type-3.result alts types c.text_type.ensures c.text_type-2.ensures c.text_type-3.ensures
