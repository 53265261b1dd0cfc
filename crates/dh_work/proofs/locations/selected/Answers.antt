use Rattle.dh_imports.specs.LastStep.{location_type}
use Rattle.dh_work.proofs.BuiltNodes.{built_field, part, pushed}
use Rattle.dh_work.proofs.locations.selected.Goals as goal

pub returns : goal.returns
returns c =
    built_field c.in_ok-label.label c.args.label.now c.push.new.self c.in_ok-location_type.field-0 location_type c.in_ok-label.ensures
    (pushed c.push.new.self c.new-kids.result _ c.part.result (part c.in_ok-location_type.field-0) c.in_ok-push.ensures.ok c.new-kids.ensures c.part.ensures) c.in_ok-location_type.ensures
