use Rattle.std.proofs.Common.{Some, sym, ap, ◌∙◌}
use Rattle.std.specs.Option.{option_copied}
use Rattle.dh_store.proofs.Coding.{code-there}
use Rattle.dh_types.proofs.ChangedCodes.{node-plan, bound-plan, free-plan, on-there}
use Rattle.dh_types.proofs.changes.plan_of.Goals as goal

pub returns-in-Some-Node-clause-plan : goal.returns-in-Some-Node-clause-plan
returns-in-Some-Node-clause-plan c =
    node-plan c.args.codes.now c.requires.coded c.args.change c.args.level c.args.id c.in-Some-Node.op c.as_slice.result.now c.node_plan.result (sym c.get.ensures ∙ ap option_copied c.in-Some-Node.is ∙ cc) c.node_plan.ensures

pub returns-in-Some-Node-clause-there : goal.returns-in-Some-Node-clause-there
returns-in-Some-Node-clause-there c = on-there c.args.codes.now c.requires.coded c.args.change c.args.level c.args.id _ c.node_plan.result (sym c.get.ensures ∙ ap option_copied c.in-Some-Node.is)

pub returns-in-Some-Free-clause-plan : goal.returns-in-Some-Free-clause-plan
returns-in-Some-Free-clause-plan c =
    free-plan c.args.codes.now c.requires.coded c.args.change c.args.level c.args.id c.in-Some-Free.label c.in-Some-Free.index c.free_plan.result (sym c.get.ensures ∙ ap option_copied c.in-Some-Free.is ∙ ap Some c.in-Some-Free.field-0-is) (c.free_plan.ensures c.args.codes.now)

pub returns-in-Some-Free-clause-there : goal.returns-in-Some-Free-clause-there
returns-in-Some-Free-clause-there c = code-there c.args.codes.now c.requires.coded c.args.id _ (sym c.get.ensures ∙ ap option_copied c.in-Some-Free.is)

pub returns-in-Some-Bound-clause-plan : goal.returns-in-Some-Bound-clause-plan
returns-in-Some-Bound-clause-plan c =
    bound-plan c.args.codes.now c.requires.coded c.args.change c.args.level c.args.id c.in-Some-Bound.index c.bound_plan.result (sym c.get.ensures ∙ ap option_copied c.in-Some-Bound.is ∙ ap Some c.in-Some-Bound.field-0-is) (c.bound_plan.ensures c.args.codes.now)

pub returns-in-Some-Bound-clause-there : goal.returns-in-Some-Bound-clause-there
returns-in-Some-Bound-clause-there c = code-there c.args.codes.now c.requires.coded c.args.id _ (sym c.get.ensures ∙ ap option_copied c.in-Some-Bound.is)
