use Rattle.dh_syntax.specs.Expressions.Bridge.{term}
use Rattle.dh_imports.specs.LastStep.{location_value}
use Rattle.dh_imports.specs.declared.outcomes.Origin.TheVariants.{Made}
use Rattle.std.proofs.Common.{refl}
use Rattle.dh_work.proofs.Comings.{good_plain, location_is_value, same_is_value}
use Rattle.dh_work.proofs.last_steps.made.Goals as goal

pub returns-clause-outcome : goal.returns-clause-outcome
returns-clause-outcome c = good_plain c.in_ok-value.value Made _ Made c.in_ok-value.ensures refl

pub returns-clause-value : goal.returns-clause-value
returns-clause-value c = same_is_value (location_value c.args.loc.now) (term c.in_ok-value.value) c.in_ok-value.ensures (location_is_value c.args.loc.now)
