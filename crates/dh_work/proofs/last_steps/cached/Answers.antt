use Rattle.std.proofs.Common.{refl, ap}
use Rattle.dh_syntax.specs.Expressions.Bridge.{term}
use Rattle.dh_imports.specs.declared.outcomes.Origin.TheVariants.{Cached}
use Rattle.dh_work.proofs.Comings.{good_plain, same_is_value}
use Rattle.dh_work.proofs.last_steps.cached.Goals as goal

pub returns-clause-outcome : goal.returns-clause-outcome
returns-clause-outcome c = good_plain c.in_ok-value.value Cached _ Cached (ap term c.in_ok-value.ensures) refl

pub returns-clause-value : goal.returns-clause-value
returns-clause-value c = same_is_value (term c.args.value.now) (term c.in_ok-value.value) (ap term c.in_ok-value.ensures) c.requires
