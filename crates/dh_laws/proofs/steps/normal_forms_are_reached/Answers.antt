use Rattle.dh_syntax.specs.Normalising.Named.{names}
use Rattle.dh_syntax.specs.Normalising.NamelessRuns.{cores, bares}
use Rattle.dh_laws.proofs.Normalising.NormalSteps.{reaches-normal}
use Rattle.dh_laws.proofs.steps.normal_forms_are_reached.Goals as goal

pub returns-clause-named : goal.returns-clause-named
returns-clause-named c = reaches-normal _ names.same names.too_deep

pub returns-clause-with_names : goal.returns-clause-with_names
returns-clause-with_names c = reaches-normal _ cores.same cores.too_deep

pub returns-clause-without_names : goal.returns-clause-without_names
returns-clause-without_names c = reaches-normal _ bares.same bares.too_deep
