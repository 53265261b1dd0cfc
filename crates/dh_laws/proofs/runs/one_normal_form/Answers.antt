use Rattle.dh_laws.proofs.Normalising.RunLimits.{one_normal_form, equivalent_by_normal_forms}
use Rattle.dh_laws.proofs.runs.one_normal_form.Goals as goal

pub returns-clause-one : goal.returns-clause-one
returns-clause-one c = one_normal_form

pub returns-clause-equivalent : goal.returns-clause-equivalent
returns-clause-equivalent c = equivalent_by_normal_forms
