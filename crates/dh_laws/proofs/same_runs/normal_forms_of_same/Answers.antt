use Rattle.dh_laws.proofs.Normalising.NamedAnswers.{same_normal_forms, same_is_equivalent}
use Rattle.dh_laws.proofs.same_runs.normal_forms_of_same.Goals as goal

pub returns-clause-normal_form : goal.returns-clause-normal_form
returns-clause-normal_form c = same_normal_forms

pub returns-clause-equivalent : goal.returns-clause-equivalent
returns-clause-equivalent c = same_is_equivalent
