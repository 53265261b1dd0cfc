use Rattle.dh_import_laws.proofs.CodeSteps.{code_comes_of, code_comes, one_outcome_of_code}
use Rattle.dh_import_laws.proofs.resolver.code_comes_of.Goals as goal

pub returns-clause-gives : goal.returns-clause-gives
returns-clause-gives c = code_comes_of

pub returns-clause-given : goal.returns-clause-given
returns-clause-given c = code_comes

pub returns-clause-one : goal.returns-clause-one
returns-clause-one c = one_outcome_of_code
