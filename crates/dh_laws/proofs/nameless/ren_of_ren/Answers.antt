use Rattle.dh_laws.proofs.Names.Renamings.{ren-ren}
use Rattle.dh_laws.proofs.nameless.ren_of_ren.Goals as goal

pub returns-clause-with_names : goal.returns-clause-with_names
returns-clause-with_names c = ren-ren

pub returns-clause-without_names : goal.returns-clause-without_names
returns-clause-without_names c = ren-ren
