use Rattle.dh_import_laws.proofs.ByLocation.{values_by_location, paths_by_location}
use Rattle.dh_import_laws.proofs.resolver.paths_by_location.Goals as goal

pub returns-clause-values : goal.returns-clause-values
returns-clause-values c = values_by_location

pub returns-clause-paths : goal.returns-clause-paths
returns-clause-paths c = paths_by_location
