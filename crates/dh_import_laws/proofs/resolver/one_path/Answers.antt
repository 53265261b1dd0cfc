use Rattle.dh_import_laws.proofs.OnePath.{one_path}
use Rattle.dh_import_laws.proofs.resolver.one_path.Goals as goal

pub returns : goal.returns
returns c = one_path
