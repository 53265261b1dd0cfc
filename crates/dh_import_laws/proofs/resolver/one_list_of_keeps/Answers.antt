use Rattle.dh_import_laws.proofs.Kept.{one_list_of_keeps}
use Rattle.dh_import_laws.proofs.resolver.one_list_of_keeps.Goals as goal

pub returns : goal.returns
returns c = one_list_of_keeps
