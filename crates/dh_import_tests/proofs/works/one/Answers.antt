use Rattle.dh_work.proofs.Comings.{one_is_value}
use Rattle.dh_import_tests.proofs.works.one.Goals as goal

pub returns : goal.returns
returns c = one_is_value c.new.result c.new.ensures
