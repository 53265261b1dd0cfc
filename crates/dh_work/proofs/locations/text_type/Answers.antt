use Rattle.dh_work.proofs.BuiltNodes.{built_text_type}
use Rattle.dh_work.proofs.locations.text_type.Goals as goal

pub returns : goal.returns
returns c = built_text_type c.new.result c.new.ensures
