use Rattle.dh_script_laws.proofs.Scripting.{tried_is_watched}
use Rattle.dh_script_laws.proofs.scripts.tried_is_watched.Goals as goal

pub returns : goal.returns
returns c = tried_is_watched
