use Rattle.dh_paths.proofs.Spellings.{chain-spellable}
use Rattle.dh_paths.proofs.laws.chained_is_spellable.Goals as goal

pub returns : goal.returns
returns c = chain-spellable
