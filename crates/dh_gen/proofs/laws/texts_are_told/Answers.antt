use Rattle.dh_gen.proofs.Told.{tells_nothing_else, tells_texts}
use Rattle.dh_gen.proofs.laws.texts_are_told.Goals as goal

pub returns-clause-texts : goal.returns-clause-texts
returns-clause-texts c = tells_texts

pub returns-clause-others : goal.returns-clause-others
returns-clause-others c = tells_nothing_else
