use Rattle.dh_literals.proofs.EscapesReadBack.{text_read}
use Rattle.dh_literals.proofs.laws.text_read_back.Goals as goal

pub returns : goal.returns
returns c = text_read
