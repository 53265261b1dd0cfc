use Rattle.dh_layout.proofs.Texts.Utf8.{text_utf8}
use Rattle.dh_layout.proofs.Texts.InValues.{values}
use Rattle.dh_layout.proofs.laws.printed_is_text.Goals as goal

pub returns : goal.returns
returns c = λ e s v g. text_utf8 e s (values e v g)
