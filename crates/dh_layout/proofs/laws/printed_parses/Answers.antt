use Rattle.dh_layout.proofs.Printed.{printed_parses}
use Rattle.dh_layout.proofs.Texts.InValues.{values}
use Rattle.dh_layout.proofs.laws.printed_parses.Goals as goal

pub returns : goal.returns
returns c = λ e s v g. printed_parses e s (values e v g)
