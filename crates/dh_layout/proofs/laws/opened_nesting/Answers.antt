use Rattle.dh_layout.proofs.Printed.{opened_nesting}
use Rattle.dh_layout.proofs.Texts.InValues.{values}
use Rattle.dh_layout.proofs.laws.opened_nesting.Goals as goal

pub returns : goal.returns
returns c = λ e s v g. opened_nesting e s (values e v g)
