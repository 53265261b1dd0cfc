use Rattle.dh_laws.proofs.Names.AlphaForms.{same-bare, bare-same}
use Rattle.dh_laws.proofs.nameless.same_is_bare.Goals as goal

pub returns : goal.returns
returns c = λ e f. (same-bare e f, bare-same e f)
