use Rattle.dh_laws.proofs.Names.Renamings.{forget-sub}
use Rattle.dh_laws.proofs.nameless.forget_of_sub.Goals as goal

pub returns : goal.returns
returns c = forget-sub
