use Rattle.dh_laws.proofs.Names.AlphaForms.{alpha-read}
use Rattle.dh_laws.proofs.nameless.alpha_reads_bare.Goals as goal

pub returns : goal.returns
returns c = alpha-read
