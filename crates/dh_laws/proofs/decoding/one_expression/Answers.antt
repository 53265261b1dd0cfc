use Rattle.dh_syntax.proofs.BinaryReadLaws.{reads-unique}
use Rattle.dh_laws.proofs.decoding.one_expression.Goals as goal

pub returns : goal.returns
returns c = reads-unique
