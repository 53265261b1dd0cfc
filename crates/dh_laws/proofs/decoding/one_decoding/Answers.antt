use Rattle.dh_syntax.proofs.BinaryFaultLaws.{decodes-unique}
use Rattle.dh_laws.proofs.decoding.one_decoding.Goals as goal

pub returns : goal.returns
returns c = decodes-unique
