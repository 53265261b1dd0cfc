use Rattle.dh_syntax.proofs.NativeTests.{bytes_eq-pointwise}
use Rattle.dh_typerows.proofs.labels.is_text.Goals as goal

pub returns : goal.returns
returns c = let h = bytes_eq-pointwise c.args.label.now c.args.text.now in cc
