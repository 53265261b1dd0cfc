use Rattle.std.proofs.Common.{◌∙◌, sym, codes}
use Rattle.dh_syntax.proofs.NativeTests.{bytes_eq-pointwise}
use Rattle.dh_top.proofs.words.is_workers.Goals as goal

pub returns : goal.returns
returns c = c.eq.ensures ∙ sym (bytes_eq-pointwise c.args.word.now (codes "--workers"))
