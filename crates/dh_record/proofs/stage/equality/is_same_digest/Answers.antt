use Rattle.std.proofs.Common.{sym, ◌∙◌}
use Rattle.dh_syntax.proofs.NativeTests.{bytes_eq-pointwise}
use Rattle.dh_record.proofs.stage.equality.is_same_digest.Goals as goal

pub returns : goal.returns
returns c = c.eq.ensures ∙ sym (bytes_eq-pointwise c.args.d.now.0 c.args.e.now.0)
