use Rattle.std.proofs.Common.{sym, ◌∙◌}
use Rattle.dh_syntax.proofs.NativeTests.{bytes_eq-pointwise}
use Rattle.dh_record.proofs.stage.equality.is_same_bytes.Goals as goal

pub returns : goal.returns
returns c = c.eq.ensures ∙ (rw (c.as_slice.ensures, c.as_slice-2.ensures) (sym (bytes_eq-pointwise c.args.a.now c.args.b.now)))
