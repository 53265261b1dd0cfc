use Rattle.dh_syntax.proofs.NativeTests.{bytes_eq-pointwise}
use Rattle.dh_record.proofs.rows.key_order.is_same.Goals as goal

pub returns : goal.returns
returns c = let h = bytes_eq-pointwise c.args.x.now c.args.y.now in cc
