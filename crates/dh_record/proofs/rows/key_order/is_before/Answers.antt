use Rattle.dh_syntax.proofs.Order.{before-slice_cmp}
use Rattle.dh_record.proofs.rows.key_order.is_before.Goals as goal

pub returns : goal.returns
returns c = let h = before-slice_cmp c.args.x.now c.args.y.now in cc
