use Rattle.std.proofs.Common.{ap, sym, ◌∙◌, is_lt}
use Rattle.dh_syntax.proofs.Order.{before-slice_cmp}
use Rattle.dh_record.proofs.rows.key_order.is_bytes_before.Goals as goal

pub returns : goal.returns
returns c = c.is_lt.ensures ∙ ap is_lt c.cmp.ensures ∙ sym (before-slice_cmp c.args.d.now.0 c.args.e.now.0)
