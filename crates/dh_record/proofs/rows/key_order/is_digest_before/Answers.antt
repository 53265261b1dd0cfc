use Rattle.std.proofs.Common.{ap, sym, ◌∙◌, is_lt}
use Rattle.std.specs.Prelude.{Some}
use Rattle.dh_syntax.specs.Expressions.Order.{before}
use Rattle.dh_syntax.specs.Imports.Keys.{digest_rank}
use Rattle.dh_syntax.proofs.Order.{before-slice_cmp}
use Rattle.dh_record.proofs.rows.key_order.is_digest_before.Goals as goal

pub returns-in-Some-e-2 : goal.returns-in-Some-e-2
returns-in-Some-e-2 c =
    c.is_lt.ensures
    ∙ ap is_lt c.cmp.ensures
    ∙ sym (before-slice_cmp c.in-Some.d.0 c.in-Some-e-2.e.0)
    ∙ ap (λ e. before (digest_rank (Some c.in-Some.d)) (digest_rank e)) (sym c.in-Some-e-2.is)
    ∙ ap (λ d. before (digest_rank d) (digest_rank c.args.e.now)) (sym c.in-Some.is)
