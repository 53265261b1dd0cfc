use Rattle.std.proofs.Common.{ap, sym, ◌∙◌}
use Rattle.std.specs.Prelude.{Some}
use Rattle.dh_syntax.specs.Expressions.Numbers.{bytes_eq}
use Rattle.dh_syntax.specs.Imports.Keys.{digest_rank}
use Rattle.dh_syntax.proofs.NativeTests.{bytes_eq-pointwise}
use Rattle.dh_record.proofs.rows.key_order.is_same_digest.Goals as goal

pub returns-in-Some-e-2 : goal.returns-in-Some-e-2
returns-in-Some-e-2 c =
    c.eq.ensures
    ∙ sym (bytes_eq-pointwise c.in-Some.d.0 c.in-Some-e-2.e.0)
    ∙ ap (λ e. bytes_eq (digest_rank (Some c.in-Some.d)) (digest_rank e)) (sym c.in-Some-e-2.is)
    ∙ ap (λ d. bytes_eq (digest_rank d) (digest_rank c.args.e.now)) (sym c.in-Some.is)
