use Rattle.std.proofs.Common.{Some, codes, sym, ap, ◌∙◌}
use Rattle.dh_syntax.proofs.NativeTests.{bytes_eq-pointwise}
use Rattle.dh_print.specs.Inside.Binders.{is_blank}
use Rattle.dh_print.proofs.binders.binds_blank.Goals as goal

pub returns-in-Some : goal.returns-in-Some
returns-in-Some c = c.eq.ensures ∙ sym (bytes_eq-pointwise c.as_str.result.now (codes "_")) ∙ ap (λ x. is_blank (Some x)) c.as_str.ensures ∙ ap is_blank c.in-Some.ensures
