use Rattle.std.proofs.Common.{ap, sym, Some, ◌∙◌}
use Rattle.dh_syntax.proofs.Numbers.{bytes_eq-true}
use Rattle.dh_infer.proofs.sharing.are_named.Goals as goal

pub returns-in-Some-Some : goal.returns-in-Some-Some
returns-in-Some-Some c = λ e. c.in-Some-Some.is-0 ∙ ap Some (bytes_eq-true _ _ (sym c.is_same_label.ensures ∙ e)) ∙ sym c.in-Some-Some.is-1
