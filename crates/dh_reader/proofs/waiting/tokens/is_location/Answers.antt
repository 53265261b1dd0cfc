use Rattle.std.proofs.Common.{sym, ap, nat_eq, ◌∙◌}
use Rattle.std.specs.Cmp.Lexicographic.{pointwise}
use Rattle.std.specs.Prelude.{codes}
use Rattle.dh_syntax.proofs.NativeTests.{bytes_eq-pointwise}
use Rattle.dh_reader.proofs.waiting.tokens.is_location.Goals as goal

pub returns : goal.returns
returns c =
    c.eq.ensures ∙ ap (λ x. pointwise nat_eq x (codes "Location")) c.as_str.ensures ∙ sym (bytes_eq-pointwise c.args.label.now (codes "Location"))
