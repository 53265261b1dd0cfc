use Rattle.std.proofs.Common.{sym, ap, Some, ◌∙◌}
use Rattle.dh_syntax.specs.Expressions.SameTree.{option_eq, digest_eq}
use Rattle.dh_syntax.proofs.NativeTests.{bytes_eq-pointwise}
use Rattle.dh_terms.proofs.equality.is_same_digest.Goals as goal

pub returns-in-Some-Some : goal.returns-in-Some-Some
returns-in-Some-Some c =
    c.eq.ensures ∙ sym (bytes_eq-pointwise c.in-Some-Some.d.0 c.in-Some-Some.e.0) ∙ ap (λ d. option_eq digest_eq d (Some c.in-Some-Some.e)) (sym c.in-Some-Some.is-0)
    ∙ ap (option_eq digest_eq c.args.d.now) (sym c.in-Some-Some.is-1)
