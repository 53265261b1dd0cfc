use Rattle.std.proofs.Common.{ap, sym, true, ◌&&◌, ◌∙◌}
use Rattle.dh_syntax.specs.Expressions.SameTree.{option_eq}
use Rattle.dh_syntax.specs.Normalising.NamelessRuns.{nameless_eq}
use Rattle.dh_types.proofs.Comparisons.{alike-told}
use Rattle.dh_types.proofs.sameness.same_part.Goals as goal

pub returns-then-not-is_alike : goal.returns-then-not-is_alike
returns-then-not-is_alike c = λ f t. sym (ap (λ z. z && nameless_eq (f c.args.kid.now.code) (f c.args.other.now.code)) (sym c.is_alike.ensures ∙ c.if-not-is_alike.true))

pub returns : goal.returns
returns c = λ f t.
    alike-told (option_eq (λ x y. true) c.args.kid.now.binder c.args.other.now.binder) (nameless_eq (f c.args.kid.now.code) (f c.args.other.now.code)) c.known.result (sym c.is_alike.ensures ∙ c.if-not-is_alike.false) (c.known.ensures f t)
