use Rattle.std.proofs.Common.{sym, ◌∙◌}
use Rattle.dh_syntax.proofs.SameTree.{term_eq-Decides}
use Rattle.dh_terms.proofs.sameness.same.Goals as goal

pub returns-clause-decides : goal.returns-clause-decides
returns-clause-decides c = (
  λ h. sym c.in_ok-left.ensures.renames ∙ (term_eq-Decides _ _).0 (sym c.is_same_expr.ensures ∙ h) ∙ c.in_ok-right.ensures.renames,
  λ s. c.is_same_expr.ensures ∙ (term_eq-Decides _ _).1 (c.in_ok-left.ensures.renames ∙ s ∙ sym c.in_ok-right.ensures.renames),
)
