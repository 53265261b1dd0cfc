use Rattle.std.proofs.Common.{None, ◌∙◌, ap}
use Rattle.dh_syntax.proofs.Bridge.{term-Var}
use Rattle.dh_syntax.specs.Expressions.Tree.{Leaf}
use Rattle.dh_syntax.specs.Text.Meaning.{variable_term}
use Rattle.dh_grammar.specs.Stubs.{kept}
use Rattle.dh_operands.proofs.rows.Entry.alone.Goals as goal

pub returns : goal.returns
returns c =
    ap (λ p. (c.in_ok-label.label, p))
    (c.kept-value.ensures ∙ ap (λ t. kept t 0) (term-Var _ 0 ∙ ap (λ x. Leaf (record { name = x; index = 0 })) c.in_ok-copied.ensures))
    ∙ ap (λ x. (x, kept (variable_term x None) 0)) c.in_ok-label.ensures
