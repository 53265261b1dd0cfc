use Rattle.std.proofs.Common.{ap, sym, ◌∙◌}
use Rattle.dh_syntax.specs.Expressions.Tree.{Leaf}
use Rattle.dh_syntax.specs.Names.Nameless as ref
use Rattle.dh_types.proofs.ChangedCodes.{same-number}
use Rattle.dh_infer.specs.Inside.OpenTyping.{level}
use Rattle.dh_infer.proofs.sharing.are_same.Goals as goal

pub returns-in-Bound-Bound : goal.returns-in-Bound-Bound
returns-in-Bound-Bound c = λ e g m h.
    c.in-Bound-Bound.ensures.form g m ∙ ap (λ k. Leaf (ref.Bound k)) (same-number c.in-Bound-Bound.i c.in-Bound-Bound.j e) ∙ sym (c.in-Bound-Bound.ensures'.form g m)

pub returns-in-Level-Level : goal.returns-in-Level-Level
returns-in-Level-Level c = λ e g m h.
    c.in-Level-Level.ensures.form g m ∙ ap (λ k. Leaf (level k)) (same-number c.in-Level-Level.m c.in-Level-Level.n e) ∙ sym (c.in-Level-Level.ensures'.form g m)
