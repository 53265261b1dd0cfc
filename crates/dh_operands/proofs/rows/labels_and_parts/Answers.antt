use Rattle.std.proofs.Common.{◌++◌, refl, ap, sym, ◌∙◌, append-nil}
use Rattle.std.specs.Vec.Iter.{into_iter_items}
use Rattle.dh_syntax.specs.Text.Meaning.{names, values}
use Rattle.dh_grammar.specs.Stubs.{unbound}
use Rattle.dh_operands.specs.Inside.Nodes.{gathered_of, nothing, and_parts}
use Rattle.dh_operands.specs.Rows.{rows_of}
use Rattle.dh_making.proofs.Loops.{nothing_left, one_taken, carried}
use Rattle.dh_operands.proofs.rows.labels_and_parts.Goals as goal

pub loop-label-preserved : goal.loop-label-preserved
loop-label-preserved c =
    let loop = c.loop-label in
    let rest = into_iter_items c.next.new.self in (
      carried loop.labels c.push.new.self (names (rows_of rest)) _ _ c.in_ok-push.ensures.ok refl
          ∙ ap (λ is. loop.labels ++ names (rows_of is)) (sym c.in-Some.ensures.steps.0) ∙ loop.invariant.0,
      ap (λ h. and_parts h (unbound (values (rows_of rest)))) c.in_ok-push-2.ensures
          ∙ ap (λ is. and_parts (gathered_of loop.parts) (unbound (values (rows_of is)))) (sym c.in-Some.ensures.steps.0) ∙ loop.invariant.1,
      one_taken _ _ _ _ _ c.in-Some.ensures.steps.0 c.in-Some.ensures.steps.1 loop.invariant.2,
    )

pub returns-clause-labels : goal.returns-clause-labels
returns-clause-labels c =
    let loop = c.loop-label in
    let none = nothing_left _ (sym loop.invariant.2 ∙ c.in-None.ensures.steps.0) in
    sym (append-nil loop.labels) ∙ ap (λ is. loop.labels ++ names (rows_of is)) (sym none) ∙ loop.invariant.0
    ∙ ap (λ is. names (rows_of is)) (c.into_iter-label-iterator.ensures.into_iter_gives.0 ∙ c.in_ok-items.ensures)

pub returns-clause-parts : goal.returns-clause-parts
returns-clause-parts c =
    let loop = c.loop-label in
    let none = nothing_left _ (sym loop.invariant.2 ∙ c.in-None.ensures.steps.0) in
    ap (λ is. and_parts (gathered_of loop.parts) (unbound (values (rows_of is)))) (sym none) ∙ loop.invariant.1
    ∙ ap (λ is. and_parts nothing (unbound (values (rows_of is)))) (c.into_iter-label-iterator.ensures.into_iter_gives.0 ∙ c.in_ok-items.ensures)
