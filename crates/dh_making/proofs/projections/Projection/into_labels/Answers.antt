use Rattle.std.proofs.Common.{◌++◌, refl, ap, sym, ◌∙◌, append-nil}
use Rattle.std.specs.Vec.Iter.{into_iter_items}
use Rattle.dh_syntax.specs.Text.Meaning.{names}
use Rattle.dh_making.proofs.Loops.{nothing_left, one_taken, carried}
use Rattle.dh_making.proofs.projections.Projection.into_labels.Goals as goal

pub loop-label-preserved : goal.loop-label-preserved
loop-label-preserved c =
    let loop = c.loop-label in (
      carried loop.labels c.push.new.self (names (into_iter_items c.next.new.self)) _ _ c.in_ok-push.ensures.ok refl
          ∙ ap (λ is. loop.labels ++ names is) (sym c.in-Some.ensures.steps.0) ∙ loop.invariant.0,
      one_taken _ _ _ _ _ c.in-Some.ensures.steps.0 c.in-Some.ensures.steps.1 loop.invariant.1,
    )

pub returns : goal.returns
returns c =
    let loop = c.loop-label in
    let none = nothing_left _ (sym loop.invariant.1 ∙ c.in-None.ensures.steps.0) in
    sym (append-nil loop.labels) ∙ ap (λ is. loop.labels ++ names is) (sym none) ∙ loop.invariant.0
    ∙ ap names (c.into_iter-label-iterator.ensures.into_iter_gives.0 ∙ c.in_ok-items.ensures ∙ c.args.self.same)
