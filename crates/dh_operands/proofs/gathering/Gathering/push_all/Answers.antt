use Rattle.std.proofs.Common.{map, ap, sym, ◌∙◌}
use Rattle.std.specs.Vec.Iter.{into_iter_items}
use Rattle.dh_grammar.specs.Stubs.{unbound}
use Rattle.dh_operands.specs.Inside.Nodes.{gathered_of, and_parts}
use Rattle.dh_operands.specs.Operands.{part_of}
use Rattle.dh_making.proofs.Loops.{nothing_left, one_taken}
use Rattle.dh_operands.proofs.gathering.Gathering.push_all.Goals as goal

pub loop-part-preserved : goal.loop-part-preserved
loop-part-preserved c =
    let at = c.loop-part in
    let rest = into_iter_items c.next.new.self in (
      ap (λ h. and_parts h (unbound (map part_of rest))) c.in_ok-push.ensures
          ∙ ap (λ is. and_parts (gathered_of at.self) (unbound (map part_of is))) (sym c.in-Some.ensures.steps.0) ∙ at.invariant.0,
      one_taken _ _ _ _ _ c.in-Some.ensures.steps.0 c.in-Some.ensures.steps.1 at.invariant.1,
    )

pub returns : goal.returns
returns c =
    let at = c.loop-part in
    let none = nothing_left _ (sym at.invariant.1 ∙ c.in-None.ensures.steps.0) in
    ap (λ is. and_parts (gathered_of at.self) (unbound (map part_of is))) (sym none) ∙ at.invariant.0
    ∙ ap (λ is. and_parts (gathered_of c.args.self.now) (unbound (map part_of is))) c.into_iter-part-iterator.ensures.into_iter_gives.0
