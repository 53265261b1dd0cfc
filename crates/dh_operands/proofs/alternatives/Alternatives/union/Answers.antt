use Rattle.std.proofs.Common.{◌≡◌, ◌++◌, ap, sym, ◌∙◌, append-nil}
use Rattle.std.specs.Vec.Iter.{into_iter_items}
use Rattle.dh_syntax.specs.declared.expressions.Op.TheVariants as ops
use Rattle.dh_grammar.specs.Stubs.{at, node, alternatives_in, types_in, is_typed}
use Rattle.dh_operands.specs.Inside.Nodes.{gathered_of, nothing, and_parts}
use Rattle.dh_operands.specs.Operands.{note_of}
use Rattle.dh_making.proofs.Loops.{nothing_left, one_taken, carried}
use Rattle.dh_operands.proofs.NodeParts.{finished}
use Rattle.dh_operands.proofs.SumRows.{rows_of, typed-is_some, and_note}
use Rattle.dh_operands.proofs.alternatives.Alternatives.union.Goals as goal

pub loop-label-preserved : goal.loop-label-preserved
loop-label-preserved c =
    let loop = c.loop-label in
    let rest = rows_of (into_iter_items c.next.new.self) in
    let note = note_of c.in-Some.annotation in (
      carried loop.alts c.push.new.self (alternatives_in rest) _ (record { label = c.in-Some.label; typed = is_typed note }) c.in_ok-push.ensures.ok
          (ap (λ b. record { label = c.in-Some.label; typed = b }) (c.is_some.ensures ∙ typed-is_some c.in-Some.annotation))
          ∙ ap (λ is. loop.alts ++ alternatives_in (rows_of is)) (sym c.in-Some.ensures.steps.0) ∙ loop.invariant.0,
      ap (λ h. and_parts h (types_in rest)) c.in_ok-push_if.ensures ∙ and_note (gathered_of loop.types) note (types_in rest)
          ∙ ap (λ is. and_parts (gathered_of loop.types) (types_in (rows_of is))) (sym c.in-Some.ensures.steps.0) ∙ loop.invariant.1,
      one_taken _ _ _ _ _ c.in-Some.ensures.steps.0 c.in-Some.ensures.steps.1 loop.invariant.2,
    )

pub returns : goal.returns
returns c =
    let loop = c.loop-label in
    let all = rows_of c.args.self.by_label in
    let none = nothing_left _ (sym loop.invariant.2 ∙ c.in-None.ensures.steps.0) in
    let whole = c.into_iter-label-iterator.ensures.into_iter_gives.0 ∙ c.in_ok-items.ensures in
    let alts : loop.alts ≡ alternatives_in all =
    sym (append-nil loop.alts) ∙ ap (λ is. loop.alts ++ alternatives_in (rows_of is)) (sym none) ∙ loop.invariant.0
    ∙ ap (λ is. alternatives_in (rows_of is)) whole in
    let types : gathered_of loop.types ≡ and_parts nothing (types_in all) =
    ap (λ is. and_parts (gathered_of loop.types) (types_in (rows_of is))) (sym none) ∙ loop.invariant.1
    ∙ ap (λ is. and_parts nothing (types_in (rows_of is))) whole in
    ap (at 17)
    (c.finish.ensures ∙ finished (ops.Union loop.alts) (types_in all) (gathered_of loop.types) types ∙ ap (λ as'. node (ops.Union as') (types_in all)) alts)
