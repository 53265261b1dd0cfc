use Rattle.std.proofs.Common.{rules, ◌≡◌, ap, sym, ◌∙◌, length}
use Rattle.std.specs.Prelude.{◌-◌, Some, slice_set}
use Rattle.dh_demand.specs.declared.ends.Next.TheVariants as next
use Rattle.dh_demand.proofs.Behind.{unready_kept, taken_written, untaken_kept}
use Rattle.dh_demand.proofs.freezing.FreezerVisitor.visit.Goals as goal

pub returns-then-not-is_ready-clause-slots : goal.returns-then-not-is_ready-clause-slots
returns-then-not-is_ready-clause-slots g c k h = unready_kept _ k c.args.edge _ _ c.visit-next.result (c.visit-next.ensures.next k h) (λ e. search rules)

pub returns-then-takes_digest-clause-slots : goal.returns-then-takes_digest-clause-slots
returns-then-takes_digest-clause-slots g c k h =
    let ready : c.visit-next.result ≡ next.Ready = search rules in
    c.write.ensures ∙ ap (λ i. slice_set c.args.keys.now i (Some c.args.edge.key)) c.saturating_sub.ensures
    ∙ taken_written _ k c.args.edge (length c.args.keys.now - c.args.left) c.args.keys.now c.key.result.now c.visit-next.result h c.key.ensures ready (c.visit-next.ensures.next k h) (sym c.takes_digest.ensures ∙ c.if-takes_digest.true)

pub returns-else-takes_digest-clause-slots : goal.returns-else-takes_digest-clause-slots
returns-else-takes_digest-clause-slots g c k h =
    let ready : c.visit-next.result ≡ next.Ready = search rules in
    untaken_kept _ k c.args.edge _ _ c.key.result.now c.visit-next.result h c.key.ensures ready (c.visit-next.ensures.next k h) (sym c.takes_digest.ensures ∙ c.if-takes_digest.false)
