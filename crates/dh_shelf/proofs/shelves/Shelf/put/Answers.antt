use Rattle.std.proofs.Common.{ap, sym, ◌∙◌, Some, subst}
use Rattle.dh_shelf.specs.Inside.{IsOffered, IsSame}
use Rattle.dh_shelf.specs.Shelves.{seen_at, slot_of}
use Rattle.dh_shelf.proofs.Finding.{took_slot, there_in_slot}
use Rattle.dh_shelf.proofs.shelves.Shelf.put.Goals as goal

pub returns-in-Took-clause-answer : goal.returns-in-Took-clause-answer
returns-in-Took-clause-answer g c =
    let h = subst (IsOffered c.loop-i.entry (seen_at c.loop-i.pass.seen c.slot_of.result) (seen_at c.offer.new.pass.seen c.slot_of.result)) c.in-Took.is c.offer.ensures.value in
    took_slot c.args.self.now c.loop-i.pass.cells c.args.pass.now.seen c.loop-i.pass.seen c.offer.new.pass.seen c.digest-digest.result c.loop-i.i c.loop-i.invariant.0 c.offer.ensures.keeps c.loop-i-test.true c.args.entry c.digest-digest.ensures
    (ap (seen_at c.loop-i.pass.seen) (sym c.slot_of.ensures.value) ∙ h.0) (ap (seen_at c.offer.new.pass.seen) (sym c.slot_of.ensures.value) ∙ h.1 ∙ ap Some c.loop-i.invariant.1)

pub returns-in-There-clause-answer : goal.returns-in-There-clause-answer
returns-in-There-clause-answer g c =
    let h = subst (IsOffered c.loop-i.entry (seen_at c.loop-i.pass.seen c.slot_of.result) (seen_at c.offer.new.pass.seen c.slot_of.result)) c.in-There.is c.offer.ensures.value in
    there_in_slot c.args.self.now c.loop-i.pass.cells c.args.pass.now.seen c.loop-i.pass.seen c.offer.new.pass.seen c.digest-digest.result c.loop-i.i c.loop-i.invariant.0 c.offer.ensures.keeps c.loop-i-test.true c.args.entry c.digest-digest.ensures
    (subst (λ e. IsSame e.digest (seen_at c.offer.new.pass.seen (slot_of c.digest-digest.result c.loop-i.i))) c.loop-i.invariant.1 (subst (λ at. IsSame c.loop-i.entry.digest (seen_at c.offer.new.pass.seen at)) c.slot_of.ensures.value h))
