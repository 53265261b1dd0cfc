use Rattle.std.proofs.Common.{ap, ◌∙◌, length, replicate, None, arith, ◌≡◌}
use Rattle.dh_shelf.specs.Shelves.{slot_count}
use Rattle.dh_shelf.proofs.shelves.Shelf.pass.Goals as goal

pub returns-clause-unseen : goal.returns-clause-unseen
returns-clause-unseen g c =
    let e : length c.deref-slot-items.result.now ≡ slot_count = ap length c.deref-slot-items.ensures.value ∙ c.self.invariant in
    let f : c.loop-slot.slot-index ≡ slot_count = omega (arith, e, c.loop-slot-test.false, c.loop-slot.auto.slot-index-end) in
    c.loop-slot.invariant.1 ∙ ap (λ n. replicate n None) f
