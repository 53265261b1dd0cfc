use Rattle.std.proofs.Common.{arith, ap, sym, ◌∙◌, length, map, subst}
use Rattle.std.proofs.lemmas.List.{length-map}
use Rattle.dh_shelf.specs.Shelves.{slot_count, seen_at, Agree}
use Rattle.dh_shelf.proofs.Finding.{agree_all, agree_finds, agree_on, set_back}
use Rattle.dh_shelf.proofs.Showing.{same_at}
use Rattle.dh_shelf.proofs.passes.Pass.compare.Goals as goal

pub compare-requires : goal.compare-requires
compare-requires g c =
    same_at (λ n. n.cell) (λ n. n.cell) c.loop-i.other-inside.notes.items c.loop-i.self-inside.notes.items c.loop-i.i slot_count c.index_mut-in-loop-i.result.now c.index_mut.result.now
    (ap (map (λ n. n.cell)) c.loop-i.invariant.1 ∙ ap (λ p. p.cells) c.other.view_is ∙ c.requires.of_one ∙ sym (ap (λ p. p.cells) c.self.view_is) ∙ sym (ap (map (λ n. n.cell)) c.loop-i.invariant.0))
    (ap length c.loop-i.invariant.1 ∙ c.other.invariant) (ap length c.loop-i.invariant.0 ∙ c.self.invariant) c.loop-i-test.true c.index_mut-in-loop-i.ensures.value c.index_mut.ensures.value

pub loop-i-preserved : goal.loop-i-preserved
loop-i-preserved g c = (
  set_back _ _ c.loop-i.i c.index_mut.result.now c.compare.new.mine c.loop-i.invariant.0 c.index_mut.ensures.value c.compare.ensures.same.0,
  set_back _ _ c.loop-i.i c.index_mut-in-loop-i.result.now c.compare.new.theirs c.loop-i.invariant.1 c.index_mut-in-loop-i.ensures.value c.compare.ensures.same.1,
  agree_on (λ n. n.known) c.self.inside.notes.items c.loop-i.self-inside.notes.items c.other.inside.notes.items c.loop-i.other-inside.notes.items c.loop-i.i slot_count c.index_mut.result.now c.index_mut-in-loop-i.result.now c.loop-i.invariant.0 c.loop-i.invariant.1
      c.self.invariant c.other.invariant c.loop-i-test.true c.index_mut.ensures.value c.index_mut-in-loop-i.ensures.value c.compare.ensures.agree c.loop-i.invariant.2,
)

every : (g : _) (c : goal.After-loop-i g) → (at : _) → Agree (seen_at c.args.self.now.seen at) (seen_at c.args.other.now.seen at)
every g c at =
    subst (λ s. Agree (seen_at s at) (seen_at c.args.other.now.seen at)) (ap (λ p. p.seen) c.self.view_is)
    (subst (λ s. Agree (seen_at (map (λ n. n.known) c.self.inside.notes.items) at) (seen_at s at)) (ap (λ p. p.seen) c.other.view_is)
    (agree_all (map (λ n. n.known) c.self.inside.notes.items) (map (λ n. n.known) c.other.inside.notes.items) c.loop-i.i
    (let e = length-map c.self.inside.notes.items (λ n. n.known) ∙ c.self.invariant in omega (arith, e, c.loop-i-test.false)) c.loop-i.invariant.2 at))

pub returns-clause-slots : goal.returns-clause-slots
returns-clause-slots g c = every g c

pub returns-clause-found : goal.returns-clause-found
returns-clause-found g c d e f p q = agree_finds c.args.self.now.seen c.args.other.now.seen d e f (every g c) p q
