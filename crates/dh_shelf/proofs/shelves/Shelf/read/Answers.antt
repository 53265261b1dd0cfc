use Rattle.std.proofs.Common.{ap, ◌∙◌, map, set, subst, sym}
use Rattle.dh_shelf.proofs.Finding.{seen_set, grows_by_note}
use Rattle.dh_shelf.proofs.Showing.{same_at, same_shown}
use Rattle.dh_shelf.specs.Shelves.{Grows}
use Rattle.dh_shelf.proofs.shelves.Shelf.read.Goals as goal

pub read-requires : goal.read-requires
read-requires g c =
    same_at (λ n. n.cell) (λ s. s.1) c.pass.inside.notes.items c.self.inside.slots.items c.args.at _ c.index_mut.result.now c.index.result.now (ap (λ p. p.cells) c.pass.view_is ∙ c.requires.of_this ∙ sym c.self.view_is) c.pass.invariant
    c.self.invariant c.requires.within c.index_mut.ensures.value c.index.ensures

pub returns-clause-cells : goal.returns-clause-cells
returns-clause-cells g c = same_shown (λ n. n.cell) c.pass.inside.notes.items c.args.at c.index_mut.result.now c.read.new.note c.index_mut.ensures.value c.read.ensures.cell ∙ ap (λ p. p.cells) c.pass.view_is

pub returns-clause-keeps : goal.returns-clause-keeps
returns-clause-keeps g c =
    subst (λ s. Grows s (map (λ n. n.known) (set c.pass.inside.notes.items c.args.at c.read.new.note))) (ap (λ p. p.seen) c.pass.view_is)
    (grows_by_note (λ n. n.known) c.pass.inside.notes.items c.args.at _ c.index_mut.result.now c.read.new.note c.pass.invariant c.requires.within c.index_mut.ensures.value c.read.ensures.stays)

pub returns-clause-value : goal.returns-clause-value
returns-clause-value g c = sym c.read.ensures.known ∙ seen_set (λ n. n.known) c.pass.inside.notes.items c.args.at _ c.read.new.note c.pass.invariant c.requires.within
