use Rattle.std.proofs.Common.{◌≡◌, ◌<◌, ℕ, map}
use Rattle.dh_shelf.specs.Shelves.{Agree, seen_at}
use Rattle.dh_shelf.proofs.passes.Pass.compare.Given as goal

abbrev pub invariant-loop-i : goal.invariant-loop-i
invariant-loop-i g l =
    (l.self-inside.notes.items ≡ l.initial.self-inside.notes.items) × (l.other-inside.notes.items ≡ l.initial.other-inside.notes.items)
    × ((at : ℕ) → at < l.i → Agree (seen_at (map (λ n. n.known) l.initial.self-inside.notes.items) at) (seen_at (map (λ n. n.known) l.initial.other-inside.notes.items) at))
