use Rattle.std.specs.Prelude.{◌≡◌, ◌+◌, ◌-◌, ℕ, length}
use Rattle.dh_watch.specs.Ways.{way_at}
use Rattle.dh_watch.proofs.ways.note_way.Given as goal

abbrev pub invariant-unknown : goal.invariant-unknown
invariant-unknown l = (m : ℕ) → way_at l.ways.items m ≡ way_at l.fn.ways.items m

abbrev pub decreases-unknown : goal.decreases-unknown
decreases-unknown l = l.n + 1 - length l.ways.items
