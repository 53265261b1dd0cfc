use Rattle.std.proofs.Common.{◌<◌, length, sym, subst as along}
use Rattle.std.specs.Prelude.{ℕ, List, slice_set, sum_by}
use Rattle.dh_table.proofs.Piled.{moved_on, one_if, placed_inside}
use Rattle.dh_table.proofs.search.piles.pour.Goals as goal

pub keys-smaller : goal.keys-smaller
keys-smaller c =
    let piles = c.keys.piles in
    let n = c.in-Some.n in
    let from = c.args.from in
    let inside : n < length piles = placed_inside piles n from c.requires.from c.in-Some.ensures.0 in
    along (λ (x : List ℕ). sum_by (one_if from) x < sum_by (one_if from) piles) (sym c.push.ensures)
    (along (λ (x : List ℕ). sum_by (one_if from) (slice_set x n c.args.to) < sum_by (one_if from) piles) (sym c.in-Some.ensures.1)
    (moved_on piles from c.args.to n inside c.requires.from c.in-Some.ensures.0 c.requires.other))
