use Rattle.std.proofs.Common.{◌≡◌, ◌+◌, vec_len, map}
use Rattle.dh_shared.proofs.Sums.{AddsUp}
use Rattle.dh_shared.proofs.shared_tables.merge_all.Given as goal

abbrev pub invariant-loop-seat : goal.invariant-loop-seat
invariant-loop-seat g l = (l.all.parts + vec_len l.seats ≡ vec_len l.fn.seats) × AddsUp l.all (map (λ seat. seat.shares) l.seats.items) (map (λ seat. seat.shares) l.fn.seats.items)

abbrev pub decreases-loop-seat : goal.decreases-loop-seat
decreases-loop-seat g l = vec_len l.seats
