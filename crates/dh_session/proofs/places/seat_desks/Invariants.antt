use Rattle.std.proofs.Common.{◌≡◌, ◌≤◌, ◌+◌, ◌++◌, map, vec_len, true, ◌<◌}
use Rattle.std.specs.Prelude.{All, vec_capacity}
use Rattle.dh_shared.specs.Held.{none_held}
use Rattle.dh_session.proofs.places.seat_desks.Given as goal

abbrev pub invariant-loop-seat : goal.invariant-loop-seat
invariant-loop-seat g l = record {
  desks : map (λ p. p.desk) l.places.items ++ l.desks.items ≡ l.initial.desks.items;
  new : All (λ p. p.seat.shares ≡ none_held 1) l.places.items;
  left : All (λ s. s.shares ≡ none_held 1) l.seats.items;
  count : vec_len l.places + vec_len l.seats ≡ vec_len l.initial.seats;
  some_left : vec_len l.desks + vec_len l.initial.seats ≡ vec_len l.initial.desks + vec_len l.seats;
  enough : vec_len l.seats ≤ vec_len l.desks;
  room : vec_len l.places + vec_len l.seats ≤ vec_capacity l.places;
  room_seats : vec_capacity l.seats ≡ vec_capacity l.initial.seats;
  room_desks : vec_capacity l.desks ≡ vec_capacity l.initial.desks;
}

abbrev pub decreases-loop-seat : goal.decreases-loop-seat
decreases-loop-seat g l = vec_len l.seats
