use Rattle.std.proofs.Common.{◌≡◌, ◌≤◌, ◌+◌, ◌++◌, map, vec_len, true, ◌<◌}
use Rattle.std.specs.Prelude.{All, vec_capacity}
use Rattle.dh_shared.specs.Held.{none_held}
use Rattle.dh_session.proofs.places.stand_again.Given as goal

abbrev pub invariant-loop-place : goal.invariant-loop-place
invariant-loop-place g l = record {
  desks : map (λ p. p.desk) l.places.items ++ l.desks.items ≡ map (λ p. p.desk) l.fn.places.items ++ l.initial.desks.items;
  seats : map (λ p. p.seat) l.places.items ++ l.seats.items ≡ map (λ p. p.seat) l.fn.places.items ++ l.initial.seats.items;
  desks_len : vec_len l.desks + vec_len l.places ≡ vec_len l.initial.desks + vec_len l.fn.places;
  seats_len : vec_len l.seats + vec_len l.places ≡ vec_len l.initial.seats + vec_len l.fn.places;
  room : vec_len l.desks + vec_len l.places ≤ vec_capacity l.desks;
  room_seats : vec_len l.seats + vec_len l.places ≤ vec_capacity l.seats;
}

abbrev pub decreases-loop-place : goal.decreases-loop-place
decreases-loop-place g l = vec_len l.places
