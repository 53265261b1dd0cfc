use Rattle.std.proofs.Common.{◌≡◌, ◌++◌, map, sym, ap, ◌∙◌, rules, arith}
use Rattle.std.proofs.lemmas.Grind.{common_steps}
use Rattle.dh_shared.specs.Held.{none_held}
use Rattle.dh_session.proofs.Moves.{moved, all_push}
use Rattle.dh_session.proofs.places.seat_desks.Goals as goal

pub loop-seat-preserved : goal.loop-seat-preserved
loop-seat-preserved g c = record {
  desks = rw c.put.ensures.items (moved (λ p. p.desk) c.loop-seat.places.items _ c.take_first-desk.new.v.items
      ∙ ap (λ ds. map (λ p. p.desk) c.loop-seat.places.items ++ ds) (sym c.take_first-desk.ensures.items) ∙ c.loop-seat.invariant.desks);
  new = all_push (λ p. p.seat.shares ≡ none_held 1) c.loop-seat.places.items _ _ c.put.ensures.items c.loop-seat.invariant.new (search rules);
  left = search rules;
  count = omega (arith, c.in-Some.ensures.len);
  some_left = omega (arith, c.in-Some.ensures.len);
  enough = omega (arith, c.in-Some.ensures.len);
  room = omega (arith, c.in-Some.ensures.len);
  room_seats = search rules;
  room_desks = search rules;
}
