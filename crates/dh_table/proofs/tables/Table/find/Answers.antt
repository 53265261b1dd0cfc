use Rattle.std.proofs.Common.{refl, subst as along}
use Rattle.dh_table.specs.Inside.Searching.{IsFound, Stands}
use Rattle.dh_table.specs.States.{state_of}
use Rattle.dh_table.specs.Tables.{view_of}
use Rattle.dh_table.proofs.tables.Table.find.Goals as goal

pub invariant_of-self : goal.invariant_of-self
invariant_of-self g c =
    let t = c.self.inside in
    let inv = c.self.invariant in
    let stands : Stands t.keys t.texts.items t.looks.items t.flights.items (state_of (view_of {W = g.row.W.Denot} t)) = record { texts_are = refl; looks_are = refl; asks = inv.asks; flights_are = refl } in
    record {
      replays = inv.replays;
      flights_named = inv.flights_named;
      drawn_named = inv.drawn_named;
      decided_named = inv.decided_named;
      limited_named = inv.limited_named;
      history_named = inv.history_named;
      owned = inv.owned;
      asks = inv.asks;
      known = inv.known;
      fit = inv.fit;
      scratch = record { explored = c.find_open.ensures.room; seen = inv.scratch.seen; trail = inv.scratch.trail };
      explored = (rw (c.of.ensures, c.of-2.ensures, c.as_slice.ensures.value, c.as_slice-2.ensures.value, c.as_slice-3.ensures.value) at c.find_open.ensures.knows) (state_of (view_of {W = g.row.W.Denot} t)) refl stands inv.explored;
      texts_told = inv.texts_told;
      looks_shelved = inv.looks_shelved;
      text_order = inv.text_order;
      look_order = inv.look_order;
      room = inv.room;
    }

pub returns-clause-found : goal.returns-clause-found
returns-clause-found g c =
    let t = c.self.inside in
    let stands : Stands t.keys t.texts.items t.looks.items t.flights.items (state_of (view_of {W = g.row.W.Denot} t)) = record { texts_are = refl; looks_are = refl; asks = c.self.invariant.asks; flights_are = refl } in
    along (λ v. IsFound (state_of v) v.keys c.find_open.result) c.self.view_is
    ((rw (c.of.ensures, c.of-2.ensures, c.as_slice.ensures.value, c.as_slice-2.ensures.value, c.as_slice-3.ensures.value) at c.find_open.ensures.found) (state_of (view_of {W = g.row.W.Denot} t)) refl stands c.self.invariant.explored)
