use Rattle.std.specs.Prelude.{◌≡◌, length}
use Rattle.dh_syntax.specs.Expressions.Bridge.{term}
use Rattle.dh_imports.specs.Machine.{State}
use Rattle.dh_table.specs.Inside.Searching.{HasRoom, IsSearched, Knows, Stands, left_to_see, no_hole}
use Rattle.dh_table.proofs.search.searches.find_open.Given as goal

abbrev pub invariant-keys : goal.invariant-keys
invariant-keys l = record {
  room : HasRoom (length l.keys) l.explored;
  searched : (s : State) → s.root ≡ term l.root.expr → Stands l.keys l.texts l.looks l.flights s → Knows s l.keys l.fn.explored → IsSearched s l.keys l.flights no_hole l.explored.piles;
}

abbrev pub decreases-keys : goal.decreases-keys
decreases-keys l = left_to_see l.explored.piles
