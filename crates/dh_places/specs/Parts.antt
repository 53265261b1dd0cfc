-- What the parts of the program stand for, by what their notes stand for.
use Rattle.std.specs.Prelude.{List, map, Option, option_map}
use Rattle.dh_syntax.specs.Expressions.Tree.{Name}
use Rattle.dh_syntax.specs.Text.Noting as noting
use Rattle.dh_syntax.specs.Text.Noting.{Noting, Labelled}
use Rattle.dh_grammar.specs.Placing as placing
use Rattle.dh_places.specs.declared.parts.Placed.{Placed}
use Rattle.dh_places.specs.declared.parts.Row.{Row}
use Rattle.dh_places.specs.declared.parts.Pending.{Pending}
use Rattle.dh_places.specs.declared.parts.Lets.{Lets}
use Rattle.dh_places.specs.declared.parts.Rows.{Rows}
use Rattle.dh_places.specs.declared.parts.Stand.{Stand}
use Rattle.dh_places.specs.declared.parts.Entry.{Entry}
use Rattle.dh_places.specs.declared.parts.Entries.{Entries}

module _ (notes : Noting) {R : Type 0} (row : R → notes.row) where
  abbrev pub placed_of : Placed R → placing.Placed notes
  placed_of x = record { first = x.first; last = x.last; nodes = row x.nodes; level = x.level; special = x.special }

  abbrev pub row_of : Row R → placing.Row notes
  row_of r = record { first = r.first; nodes = row r.nodes }

  abbrev pub note_of : Option (Row R) → Option (placing.Row notes)
  note_of r = option_map row_of r

  abbrev pub pending_of : Pending R → noting.Pending notes
  pending_of p = record { from = p.from; parts = row p.parts }

  abbrev pub lets_of : Lets R → placing.PlacedLets notes
  lets_of ls = record { first = ls.first; pendings = map pending_of ls.pendings.items }

  abbrev pub labelled : List (Name × R) → Labelled notes.row
  labelled rs = map (λ r. (r.0, row r.1)) rs

  abbrev pub rows_of : Rows R → placing.PlacedRows notes
  rows_of rs = record { first = rs.first; rows = labelled rs.rows }

  abbrev pub stand_of : Stand R → noting.Stand notes
  stand_of s = record { value = row s.value; from = s.from; to = s.to }

  abbrev pub entry_of : Entry R → Name × (noting.Stand notes)
  entry_of e = (e.label, stand_of e.stand)

  abbrev pub stands_under : List (Name × Stand R) → Labelled (noting.Stand notes)
  stands_under es = map (λ e. (e.0, stand_of e.1)) es

  abbrev pub entries_of : Entries R → placing.PlacedEntries notes
  entries_of es = record { first = es.first; rows = stands_under es.rows }
