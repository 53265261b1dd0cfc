-- What the alternatives, fields and entries of the program stand for, in the order of their labels.
use Rattle.std.specs.Prelude.{List, map, Option}
use Rattle.dh_syntax.specs.Expressions.Tree.{Name}
use Rattle.dh_grammar.specs.Stubs as stubs
use Rattle.dh_operands.specs.Operands.{part_of, note_of}
use Rattle.dh_operands.specs.declared.alternatives.Alternatives.{Alternatives}
use Rattle.dh_operands.specs.declared.parts.Part.{Part}
use Rattle.dh_operands.specs.declared.rows.Entry.{Entry}
use Rattle.dh_operands.specs.declared.rows.Entries.{Entries}
use Rattle.dh_operands.specs.declared.rows.Fields.{Fields}

-- alternatives in the order of their labels
abbrev pub alternative_rows : List (Name × Option Part) → List (Name × Option (stubs.Part))
alternative_rows as' = map (λ a. (a.0, note_of a.1)) as'

-- the alternatives of a union of the program, by their labels
abbrev pub alternatives_of : Alternatives → List (Name × Option (stubs.Part))
alternatives_of as' = alternative_rows as'.by_label

-- rows in the order of their labels
abbrev pub rows_of : List (Name × Part) → List (Name × stubs.Part)
rows_of rs = map (λ r. (r.0, part_of r.1)) rs

-- the fields of a record type of the program, by their labels
abbrev pub fields_of : Fields → List (Name × stubs.Part)
fields_of fs = rows_of fs.rows

-- the label and the value of an entry of the program
abbrev pub entry_of : Entry → Name × stubs.Part
entry_of e = (e.label, part_of e.value)

-- the entries of a record of the program, by their labels
abbrev pub entries_of : Entries → List (Name × stubs.Part)
entries_of es = rows_of es.rows
