-- The line of a type fault in a text: the line of the fault, and where the node stands to which its path leads.
use Rattle.std.specs.Prelude.{ℕ, List, ◌++◌, codes}
use Rattle.std.specs.Fmt.{decimal}
use Rattle.dh_syntax.specs.declared.faults.Ill.{Ill}
use Rattle.dh_syntax.specs.FaultLines.{ill_line}
use Rattle.dh_syntax.specs.Text.Places.{start_of, line_at, column_at}
use Rattle.dh_syntax.specs.Text.Spans.{Spans}

-- the line of a fault at a line and a column
abbrev pub placed_line : Ill → ℕ → ℕ → List ℕ
placed_line ill line column = ill_line ill ++ codes ", line " ++ decimal line ++ codes ", column " ++ decimal column

-- the line of a fault in a text whose nodes stand in these stretches, where this path leads to the node at fault
abbrev pub ill_line_at : List ℕ → Spans → List ℕ → Ill → List ℕ
ill_line_at text nodes path ill = placed_line ill (line_at text (start_of nodes path)) (column_at text (start_of nodes path))
