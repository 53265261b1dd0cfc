-- The stretches that a tree of the program is.
use Rattle.std.specs.Prelude.{List, [], ◌∷◌}
use Rattle.dh_syntax.specs.Text.Spans.{Spans, no_spans, span, joined}
use Rattle.dh_places.specs.declared.spans.Span.{Span}
use Rattle.dh_places.specs.declared.spans.Span.TheOpen.{Span-F}
use Rattle.dh_places.specs.declared.spans.Span.TheFolds.{fold-Span}

-- of several nodes in a row
abbrev pub row : List Spans → Spans
row [] = no_spans
row (s ∷ ss) = joined s (row ss)

-- the stretch of a node, by those of its parts
abbrev pub span_step : Span-F Spans → Spans
span_step s = span s.from s.to (row s.parts) no_spans

-- of one node
unfoldable pub span_of : Span → Spans
span_of = fold-Span Spans span_step

-- the stretches of nodes, one by one
abbrev pub each : List Span → List Spans
each [] = []
each (s ∷ ss) = span_of s ∷ each ss

-- of several nodes in a row
unfoldable pub spans_of : List Span → Spans
spans_of ss = row (each ss)
