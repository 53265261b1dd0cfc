-- Where each node of an expression stands in its text: a tree of the expression's shape that gives each node the offset of the
-- first token and the offset after the last token of the stretch that derives it.
use Rattle.std.specs.Prelude.{◌≡◌, ℕ, List}
use Rattle.dh_syntax.specs.declared.tokens.Token.{Token}
use Rattle.dh_syntax.specs.Expressions.Tree.{Term}
use Rattle.dh_syntax.specs.Text.Derivation.{Derivation}
use Rattle.dh_syntax.specs.Text.Noting.{Noting, begins_at, ends_before, noted}
use Rattle.dh_syntax.specs.Text.Spelling.{Spells}

-- the stretches of some nodes: of the first one, those of its parts in their order, and those of the other nodes
pub data Spans : Type 0 where
  no_spans : Spans
  span : ℕ → ℕ → Spans → Spans → Spans

-- one node alone
abbrev pub spans : ℕ → ℕ → Spans → Spans
spans from to parts = span from to parts no_spans

-- the stretches of some nodes and then those of others
abbrev pub joined : Spans → Spans → Spans
joined no_spans b = b
joined (span from to parts a) b = span from to parts (joined a b)

-- the stretches of the parts of the first node
abbrev pub parts_of : Spans → Spans
parts_of no_spans = no_spans
parts_of (span from to parts rest) = parts

-- the way of noting that keeps the stretch of each node
abbrev pub stretching : Noting
stretching = record { row = Spans; none = no_spans; joined = joined; node = spans; import_node = λ from to. spans from to no_spans; parts = parts_of }

-- the stretches of tokens of these numbers, as stretches of the text
abbrev pub in_text : List Token → Spans → Spans
in_text tokens no_spans = no_spans
in_text tokens (span from to parts rest) = span (begins_at tokens from) (ends_before tokens to) (in_text tokens parts) (in_text tokens rest)

-- the stretches of these tokens, by a tree of theirs
abbrev pub spans_of : List Token → Derivation → Spans
spans_of tokens d = in_text tokens (noted stretching d 0).0

-- the text spells this expression, and this is the tree of its stretches
abbrev pub SpellsAt : List ℕ → Term → Spans → Type 0
SpellsAt bytes e s = (p : Spells bytes e) × (spans_of p.tokens p.tree ≡ s)
