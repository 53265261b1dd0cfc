-- Where the imports of a text stand, and the nodes of its expression.
use Rattle.std.specs.Prelude.{◌≡◌, ℕ, ◌≤◌, List, [], Ok}
use Rattle.dh_syntax.specs.declared.tokens.Token.{Token}
use Rattle.dh_syntax.specs.Expressions.Tree.{Term}
use Rattle.dh_syntax.specs.Limits.{most_nesting}
use Rattle.dh_syntax.specs.Text.Lexing.{lex}
use Rattle.dh_syntax.specs.Text.Noting.{Noting}
use Rattle.dh_syntax.specs.Text.Offsets.{SpellsWith, locating, offsets_after}
use Rattle.dh_syntax.specs.Text.Spans.{Spans, SpellsAt, stretching, in_text}
use Rattle.dh_syntax.specs.Text.Spelling.{IsText, Spells}
use Rattle.dh_grammar.specs.Machine.{need}
use Rattle.dh_grammar.specs.Placing.{Placed, placing}
use Rattle.dh_grammar.specs.Reading.{accepted, reading, reading_at}
use Rattle.dh_grammar.specs.Stubs.{Kept, stubs}

-- the machine that notes places accepts the tokens that the machine over expressions accepts
abbrev pub PlacesStubs : Noting → Type 0
PlacesStubs notes = (ts : List Token) (x : Kept) → reading stubs (need []) ts ≡ accepted x → (p : Placed notes) × (reading_at (placing notes) 0 (need []) ts ≡ accepted p)

-- what is read so spells its expression, and the imports stand where the machine has noted them
abbrev pub ReadsOffsets : Type 0
ReadsOffsets =
    (bytes : List ℕ) (ts : List Token) (x : Kept) (p : Placed locating) → IsText bytes → lex bytes ≡ Ok ts → x.part.nests ≤ most_nesting → reading stubs (need []) ts ≡ accepted x
    → reading_at (placing locating) 0 (need []) ts ≡ accepted p → SpellsWith bytes x.part.expression (offsets_after ts p.nodes)

-- and so do the nodes
abbrev pub ReadsStretches : Type 0
ReadsStretches =
    (bytes : List ℕ) (ts : List Token) (x : Kept) (p : Placed stretching) → IsText bytes → lex bytes ≡ Ok ts → x.part.nests ≤ most_nesting → reading stubs (need []) ts ≡ accepted x
    → reading_at (placing stretching) 0 (need []) ts ≡ accepted p → SpellsAt bytes x.part.expression (in_text ts p.nodes)

-- the imports of a text that spells an expression stand somewhere, and in one way only
abbrev pub HasOffsets : Type 0
HasOffsets = (bytes : List ℕ) (e : Term) → Spells bytes e → (places : List ℕ) × SpellsWith bytes e places

-- the imports of a text stand in one way only
abbrev pub OffsetsAreUnique : Type 0
OffsetsAreUnique = (bytes : List ℕ) (e f : Term) (p q : List ℕ) → SpellsWith bytes e p → SpellsWith bytes f q → p ≡ q

-- as do its nodes
abbrev pub HasStretches : Type 0
HasStretches = (bytes : List ℕ) (e : Term) → Spells bytes e → (s : Spans) × SpellsAt bytes e s

-- the nodes of a text's expression stand in one way only
abbrev pub StretchesAreUnique : Type 0
StretchesAreUnique = (bytes : List ℕ) (e f : Term) (s t : Spans) → SpellsAt bytes e s → SpellsAt bytes f t → s ≡ t
