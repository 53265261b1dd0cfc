-- What is noted of a text's nodes.
use Rattle.std.specs.Prelude.{◌≡◌, ℕ, ◌<◌, ◌^◌, List, [], length, Ok}
use Rattle.dh_syntax.specs.declared.tokens.Token.{Token}
use Rattle.dh_syntax.specs.Text.Lexing.{lex}
use Rattle.dh_syntax.specs.Text.Noting.{Noting}
use Rattle.dh_syntax.specs.Text.Offsets.{locating, offsets_after}
use Rattle.dh_syntax.specs.Text.Spans.{Spans, stretching, in_text}
use Rattle.dh_syntax.specs.Text.Spelling.{Spells}
use Rattle.dh_syntax.specs.Expressions.Tree.{Term}
use Rattle.dh_grammar.specs.Ends.{EndsLast}
use Rattle.dh_grammar.specs.Machine.{need}
use Rattle.dh_grammar.specs.Placing.{Placed, placing}
use Rattle.dh_grammar.specs.Reading.{accepted, reading_at}

-- the bytes spell an expression
abbrev pub IsSpelling : List ℕ → Type 0
IsSpelling bytes = (e : Term) × Spells bytes e

-- these tokens, of which the last is `End`, can be numbered and are read
pub record AreRead (notes : Noting) (tokens : List Token) : Type 0 where
  pub ends : EndsLast tokens
  pub few : length tokens < 2 ^ 32
  pub placed : Placed notes
  pub read : reading_at (placing notes) 0 (need []) tokens ≡ accepted placed

-- these tokens are read, and this is noted of their nodes
pub record HasNotes (notes : Noting) (tokens : List Token) (row : notes.row) : Type 0 where
  pub placed : Placed notes
  pub read : reading_at (placing notes) 0 (need []) tokens ≡ accepted placed
  pub noted : row ≡ placed.nodes

-- these are the offsets of the text's imports
pub record HasOffsets (bytes : List ℕ) (offsets : List ℕ) : Type 0 where
  pub tokens : List Token
  pub numbers : List ℕ
  pub lexed : lex bytes ≡ Ok tokens
  pub has_notes : HasNotes locating tokens numbers
  pub offset : offsets ≡ offsets_after tokens numbers

-- these are the stretches of the text's nodes
pub record HasStretches (bytes : List ℕ) (stretches : Spans) : Type 0 where
  pub tokens : List Token
  pub numbers : Spans
  pub lexed : lex bytes ≡ Ok tokens
  pub has_notes : HasNotes stretching tokens numbers
  pub stretched : stretches ≡ in_text tokens numbers
