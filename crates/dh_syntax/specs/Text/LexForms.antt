-- The forms that can stand at one place of a text, and the longest of several.
use Rattle.std.specs.Prelude.{ℕ, zero, suc, ◌+◌, List, [], ◌∷◌, Option, Some, None, nat_lt, if◌then◌else◌}
use Rattle.dh_syntax.specs.declared.tokens.TokenKind.{TokenKind}
use Rattle.dh_syntax.specs.Text.Stretches.{Stretch, UpTo, FaultAt}

-- what a form is
pub data Found : Type 0 where
  -- white space or a comment
  White : Found
  -- a line that begins with `#!`, at the start of the text
  SkippedLine : Found
  Is : TokenKind → Found
  -- a form of the standard that is left out here
  LeftOut : Found
  -- a number beyond its range
  TooWide : Found
  -- a character that cannot stand where it does, so many bytes further on
  Faulty : ℕ → Found
  -- a comment that is not closed
  Unclosed : Found

-- a form at the front of the bytes, and how many of them it takes
pub record Form : Type 0 where
  pub found : Found
  pub len : ℕ

-- a form of so many bytes, none where there are none
abbrev pub form : Found → ℕ → Option Form
form found zero = None
form found (suc n) = Some (record { found = found; len = suc n })

-- the longer of two forms, the first one where they are equally long
abbrev pub longer : Form → Option Form → Form
longer f None = f
longer f (Some g) = if nat_lt f.len g.len then g else f

-- the longest of several forms
abbrev pub longest : List (Option Form) → Option Form
longest [] = None
longest (None ∷ fs) = longest fs
longest (Some f ∷ fs) = Some (longer f (longest fs))

-- a form that goes on for a stretch after its first bytes
abbrev pub stretching : (List ℕ → Found) → ℕ → Stretch → Option Form
stretching found before (UpTo text n) = form (found text) (before + n)
stretching found before (FaultAt n) = form (Faulty (before + n)) (suc (before + n))
