-- Marks of the program as marks of the definition.
use Rattle.std.specs.Prelude.{◌≡◌, ℕ, ◌<◌, Bool, true, false, List, ◌∷◌, Option, Some, None, map}
use Rattle.std.specs.Borrow.{Bor}
use Rattle.dh_syntax.specs.declared.tokens.Mark.{Mark}
use Rattle.dh_syntax.specs.declared.tokens.TokenKind.TheVariants as kinds
use Rattle.dh_syntax.specs.Text.LexForms.{Form, Is, form, longest}
use Rattle.dh_syntax.specs.Text.LexMarks.{Spelled, mark, mark_form, spelled}

-- a row of a table of marks
abbrev pub spelled_of : Bor (List ℕ) × Mark → Spelled
spelled_of row = spelled row.0.now row.1

-- the longest mark of a table
abbrev pub longest_of : List ℕ → List (Bor (List ℕ) × Mark) → Option Form
longest_of bs table = longest (map (mark_form bs) (map spelled_of table))

-- the form of a mark of so many bytes
abbrev pub best_of : Option (Mark × ℕ) → Option Form
best_of None = None
best_of (Some m) = form (Is (kinds.Mark m.0)) m.1

-- whatever stands behind this byte, the longest mark is the mark of the byte alone
abbrev pub IsAlone : Mark → ℕ → Type 0
IsAlone m b = (0 < b) × ((bs : List ℕ) → mark (b ∷ bs) ≡ form (Is (kinds.Mark m)) 1)

-- the mark of two bytes or that of the first one, by whether the second one stands there
abbrev pub pair_form : Bool → Mark → Option Mark → Option Form
pair_form true both one = form (Is (kinds.Mark both)) 2
pair_form false both None = None
pair_form false both (Some m) = form (Is (kinds.Mark m)) 1
