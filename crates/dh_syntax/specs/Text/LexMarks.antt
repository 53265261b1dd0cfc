-- The marks of `dhall.abnf`, with both spellings where there are two.
use Rattle.std.specs.Prelude.{ℕ, List, [], ◌∷◌, ◌++◌, Option, None, nat_eq, if◌then◌else◌, length, map, codes}
use Rattle.std.specs.List.{starts_with}
use Rattle.dh_syntax.specs.declared.operators.BinOp.TheVariants as binary
use Rattle.dh_syntax.specs.declared.tokens.Mark.{Mark}
use Rattle.dh_syntax.specs.declared.tokens.Mark.TheVariants as marks
use Rattle.dh_syntax.specs.declared.tokens.TokenKind.TheVariants as kinds
use Rattle.dh_syntax.specs.Text.LexForms.{Is, Form, form, longest}

-- a mark and its UTF-8 bytes
pub record Spelled : Type 0 where
  pub bytes : List ℕ
  pub mark : Mark

-- such a mark
abbrev pub spelled : List ℕ → Mark → Spelled
spelled bytes mark = record { bytes = bytes; mark = mark }

-- brackets of all kinds
abbrev pub brackets : List Spelled
brackets =
    spelled (codes "(") marks.ParenOpen
    ∷ spelled (codes ")") marks.ParenClose
    ∷ spelled (codes "[") marks.BracketOpen
    ∷ spelled (codes "]") marks.BracketClose
    ∷ spelled (codes "{") marks.BraceOpen
    ∷ spelled (codes "}") marks.BraceClose
    ∷ spelled (codes "<") marks.AngleOpen
    ∷ spelled (codes ">") marks.AngleClose
    ∷ []

-- marks that stand between or behind parts
abbrev pub separators : List Spelled
separators =
    spelled (codes ",") marks.Comma
    ∷ spelled (codes ".") marks.Dot
    ∷ spelled (codes ":") marks.Colon
    ∷ spelled (codes "=") marks.Equals
    ∷ spelled (codes "@") marks.At
    ∷ spelled (codes "|") marks.Bar
    ∷ []

-- lambda, forall (its other spelling is a name) and arrow: U+03BB, U+2200, U+2192
abbrev pub binders : List Spelled
binders =
    spelled (codes "\\") marks.Lambda
    ∷ spelled (0xCE ∷ 0xBB ∷ []) marks.Lambda
    ∷ spelled (0xE2 ∷ 0x88 ∷ 0x80 ∷ []) marks.Forall
    ∷ spelled (codes "->") marks.Arrow
    ∷ spelled (0xE2 ∷ 0x86 ∷ 0x92 ∷ []) marks.Arrow
    ∷ []

-- the operators that have one spelling
abbrev pub operators : List Spelled
operators =
    spelled (codes "||") (marks.Operator binary.Or)
    ∷ spelled (codes "&&") (marks.Operator binary.And)
    ∷ spelled (codes "==") (marks.Operator binary.Equal)
    ∷ spelled (codes "!=") (marks.Operator binary.NotEqual)
    ∷ spelled (codes "+") (marks.Operator binary.Plus)
    ∷ spelled (codes "*") (marks.Operator binary.Times)
    ∷ spelled (codes "++") (marks.Operator binary.TextAppend)
    ∷ spelled (codes "#") (marks.Operator binary.ListAppend)
    ∷ spelled (codes "?") (marks.Operator binary.Fallback)
    ∷ spelled (codes "::") (marks.Operator binary.Complete)
    ∷ []

-- combine, prefer, combine-types and equivalent: U+2227, U+2AFD, U+2A53, U+2261
abbrev pub operators_twice : List Spelled
operators_twice =
    spelled (codes "/\\") (marks.Operator binary.Combine)
    ∷ spelled (0xE2 ∷ 0x88 ∷ 0xA7 ∷ []) (marks.Operator binary.Combine)
    ∷ spelled (codes "//") (marks.Operator binary.Prefer)
    ∷ spelled (0xE2 ∷ 0xAB ∷ 0xBD ∷ []) (marks.Operator binary.Prefer)
    ∷ spelled (codes "//\\\\") (marks.Operator binary.CombineTypes)
    ∷ spelled (0xE2 ∷ 0xA9 ∷ 0x93 ∷ []) (marks.Operator binary.CombineTypes)
    ∷ spelled (codes "===") (marks.Operator binary.Equivalent)
    ∷ spelled (0xE2 ∷ 0x89 ∷ 0xA1 ∷ []) (marks.Operator binary.Equivalent)
    ∷ []

-- a mark at the front
abbrev pub mark_form : List ℕ → Spelled → Option Form
mark_form bs s = if starts_with nat_eq bs s.bytes then form (Is (kinds.Mark s.mark)) (length s.bytes) else None

-- the longest mark at the front
abbrev pub mark : List ℕ → Option Form
mark bs = longest (map (mark_form bs) (brackets ++ separators ++ binders ++ operators ++ operators_twice))
