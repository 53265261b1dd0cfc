-- Tests of one token.
use Rattle.std.specs.Prelude.{ℕ, Bool, true, false, if◌then◌else◌, Option, Some, None, codes}
use Rattle.dh_syntax.specs.declared.locations.Mode.{Mode}
use Rattle.dh_syntax.specs.declared.locations.Mode.TheVariants as modes
use Rattle.dh_syntax.specs.declared.operators.Builtin.TheVariants as builtins
use Rattle.dh_syntax.specs.declared.tokens.Mark.{Mark}
use Rattle.dh_syntax.specs.declared.tokens.Mark.TheVariants.{ParenOpen, ParenClose, BracketOpen, BracketClose, BraceOpen, BraceClose, AngleOpen, AngleClose, Comma, Dot, Colon, Equals, At, Bar, Arrow, Lambda, Forall, Operator}
use Rattle.dh_syntax.specs.declared.tokens.TokenKind.{TokenKind}
use Rattle.dh_syntax.specs.declared.tokens.TokenKind.TheVariants as kinds
use Rattle.dh_syntax.specs.Expressions.Numbers.{bytes_eq}
use Rattle.dh_syntax.specs.Expressions.SameTree.{bin_eq, builtin_eq}

-- whether two marks are equal
abbrev pub mark_eq : Mark → Mark → Bool
mark_eq ParenOpen ParenOpen = true
mark_eq ParenClose ParenClose = true
mark_eq BracketOpen BracketOpen = true
mark_eq BracketClose BracketClose = true
mark_eq BraceOpen BraceOpen = true
mark_eq BraceClose BraceClose = true
mark_eq AngleOpen AngleOpen = true
mark_eq AngleClose AngleClose = true
mark_eq Comma Comma = true
mark_eq Dot Dot = true
mark_eq Colon Colon = true
mark_eq Equals Equals = true
mark_eq At At = true
mark_eq Bar Bar = true
mark_eq Arrow Arrow = true
mark_eq Lambda Lambda = true
mark_eq Forall Forall = true
mark_eq (Operator o) (Operator p) = bin_eq o p
mark_eq _ _ = false

-- the mark that a token is, if it is one
abbrev pub mark_of : TokenKind → Option Mark
mark_of (kinds.Mark n) = Some n
mark_of _ = None

-- whether a mark is there, and is this one
abbrev pub is_found : Mark → Option Mark → Bool
is_found m (Some n) = mark_eq m n
is_found m None = false

-- whether a token is this mark
abbrev pub is_mark : Mark → TokenKind → Bool
is_mark m k = is_found m (mark_of k)

-- the mode that a token behind `as` asks for
abbrev pub mode_of : TokenKind → Option Mode
mode_of (kinds.Builtin b) = if builtin_eq b builtins.Text then Some modes.Text else None
mode_of (kinds.Name x) = if bytes_eq x (codes "Location") then Some modes.Location else None
mode_of _ = None

-- the number that a token is, if it is one
abbrev pub natural_of : TokenKind → Option ℕ
natural_of (kinds.Natural n) = Some n
natural_of _ = None
