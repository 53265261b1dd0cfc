-- The marks that end a place.
use Rattle.std.specs.Prelude.{Bool, true, false}
use Rattle.dh_syntax.specs.declared.tokens.Mark.{Mark}
use Rattle.dh_syntax.specs.declared.tokens.Mark.TheVariants.{ParenClose, BracketClose, BraceClose, AngleClose, Comma, Equals, Bar}

-- whether a place may end at this mark
abbrev pub ends_place : Mark → Bool
ends_place ParenClose = true
ends_place BracketClose = true
ends_place BraceClose = true
ends_place AngleClose = true
ends_place Comma = true
ends_place Equals = true
ends_place Bar = true
ends_place _ = false
