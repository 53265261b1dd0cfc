-- The tokens that end the place of a frame, or the text.
use Rattle.dh_syntax.specs.declared.tokens.Keyword.TheVariants as keywords
use Rattle.dh_syntax.specs.declared.tokens.Mark.TheVariants as marks
use Rattle.dh_syntax.specs.declared.tokens.TokenKind.{TokenKind}
use Rattle.dh_syntax.specs.declared.tokens.TokenKind.TheVariants as kinds
use Rattle.dh_reader.specs.declared.closing.closings.Closing.{Closing}
use Rattle.dh_reader.specs.declared.closing.closings.Closing.TheVariants as closings

-- the kind of the token that ends a place
abbrev pub closing_kind : Closing → TokenKind
closing_kind closings.Paren = kinds.Mark marks.ParenClose
closing_kind closings.Bracket = kinds.Mark marks.BracketClose
closing_kind closings.Brace = kinds.Mark marks.BraceClose
closing_kind closings.Angle = kinds.Mark marks.AngleClose
closing_kind closings.Comma = kinds.Mark marks.Comma
closing_kind closings.Equals = kinds.Mark marks.Equals
closing_kind closings.Bar = kinds.Mark marks.Bar
closing_kind closings.Then = kinds.Keyword keywords.Then
closing_kind closings.Else = kinds.Keyword keywords.Else
closing_kind closings.Let = kinds.Keyword keywords.Let
closing_kind closings.In = kinds.Keyword keywords.In
closing_kind closings.Interpolation = kinds.InterpolationClose
closing_kind closings.End = kinds.End
