-- What the machine does with a token behind an operand, told of the whole state.
use Rattle.dh_syntax.specs.declared.tokens.Keyword.TheVariants as keywords
use Rattle.dh_syntax.specs.declared.tokens.Mark.TheVariants.{ParenClose, BracketClose, BraceClose, AngleClose, Comma, Dot, Colon, Equals, Bar, At, Arrow, Operator}
use Rattle.dh_syntax.specs.declared.tokens.TokenKind.{TokenKind}
use Rattle.dh_syntax.specs.declared.tokens.TokenKind.TheVariants as kinds
use Rattle.dh_syntax.specs.Expressions.Levels.{left_level}
use Rattle.dh_grammar.specs.Machine.{Stack, Held, State, have, joined, operate, select, point, annotate, renew, close, argue, index_on, digest_on, mode_on}
use Rattle.dh_grammar.specs.Making.{Sorts, Making}

module _ {K : Sorts} where
  -- the state by an operand that has been read, and the same state where none has
  abbrev pub on_held : (Stack K → Held K → State K) → State K → State K
  on_held f (have st h) = f st h
  on_held f s = s

module _ {K : Sorts} (m : Making K) where
  abbrev pub extends : TokenKind → State K → State K
  extends (kinds.Mark (Operator o)) s = operate m o (joined m (left_level o) s)
  extends (kinds.Mark Dot) s = select m (joined m 16 s)
  extends (kinds.Mark Arrow) s = point m (joined m 1 s)
  extends (kinds.Mark Colon) s = annotate m (joined m 1 s)
  extends (kinds.Mark At) s = on_held (index_on m) s
  extends (kinds.Digest d) s = on_held (digest_on m d) s
  extends (kinds.Keyword keywords.As) s = on_held (mode_on m) s
  extends (kinds.Keyword keywords.With) s = renew m (joined m 1 s)
  extends (kinds.Mark ParenClose) s = close m (kinds.Mark ParenClose) (joined m 0 s)
  extends (kinds.Mark BracketClose) s = close m (kinds.Mark BracketClose) (joined m 0 s)
  extends (kinds.Mark BraceClose) s = close m (kinds.Mark BraceClose) (joined m 0 s)
  extends (kinds.Mark AngleClose) s = close m (kinds.Mark AngleClose) (joined m 0 s)
  extends (kinds.Mark Comma) s = close m (kinds.Mark Comma) (joined m 0 s)
  extends (kinds.Mark Equals) s = close m (kinds.Mark Equals) (joined m 0 s)
  extends (kinds.Mark Bar) s = close m (kinds.Mark Bar) (joined m 0 s)
  extends (kinds.Keyword keywords.Then) s = close m (kinds.Keyword keywords.Then) (joined m 0 s)
  extends (kinds.Keyword keywords.Else) s = close m (kinds.Keyword keywords.Else) (joined m 0 s)
  extends (kinds.Keyword keywords.Let) s = close m (kinds.Keyword keywords.Let) (joined m 0 s)
  extends (kinds.Keyword keywords.In) s = close m (kinds.Keyword keywords.In) (joined m 0 s)
  extends kinds.InterpolationClose s = close m kinds.InterpolationClose (joined m 0 s)
  extends kinds.End s = close m kinds.End (joined m 0 s)
  extends k s = argue m k (joined m 14 s)
