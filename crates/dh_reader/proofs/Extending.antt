-- Behind an operand, what is told of the whole state is what the machine does.
use Rattle.std.proofs.Common.{◌≡◌, refl}
use Rattle.dh_syntax.specs.declared.tokens.Keyword.TheVariants as keywords
use Rattle.dh_syntax.specs.declared.tokens.Mark.TheVariants.{Operator}
use Rattle.dh_syntax.specs.declared.tokens.TokenKind.{TokenKind}
use Rattle.dh_syntax.specs.declared.tokens.TokenKind.TheVariants as kinds
use Rattle.dh_grammar.specs.Machine.{Stack, Held, have, extend}
use Rattle.dh_grammar.specs.Making.{Sorts, Making}
use Rattle.dh_reader.specs.Inside.Extends.{extends}

module _ {K : Sorts} (m : Making K) where
  pub extends_is : (k : TokenKind) (st : Stack K) (h : Held K) → extends m k (have st h) ≡ extend m k st h
  extends_is (kinds.Mark (Operator o)) st h = refl
  extends_is (kinds.Mark k) st h = refl
  extends_is (kinds.Keyword keywords.As) st h = refl
  extends_is (kinds.Keyword k) st h = refl
  extends_is k st h = refl
