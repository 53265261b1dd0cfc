-- A token that ends a place.
use Rattle.std.proofs.Common.{◌≡◌, refl, ap, sym, ◌∙◌}
use Rattle.dh_syntax.specs.declared.tokens.TokenKind.{TokenKind}
use Rattle.dh_reader.specs.Closings.{closing_kind}
use Rattle.dh_reader.specs.Inside.Extends.{extends}
use Rattle.dh_reader.specs.declared.closing.closings.Closing.{Closing}
use Rattle.dh_reader.specs.declared.closing.closings.Closing.TheVariants.{Paren, Bracket, Brace, Angle, Comma, Equals, Bar, Then, Else, Let, In, Interpolation, End}
use Rattle.dh_grammar.specs.Machine.{Sorts, Making, State, close, joined}

module _ {K : Sorts} (m : Making K) where
  at_closing : (c : Closing) (s : State K) → extends m (closing_kind c) s ≡ close m (closing_kind c) (joined m 0 s)
  at_closing Paren s = refl
  at_closing Bracket s = refl
  at_closing Brace s = refl
  at_closing Angle s = refl
  at_closing Comma s = refl
  at_closing Equals s = refl
  at_closing Bar s = refl
  at_closing Then s = refl
  at_closing Else s = refl
  at_closing Let s = refl
  at_closing In s = refl
  at_closing Interpolation s = refl
  at_closing End s = refl

  pub ends : (c : Closing) (k : TokenKind) (s : State K) → closing_kind c ≡ k → extends m k s ≡ close m (closing_kind c) (joined m 0 s)
  ends c k s e = ap (λ k. extends m k s) (sym e) ∙ at_closing c s
