-- A token behind an operand in the place of a frame.
use Rattle.std.proofs.Common.{◌≡◌, ◌∷◌, refl, ap, ◌∙◌}
use Rattle.dh_syntax.specs.declared.tokens.TokenKind.{TokenKind}
use Rattle.dh_syntax.specs.declared.tokens.TokenKind.TheVariants as kinds
use Rattle.dh_grammar.specs.Machine.{Sorts, Making, Stack, Frame, Shut, shut, closed, close_on}

module _ {K : Sorts} (m : Making K) where
  at_frame : (k : TokenKind) (f : Shut K) (x : K.tree) (st : Stack K) → close_on m k (shut f ∷ st) x ≡ closed m k f x st
  at_frame kinds.End f x st = refl
  at_frame k f x st = refl

  pub closes : (k : TokenKind) (frame : Frame K) (f : Shut K) (x : K.tree) (st rest : Stack K) → st ≡ frame ∷ rest → frame ≡ shut f → close_on m k st x ≡ closed m k f x rest
  closes k frame f x st rest e g = ap (λ s. close_on m k s x) e ∙ ap (λ h. close_on m k (h ∷ rest) x) g ∙ at_frame k f x rest
