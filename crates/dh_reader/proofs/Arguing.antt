-- The token of an argument, by the frame on top.
use Rattle.std.proofs.Common.{◌≡◌, ℕ, ◌<◌, ◌≤◌, false, [], ◌∷◌, refl, ap, sym, ◌∙◌, le-leb}
use Rattle.std.proofs.lemmas.Bool.{lt-leb}
use Rattle.std.specs.Prelude.{if◌then◌else◌}
use Rattle.dh_syntax.specs.declared.tokens.TokenKind.{TokenKind}
use Rattle.dh_grammar.specs.Machine.{Sorts, Making, applied, merged, bracket, domain, condition, branch, let_type, let_value, selected, first, items, alternative_type, field_type, entry_value, chunk, «open», shut, Stack, State, stopped, least, fits, begin, argue_on}
use Rattle.dh_reader.specs.Inside.Newest.{awaits_first}

module _ {K : Sorts} (m : Making K) where
  fits_in : (n : ℕ) (st : Stack K) (s : State K) → least st ≤ n → fits n st s ≡ s
  fits_in n st s h = ap (λ b. if b then s else stopped) (le-leb (least st) n h)

  argued_as : (k : TokenKind) (st : Stack K) (x : K.tree) → awaits_first st ≡ false → argue_on m k st x ≡ fits 14 st (begin m k («open» (applied x) ∷ st))
  argued_as k [] x h = refl
  argued_as k («open» f ∷ st) x h = refl
  argued_as k (shut bracket ∷ st) x h = refl
  argued_as k (shut (domain b w) ∷ st) x h = refl
  argued_as k (shut condition ∷ st) x h = refl
  argued_as k (shut (branch p) ∷ st) x h = refl
  argued_as k (shut (let_type ls w) ∷ st) x h = refl
  argued_as k (shut (let_value ls w a) ∷ st) x h = refl
  argued_as k (shut (selected t) ∷ st) x h = refl
  argued_as k (shut first ∷ st) x h = absurd cc
  argued_as k (shut (items c is) ∷ st) x h = refl
  argued_as k (shut (alternative_type c as' j) ∷ st) x h = refl
  argued_as k (shut (field_type c fs j) ∷ st) x h = refl
  argued_as k (shut (entry_value c es ks) ∷ st) x h = refl
  argued_as k (shut (chunk f cs) ∷ st) x h = refl

  pub argued : (k : TokenKind) (old st pushed : Stack K) (x : K.tree) → st ≡ old → awaits_first old ≡ false → least st ≤ 14 → pushed ≡ «open» (applied x) ∷ st → argue_on m k old x ≡ begin m k pushed
  argued k old st pushed x kept h g e =
      ap (λ st. argue_on m k st x) (sym kept)
      ∙ argued_as k st x (ap awaits_first kept ∙ h)
      ∙ fits_in 14 st (begin m k («open» (applied x) ∷ st)) g
      ∙ ap (begin m k) (sym e)

  -- an operand that binds too loosely there to be applied
  pub refused_on : (k : TokenKind) (old st : Stack K) (x : K.tree) → st ≡ old → awaits_first old ≡ false → 14 < least st → argue_on m k old x ≡ stopped
  refused_on k old st x kept h g =
      ap (λ st. argue_on m k st x) (sym kept)
      ∙ argued_as k st x (ap awaits_first kept ∙ h)
      ∙ ap (λ b. if b then begin m k («open» (applied x) ∷ st) else stopped) (lt-leb (least st) 14 g)

  pub argued_first : (k : TokenKind) (st rest pushed : Stack K) (x : K.tree) → st ≡ shut first ∷ rest → pushed ≡ «open» (merged x) ∷ rest → argue_on m k st x ≡ begin m k pushed
  argued_first k st rest pushed x e f = ap (λ st. argue_on m k st x) e ∙ ap (begin m k) (sym f)
