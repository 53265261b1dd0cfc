-- What more units, more heights and a greater purse change in what an inference comes to.
use Rattle.std.specs.Prelude.{◌≡◌, ℕ, ◌+◌, Option, Some, None, refl}
use Rattle.std.proofs.Common.{ap, sym, subst as along}
use Rattle.dh_syntax.specs.Normalising.Heads.{Lang, Whole, Answer, Found, Wide, Deep, Over}
use Rattle.dh_syntax.specs.Typing.Inference.{Inference, Gives, Fails, Deeper, FromNormal, FromPart, Aside, Instead, Judgment, Has, Ill, IsWide, IsDeep, IsOver, IsOverAside, IsShallow, after_normal, after_part, after_aside, instead, judged_within}
use Rattle.dh_syntax.specs.Normalising.Normal.{endless}
use Rattle.dh_syntax.specs.Typing.TypeRules.{Rule}
use Rattle.dh_laws.specs.Runs.{IsWithMore, IsUnlessDeep}
use Rattle.dh_laws.proofs.Normalising.RunLimits.{more_units, more_heights}
use Rattle.dh_typing_laws.specs.Judgments.{IsJudgedWithMore, IsUnlessTooFew}

module _ {T : Type 0} where
  normal-later : (k : ℕ) (a b : Answer T) (x : T → ℕ → Judgment T) → IsWithMore k a b → ((e : T) (l : ℕ) → IsJudgedWithMore k (x e l) (x e (l + k))) → IsJudgedWithMore k (after_normal a x) (after_normal b x)
  normal-later k (Found e l) b x p h = along (λ z. IsJudgedWithMore k (x e l) (after_normal z x)) (sym p) (h e l)
  normal-later k (Wide l) b x p h = ap (λ z. after_normal z x) p
  normal-later k (Deep l) b x p h = ap (λ z. after_normal z x) p
  normal-later k Over b x p h = tt

  part-later : (k n : ℕ) (a b : Judgment T) (x : T → ℕ → Judgment T) → IsJudgedWithMore k a b → ((e : T) (l : ℕ) → IsJudgedWithMore k (x e l) (x e (l + k))) → IsJudgedWithMore k (after_part n a x) (after_part n b x)
  part-later k n (Has t l) b x p h = along (λ z. IsJudgedWithMore k (x t l) (after_part n z x)) (sym p) (h t l)
  part-later k n (Ill path rule) b x p h = ap (λ z. after_part n z x) p
  part-later k n IsWide b x p h = ap (λ z. after_part n z x) p
  part-later k n IsDeep b x p h = ap (λ z. after_part n z x) p
  part-later k n IsOver b x p h = tt
  part-later k n IsOverAside b x p h = ap (λ z. after_part n z x) p
  part-later k n IsShallow b x p h = ap (λ z. after_part n z x) p

  aside-later : (k : ℕ) (a : Judgment T) (x y : Option T → Judgment T) → ((o : Option T) → IsJudgedWithMore k (x o) (y o)) → IsJudgedWithMore k (after_aside a x) (after_aside a y)
  aside-later k (Has t l) x y h = h (Some t)
  aside-later k (Ill path rule) x y h = h None
  aside-later k IsWide x y h = refl
  aside-later k IsDeep x y h = refl
  aside-later k IsOver x y h = refl
  aside-later k IsOverAside x y h = refl
  aside-later k IsShallow x y h = refl

  instead-later : (k : ℕ) (a b : Judgment T) (r : Rule) → IsJudgedWithMore k a b → IsJudgedWithMore k (instead a r) (instead b r)
  instead-later k (Has t l) b r p = ap (λ z. instead z r) p
  instead-later k (Ill path rule) b r p = ap (λ z. instead z r) p
  instead-later k IsWide b r p = ap (λ z. instead z r) p
  instead-later k IsDeep b r p = ap (λ z. instead z r) p
  instead-later k IsOver b r p = tt
  instead-later k IsOverAside b r p = ap (λ z. instead z r) p
  instead-later k IsShallow b r p = ap (λ z. instead z r) p

  normal-grown : (a b : Answer T) (x y : T → ℕ → Judgment T) → IsUnlessDeep a b → ((e : T) (l : ℕ) → IsUnlessTooFew (x e l) (y e l)) → IsUnlessTooFew (after_normal a x) (after_normal b y)
  normal-grown (Found e l) b x y p h = along (λ z. IsUnlessTooFew (x e l) (after_normal z y)) (sym p) (h e l)
  normal-grown (Wide l) b x y p h = ap (λ z. after_normal z y) p
  normal-grown (Deep l) b x y p h = tt
  normal-grown Over b x y p h = ap (λ z. after_normal z y) p

  part-grown : (n : ℕ) (a b : Judgment T) (x y : T → ℕ → Judgment T) → IsUnlessTooFew a b → ((e : T) (l : ℕ) → IsUnlessTooFew (x e l) (y e l)) → IsUnlessTooFew (after_part n a x) (after_part n b y)
  part-grown n (Has t l) b x y p h = along (λ z. IsUnlessTooFew (x t l) (after_part n z y)) (sym p) (h t l)
  part-grown n (Ill path rule) b x y p h = ap (λ z. after_part n z y) p
  part-grown n IsWide b x y p h = ap (λ z. after_part n z y) p
  part-grown n IsDeep b x y p h = tt
  part-grown n IsOver b x y p h = ap (λ z. after_part n z y) p
  part-grown n IsOverAside b x y p h = tt
  part-grown n IsShallow b x y p h = tt

  aside-grown : (q : ℕ) (a c b : Judgment T) (x y : Option T → Judgment T) → IsUnlessTooFew a c → IsJudgedWithMore q c b → ((o : Option T) → IsUnlessTooFew (x o) (y o)) → IsUnlessTooFew (after_aside a x) (after_aside b y)
  aside-grown q (Has t l) c b x y g p h =
      let r : b ≡ Has t (l + q) = along (λ z. IsJudgedWithMore q z b) g p in along (λ z. IsUnlessTooFew (x (Some t)) (after_aside z y)) (sym r) (h (Some t))
  aside-grown q (Ill path rule) c b x y g p h =
      let r : b ≡ Ill path rule = along (λ z. IsJudgedWithMore q z b) g p in along (λ z. IsUnlessTooFew (x None) (after_aside z y)) (sym r) (h None)
  aside-grown q IsWide c b x y g p h = let r : b ≡ IsWide = along (λ z. IsJudgedWithMore q z b) g p in ap (λ z. after_aside z y) r
  aside-grown q IsDeep c b x y g p h = tt
  aside-grown q IsOver c b x y g p h = tt
  aside-grown q IsOverAside c b x y g p h = tt
  aside-grown q IsShallow c b x y g p h = tt

  instead-grown : (a b : Judgment T) (r : Rule) → IsUnlessTooFew a b → IsUnlessTooFew (instead a r) (instead b r)
  instead-grown (Has t l) b r p = ap (λ z. instead z r) p
  instead-grown (Ill path rule) b r p = ap (λ z. instead z r) p
  instead-grown IsWide b r p = ap (λ z. instead z r) p
  instead-grown IsDeep b r p = tt
  instead-grown IsOver b r p = ap (λ z. instead z r) p
  instead-grown IsOverAside b r p = tt
  instead-grown IsShallow b r p = tt

  module _ (L : Lang T) where
    pub later : (h p u k : ℕ) (i : Inference T) → IsJudgedWithMore k (judged_within L h p u i) (judged_within L h p (u + k) i)
    later h p u k (Gives t) = refl
    later h p u k (Fails rule) = refl
    later h p u k Deeper = refl
    later h p u k (FromNormal e n) = normal-later k _ _ (λ f l. judged_within L h p l (n f)) (more_units (endless L) h Whole u k e) (λ f l. later h p l k (n f))
    later h p u k (FromPart j m n) = part-later k j _ _ (λ t l. judged_within L h p l (n t)) (later h p u k m) (λ t l. later h p l k (n t))
    later h p u k (Aside m n) = aside-later k (judged_within L h p p m) (λ o. judged_within L h p u (n o)) (λ o. judged_within L h p (u + k) (n o)) (λ o. later h p u k (n o))
    later h p u k (Instead m rule) = instead-later k _ _ rule (later h p u k m)

    pub grown : (h k p q u : ℕ) (i : Inference T) → IsUnlessTooFew (judged_within L h p u i) (judged_within L (h + k) (p + q) u i)
    grown h k p q u (Gives t) = refl
    grown h k p q u (Fails rule) = refl
    grown h k p q u Deeper = tt
    grown h k p q u (FromNormal e n) =
        normal-grown _ _ (λ f l. judged_within L h p l (n f)) (λ f l. judged_within L (h + k) (p + q) l (n f)) (more_heights (endless L) h k Whole u e) (λ f l. grown h k p q l (n f))
    grown h k p q u (FromPart j m n) = part-grown j _ _ (λ t l. judged_within L h p l (n t)) (λ t l. judged_within L (h + k) (p + q) l (n t)) (grown h k p q u m) (λ t l. grown h k p q l (n t))
    grown h k p q u (Aside m n) =
        aside-grown q (judged_within L h p p m) (judged_within L (h + k) (p + q) p m) (judged_within L (h + k) (p + q) (p + q) m) (λ o. judged_within L h p u (n o)) (λ o. judged_within L (h + k) (p + q) u (n o))
        (grown h k p q p m) (later (h + k) (p + q) p q m) (λ o. grown h k p q u (n o))
    grown h k p q u (Instead m rule) = instead-grown _ _ rule (grown h k p q u m)
