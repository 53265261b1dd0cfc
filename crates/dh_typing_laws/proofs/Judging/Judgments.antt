-- What related inferences come to: the same, moved.
use Rattle.std.specs.Prelude.{◌≡◌, ℕ, Option, Some, None, option_map, refl}
use Rattle.std.proofs.Common.{ap, ◌∙◌}
use Rattle.dh_syntax.specs.Normalising.Heads.{Answer, Found, Wide, Deep, Over}
use Rattle.dh_syntax.specs.Typing.Inference.{Inference, Judgment, Has, Ill, IsWide, IsDeep, IsOver, IsOverAside, IsShallow, after_normal, after_part, after_aside, instead, judged}
use Rattle.dh_syntax.specs.Names.Moves.{Move, moved}
use Rattle.dh_syntax.specs.Expressions.Tree.{Tree}
use Rattle.dh_syntax.specs.Typing.TypeRules.{Rule}
use Rattle.dh_laws.specs.NamelessAnswers.{answer_map}
use Rattle.dh_typing_laws.specs.Judgments.{judgment_map}
use Rattle.dh_typing_laws.proofs.Ruling.Typings.{Courses}

module _ {S T : Type 0} (f : S → T) where
  after_normal-map : (a' : Answer T) (a : Answer S) (x : T → ℕ → Judgment T) (y : S → ℕ → Judgment S) → a' ≡ answer_map f a
      → ((e : S) (left : ℕ) → x (f e) left ≡ judgment_map f (y e left)) → after_normal a' x ≡ judgment_map f (after_normal a y)
  after_normal-map a' (Found e left) x y p k = ap (λ z. after_normal z x) p ∙ k e left
  after_normal-map a' (Wide left) x y p k = ap (λ z. after_normal z x) p
  after_normal-map a' (Deep left) x y p k = ap (λ z. after_normal z x) p
  after_normal-map a' Over x y p k = ap (λ z. after_normal z x) p

  after_part-map : (g : S → T) (k : ℕ) (a' : Judgment T) (a : Judgment S) (x : T → ℕ → Judgment T) (y : S → ℕ → Judgment S) → a' ≡ judgment_map g a
      → ((e : S) (left : ℕ) → x (g e) left ≡ judgment_map f (y e left)) → after_part k a' x ≡ judgment_map f (after_part k a y)
  after_part-map g k a' (Has t left) x y p h = ap (λ z. after_part k z x) p ∙ h t left
  after_part-map g k a' (Ill path rule) x y p h = ap (λ z. after_part k z x) p
  after_part-map g k a' IsWide x y p h = ap (λ z. after_part k z x) p
  after_part-map g k a' IsDeep x y p h = ap (λ z. after_part k z x) p
  after_part-map g k a' IsOver x y p h = ap (λ z. after_part k z x) p
  after_part-map g k a' IsOverAside x y p h = ap (λ z. after_part k z x) p
  after_part-map g k a' IsShallow x y p h = ap (λ z. after_part k z x) p

  after_aside-map : (a' : Judgment T) (a : Judgment S) (x : Option T → Judgment T) (y : Option S → Judgment S) → a' ≡ judgment_map f a
      → ((o : Option S) → x (option_map f o) ≡ judgment_map f (y o)) → after_aside a' x ≡ judgment_map f (after_aside a y)
  after_aside-map a' (Has t left) x y p h = ap (λ z. after_aside z x) p ∙ h (Some t)
  after_aside-map a' (Ill path rule) x y p h = ap (λ z. after_aside z x) p ∙ h None
  after_aside-map a' IsWide x y p h = ap (λ z. after_aside z x) p
  after_aside-map a' IsDeep x y p h = ap (λ z. after_aside z x) p
  after_aside-map a' IsOver x y p h = ap (λ z. after_aside z x) p
  after_aside-map a' IsOverAside x y p h = ap (λ z. after_aside z x) p
  after_aside-map a' IsShallow x y p h = ap (λ z. after_aside z x) p

  instead-map : (a' : Judgment T) (a : Judgment S) (r : Rule) → a' ≡ judgment_map f a → instead a' r ≡ judgment_map f (instead a r)
  instead-map a' (Has t left) r p = ap (λ z. instead z r) p
  instead-map a' (Ill path rule) r p = ap (λ z. instead z r) p
  instead-map a' IsWide r p = ap (λ z. instead z r) p
  instead-map a' IsDeep r p = ap (λ z. instead z r) p
  instead-map a' IsOver r p = ap (λ z. instead z r) p
  instead-map a' IsOverAside r p = ap (λ z. instead z r) p
  instead-map a' IsShallow r p = ap (λ z. instead z r) p

module _ {S A B C D : Type 0} (m : Move S A B C D) (E : S → Tree C D → Tree A B → Type 0)
    (normal' : ℕ → Tree C D → Answer (Tree C D)) (normal : ℕ → Tree A B → Answer (Tree A B))
    (h : (s : S) (units : ℕ) (d : Tree C D) (e : Tree A B) → E s d e → normal' units d ≡ answer_map (moved m s) (normal units e)) where
  -- with every purse and all units the first comes to what the second comes to, moved
  abbrev pub JudgedAlike : S → Inference (Tree C D) → Inference (Tree A B) → Type 0
  JudgedAlike s i j = (purse units : ℕ) → judged normal' purse units i ≡ judgment_map (moved m s) (judged normal purse units j)

  pub judged-courses : Courses m E JudgedAlike
  judged-courses = record {
    gives = λ s t purse units. refl;
    fails = λ s r purse units. refl;
    deeper = λ s purse units. refl;
    from_normal = λ s d e x y p k purse units. after_normal-map (moved m s) _ _ _ _ (h s units d e p) (λ t left. k t purse left);
    from_part = λ s t n i j x y p k purse units. after_part-map (moved m s) (moved m t) n _ _ _ _ (p purse units) (λ u left. k u purse left);
    aside = λ s i j x y p k purse units. after_aside-map (moved m s) _ _ _ _ (p purse purse) (λ o. k o purse units);
    instead = λ s i j r p purse units. instead-map (moved m s) _ _ r (p purse units);
  }
