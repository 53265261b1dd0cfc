-- More depth changes nothing but that it does not suffice.
use Rattle.std.specs.Prelude.{◌≡◌, ℕ, suc, Option, Some, None, option_map, refl}
use Rattle.std.proofs.Common.{ap, sym, ◌∙◌, subst as along}
use Rattle.dh_syntax.specs.Normalising.Heads.{Answer, Found, Wide, Deep, Over}
use Rattle.dh_syntax.specs.Typing.Inference.{Inference, Judgment, Has, Ill, IsWide, IsDeep, IsOver, IsOverAside, IsShallow, after_normal, after_part, after_aside, instead, judged}
use Rattle.dh_syntax.specs.Names.Moves.{moved}
use Rattle.dh_syntax.specs.Typing.Scopes.{Scopes, Context, enter}
use Rattle.dh_syntax.specs.Expressions.Tree.{Tree, Leaf, Node}
use Rattle.dh_syntax.specs.Typing.TypeRules as rule
use Rattle.dh_syntax.specs.Typing.TypeRules.{Rule}
use Rattle.dh_syntax.specs.Typing.Typing.{typing}
use Rattle.dh_syntax.proofs.Moves.{staying, moved-staying}
use Rattle.dh_laws.proofs.Normalising.RunsAlike.{plus}
use Rattle.dh_typing_laws.specs.Judgments.{IsUnlessShallow}
use Rattle.dh_typing_laws.proofs.Ruling.TypedRules.{ScopesMove}
use Rattle.dh_typing_laws.proofs.Ruling.Typings.{Courses, by_context, typing-is_over, given_type-alike, typing-alike}
use Rattle.dh_typing_laws.proofs.Typing.TypingsMoved.{IsMoved, moved-expressions}

module _ {T : Type 0} where
  after_normal-deepened : (a : Answer T) (x y : T → ℕ → Judgment T) → ((e : T) (l : ℕ) → IsUnlessShallow (x e l) (y e l)) → IsUnlessShallow (after_normal a x) (after_normal a y)
  after_normal-deepened (Found e l) x y h = h e l
  after_normal-deepened (Wide l) x y h = refl
  after_normal-deepened (Deep l) x y h = refl
  after_normal-deepened Over x y h = refl

  after_part-deepened : (n : ℕ) (a b : Judgment T) (x y : T → ℕ → Judgment T) → IsUnlessShallow a b → ((e : T) (l : ℕ) → IsUnlessShallow (x e l) (y e l)) → IsUnlessShallow (after_part n a x) (after_part n b y)
  after_part-deepened n (Has t l) b x y p h = along (λ z. IsUnlessShallow (x t l) (after_part n z y)) (sym p) (h t l)
  after_part-deepened n (Ill path rule) b x y p h = ap (λ z. after_part n z y) p
  after_part-deepened n IsWide b x y p h = ap (λ z. after_part n z y) p
  after_part-deepened n IsDeep b x y p h = ap (λ z. after_part n z y) p
  after_part-deepened n IsOver b x y p h = ap (λ z. after_part n z y) p
  after_part-deepened n IsOverAside b x y p h = ap (λ z. after_part n z y) p
  after_part-deepened n IsShallow b x y p h = tt

  after_aside-deepened : (a b : Judgment T) (x y : Option T → Judgment T) → IsUnlessShallow a b → ((o : Option T) → IsUnlessShallow (x o) (y o)) → IsUnlessShallow (after_aside a x) (after_aside b y)
  after_aside-deepened (Has t l) b x y p h = along (λ z. IsUnlessShallow (x (Some t)) (after_aside z y)) (sym p) (h (Some t))
  after_aside-deepened (Ill path rule) b x y p h = along (λ z. IsUnlessShallow (x None) (after_aside z y)) (sym p) (h None)
  after_aside-deepened IsWide b x y p h = ap (λ z. after_aside z y) p
  after_aside-deepened IsDeep b x y p h = ap (λ z. after_aside z y) p
  after_aside-deepened IsOver b x y p h = ap (λ z. after_aside z y) p
  after_aside-deepened IsOverAside b x y p h = ap (λ z. after_aside z y) p
  after_aside-deepened IsShallow b x y p h = tt

  instead-deepened : (a b : Judgment T) (r : Rule) → IsUnlessShallow a b → IsUnlessShallow (instead a r) (instead b r)
  instead-deepened (Has t l) b r p = ap (λ z. instead z r) p
  instead-deepened (Ill path rule) b r p = ap (λ z. instead z r) p
  instead-deepened IsWide b r p = ap (λ z. instead z r) p
  instead-deepened IsDeep b r p = ap (λ z. instead z r) p
  instead-deepened IsOver b r p = ap (λ z. instead z r) p
  instead-deepened IsOverAside b r p = ap (λ z. instead z r) p
  instead-deepened IsShallow b r p = tt

module _ {A B : Type 0} (S : Scopes A B) where
  map-itself : (o : Option (Tree A B)) → o ≡ option_map (moved staying tt) o
  map-itself (Some t) = ap Some (sym (moved-staying t))
  map-itself None = refl

  staying-scopes : ScopesMove staying S S
  staying-scopes = record {
    type_of = λ s b. map-itself (S.type_of b);
    binder = λ x. refl;
    up = λ s x e. ap (S.up x) (moved-staying e) ∙ sym (moved-staying (S.up x e));
    down = λ s x e. ap (S.down x) (moved-staying e) ∙ map-itself (S.down x e);
    same = λ s d e. ap (λ z. S.same z (moved staying tt e)) (moved-staying d) ∙ ap (S.same d) (moved-staying e);
  }

  staying-puts : (s : Unit {0}) (x : B) (a b : Tree A B) → S.put x (moved staying s a) (moved staying tt b) ≡ moved staying s (S.put x a b)
  staying-puts s x a b = ap (λ z. S.put x z (moved staying tt b)) (moved-staying a) ∙ ap (S.put x a) (moved-staying b) ∙ sym (moved-staying (S.put x a b))

  module _ (normal : ℕ → Tree A B → Answer (Tree A B)) where
    abbrev Q : Unit {0} → Inference (Tree A B) → Inference (Tree A B) → Type 0
    Q s i j = (purse units : ℕ) → IsUnlessShallow (judged normal purse units i) (judged normal purse units j)

    deepened-normal : (d e : Tree A B) (x y : Tree A B → Inference (Tree A B)) → d ≡ moved staying tt e → ((t : Tree A B) → Q tt (x (moved staying tt t)) (y t)) → (purse units : ℕ)
        → IsUnlessShallow (after_normal (normal units d) (λ f left. judged normal purse left (x f))) (after_normal (normal units e) (λ f left. judged normal purse left (y f)))
    deepened-normal d e x y p k purse units =
        along (λ z. IsUnlessShallow (after_normal (normal units d) (λ f left. judged normal purse left (x f))) (after_normal (normal units z) (λ f left. judged normal purse left (y f)))) (p ∙ moved-staying e)
        (after_normal-deepened (normal units d) _ _ (λ t l. along (λ z. IsUnlessShallow (judged normal purse l (x z)) (judged normal purse l (y t))) (moved-staying t) (k t purse l)))

    q : Courses staying (IsMoved staying) Q
    q = record {
      gives = λ s t purse units. ap (λ z. Has z units) (sym (moved-staying t));
      fails = λ s r purse units. refl;
      deeper = λ s purse units. tt;
      from_normal = λ s d e x y p k purse units. deepened-normal d e x y p k purse units;
      from_part = λ s t n i j x y p k purse units.
          after_part-deepened n _ _ _ _ (p purse units) (λ u l. along (λ z. IsUnlessShallow (judged normal purse l (x z)) (judged normal purse l (y u))) (moved-staying u) (k u purse l));
      aside = λ s i j x y p k purse units.
          after_aside-deepened _ _ _ _ (p purse purse) (λ o. along (λ z. IsUnlessShallow (judged normal purse units (x z)) (judged normal purse units (y o))) (sym (map-itself o)) (k o purse units));
      instead = λ s i j r p purse units. instead-deepened _ _ r (p purse units);
    }

    leaf-deeper : (more depth : ℕ) (s : Unit {0}) (c' c : Context A B) (a : A) (e : Tree A B) → c' ≡ c → Leaf a ≡ moved staying s e
        → Q s (by_context S depth c' a) (typing S (suc (plus depth more)) c e)
    leaf-deeper more depth s c' c a (Leaf b) g p =
        given_type-alike staying (IsMoved staying) (λ t k' k. k' ≡ k) Q S S staying-scopes (moved-expressions staying S S staying-scopes staying-puts) q
        (λ t x u k' k r. ap (λ z. enter S x z k') (moved-staying u) ∙ ap (enter S x u) r) s _ _ rule.UnboundVariable
        (leaf-type (Leaf a) (Leaf b) refl refl p g)
      where
        leaf-type : (d f : Tree A B) → d ≡ Leaf a → f ≡ Leaf b → d ≡ f → c' ≡ c → S.type_in c' a ≡ option_map (moved staying s) (S.type_in c b)
        leaf-type d f u v w r = let h : a ≡ b = cc in ap (λ z. S.type_in z a) r ∙ ap (S.type_in c) h ∙ map-itself (S.type_in c b)
    leaf-deeper more depth s c' c a (Node op r) g p = absurd cc

    pub typing-deeper : (depth more : ℕ) (c : Context A B) (e : Tree A B) (purse units : ℕ) → IsUnlessShallow (judged normal purse units (typing S depth c e)) (judged normal purse units (typing S (plus depth more) c e))
    typing-deeper depth more c e =
        along (λ z. Q tt z (typing S (plus depth more) c e)) (sym (typing-is_over S depth c e))
        (typing-alike staying (IsMoved staying) (λ t k' k. k' ≡ k) Q S S staying-scopes (moved-expressions staying S S staying-scopes staying-puts) q
        (λ t x u k' k r. ap (λ z. enter S x z k') (moved-staying u) ∙ ap (enter S x u) r) more (by_context S)
        (λ s c' k d f g p purse units. tt) (leaf-deeper more) depth tt c c e e refl (sym (moved-staying e)))
