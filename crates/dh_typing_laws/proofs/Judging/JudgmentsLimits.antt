-- The limits that related inferences meet.
use Rattle.std.specs.Prelude.{◌≡◌, ℕ, List, Option, Some, None, option_map, refl}
use Rattle.std.proofs.Common.{sym, ◌∙◌, inl, inr, subst as along}
use Rattle.dh_syntax.specs.Normalising.Heads.{Lang, Whole, Answer, Found, Wide, Deep, Over, run}
use Rattle.dh_syntax.specs.Typing.Inference.{Inference, FromNormal, FromPart, Aside, Judgment, Has, Ill, IsWide, IsDeep, IsOver, IsOverAside, IsShallow, judged_within, ComesToType, MeetsLimit}
use Rattle.dh_syntax.specs.Names.Moves.{Move, moved}
use Rattle.dh_syntax.specs.Normalising.Normal.{endless}
use Rattle.dh_syntax.specs.Expressions.Tree.{Tree}
use Rattle.dh_syntax.specs.Typing.TypeRules.{Rule}
use Rattle.dh_laws.specs.NamelessAnswers.{answer_map}
use Rattle.dh_typing_laws.specs.Judgments.{judgment_map}
use Rattle.dh_typing_laws.proofs.Judging.Judgments.{JudgedAlike, judged-courses}
use Rattle.dh_typing_laws.proofs.Ruling.Typings.{Courses}

pub found-before : {S T : Type 0} (f : S → T) (a : Answer S) (t : T) (l : ℕ) → answer_map f a ≡ Found t l → (v : S) × (a ≡ Found v l) × (t ≡ f v)
found-before f (Found v k) t l p = (v, cc, cc)
found-before f (Wide k) t l p = absurd cc
found-before f (Deep k) t l p = absurd cc
found-before f Over t l p = absurd cc

pub wide-before : {S T : Type 0} (f : S → T) (a : Answer S) (l : ℕ) → answer_map f a ≡ Wide l → a ≡ Wide l
wide-before f (Found v k) l p = absurd cc
wide-before f (Wide k) l p = cc
wide-before f (Deep k) l p = absurd cc
wide-before f Over l p = absurd cc

pub deep-before : {S T : Type 0} (f : S → T) (a : Answer S) (l : ℕ) → answer_map f a ≡ Deep l → a ≡ Deep l
deep-before f (Found v k) l p = absurd cc
deep-before f (Wide k) l p = absurd cc
deep-before f (Deep k) l p = cc
deep-before f Over l p = absurd cc

pub has-before : {S T : Type 0} (f : S → T) (a : Judgment S) (t : T) (l : ℕ) → judgment_map f a ≡ Has t l → (v : S) × (a ≡ Has v l) × (t ≡ f v)
has-before f (Has v k) t l p = (v, cc, cc)
has-before f (Ill path rule) t l p = absurd cc
has-before f IsWide t l p = absurd cc
has-before f IsDeep t l p = absurd cc
has-before f IsOver t l p = absurd cc
has-before f IsOverAside t l p = absurd cc
has-before f IsShallow t l p = absurd cc

pub ill-before : {S T : Type 0} (f : S → T) (a : Judgment S) (path : List ℕ) (rule : Rule) → judgment_map f a ≡ Ill path rule → a ≡ Ill path rule
ill-before f (Has v k) path rule p = absurd cc
ill-before f (Ill q r) path rule p = cc
ill-before f IsWide path rule p = absurd cc
ill-before f IsDeep path rule p = absurd cc
ill-before f IsOver path rule p = absurd cc
ill-before f IsOverAside path rule p = absurd cc
ill-before f IsShallow path rule p = absurd cc

pub over-before : {S T : Type 0} (f : S → T) (a : Judgment S) → judgment_map f a ≡ IsOver → a ≡ IsOver
over-before f (Has v k) p = absurd cc
over-before f (Ill q r) p = absurd cc
over-before f IsWide p = absurd cc
over-before f IsDeep p = absurd cc
over-before f IsOver p = refl
over-before f IsOverAside p = absurd cc
over-before f IsShallow p = absurd cc

module _ {S A B C D : Type 0} (m : Move S A B C D) (E : S → Tree C D → Tree A B → Type 0) (M : Lang (Tree C D)) (L : Lang (Tree A B))
    (runs : (heights : ℕ) (s : S) (units : ℕ) (d : Tree C D) (e : Tree A B) → E s d e → run (endless M) heights Whole units d ≡ answer_map (moved m s) (run (endless L) heights Whole units e))
    (meets' : Tree C D → Type 0) (meets : Tree A B → Type 0) (met : (s : S) (d : Tree C D) (e : Tree A B) → E s d e → meets' d → meets e)
    (spends' : Inference (Tree C D) → Type 0) (spends : Inference (Tree A B) → Type 0)
    (spent : (s : S) (i : Inference (Tree C D)) (j : Inference (Tree A B))
    → ((heights : ℕ) → JudgedAlike m E (λ u d. run (endless M) heights Whole u d) (λ u e. run (endless L) heights Whole u e) (runs heights) s i j) → spends' i → spends j) where
  -- they come to the same, moved, and a limit that the first one meets the second one meets
  abbrev pub LimitsAlike : S → Inference (Tree C D) → Inference (Tree A B) → Type 0
  LimitsAlike s i j =
      ((heights : ℕ) → JudgedAlike m E (λ u d. run (endless M) heights Whole u d) (λ u e. run (endless L) heights Whole u e) (runs heights) s i j)
      × (MeetsLimit M meets' spends' i → MeetsLimit L meets spends j)

  q : (heights : ℕ) → Courses m E (JudgedAlike m E (λ u d. run (endless M) heights Whole u d) (λ u e. run (endless L) heights Whole u e) (runs heights))
  q heights = judged-courses m E (λ u d. run (endless M) heights Whole u d) (λ u e. run (endless L) heights Whole u e) (runs heights)

  normal-limit : (s : S) (d : Tree C D) (e : Tree A B) (x : Tree C D → Inference (Tree C D)) (y : Tree A B → Inference (Tree A B)) → E s d e
      → ((t : Tree A B) → MeetsLimit M meets' spends' (x (moved m s t)) → MeetsLimit L meets spends (y t)) → MeetsLimit M meets' spends' (FromNormal d x) → MeetsLimit L meets spends (FromNormal e y)
  normal-limit s d e x y p k (inl w) = inl (met s d e p w)
  normal-limit s d e x y p k (inr (f, (u, l, (h, r)), w)) =
      let (v, a, b) = found-before (moved m s) (run (endless L) h Whole u e) f l (sym (runs h s u d e p) ∙ r) in
      inr (v, (u, l, (h, a)), k v (along (λ z. MeetsLimit M meets' spends' (x z)) b w))

  -- the type that the first one comes to is moved, and the second one comes to it
  type-before : (s : S) (i : Inference (Tree C D)) (j : Inference (Tree A B)) → LimitsAlike s i j → (t : Tree C D) → ComesToType M i t → (v : Tree A B) × ComesToType L j v × (t ≡ moved m s v)
  type-before s i j g t (u, l, (h, p, r)) =
      let (v, a, b) = has-before (moved m s) (judged_within L h p u j) t l (sym (g.0 h p u) ∙ r) in
      (v, (u, l, (h, p, a)), b)

  part-limit : (s t : S) (n : ℕ) (i : Inference (Tree C D)) (j : Inference (Tree A B)) (x : Tree C D → Inference (Tree C D)) (y : Tree A B → Inference (Tree A B)) → LimitsAlike t i j
      → ((u : Tree A B) → MeetsLimit M meets' spends' (x (moved m t u)) → MeetsLimit L meets spends (y u)) → MeetsLimit M meets' spends' (FromPart n i x) → MeetsLimit L meets spends (FromPart n j y)
  part-limit s t n i j x y g k (inl w) = inl (g.1 w)
  part-limit s t n i j x y g k (inr (f, r, w)) =
      let (v, a, b) = type-before t i j g f r in inr (v, a, k v (along (λ z. MeetsLimit M meets' spends' (x z)) b w))

  aside-limit : (s : S) (i : Inference (Tree C D)) (j : Inference (Tree A B)) (x : Option (Tree C D) → Inference (Tree C D)) (y : Option (Tree A B) → Inference (Tree A B)) → LimitsAlike s i j
      → ((o : Option (Tree A B)) → MeetsLimit M meets' spends' (x (option_map (moved m s) o)) → MeetsLimit L meets spends (y o)) → MeetsLimit M meets' spends' (Aside i x) → MeetsLimit L meets spends (Aside j y)
  aside-limit s i j x y g k (inl w) = inl (spent s i j g.0 w)
  aside-limit s i j x y g k (inr (inl w)) = inr (inl (g.1 w))
  aside-limit s i j x y g k (inr (inr (inl (f, r, w)))) =
      let (v, a, b) = type-before s i j g f r in inr (inr (inl (v, a, k (Some v) (along (λ z. MeetsLimit M meets' spends' (x (Some z))) b w))))
  aside-limit s i j x y g k (inr (inr (inr (path, rule, (u, (h, p, r)), w)))) =
      inr (inr (inr (path, rule, (u, (h, p, ill-before (moved m s) (judged_within L h p u j) path rule (sym (g.0 h p u) ∙ r))), k None w)))

  pub limit-courses : Courses m E LimitsAlike
  limit-courses = record {
    gives = λ s t. (λ h. (q h).gives s t, λ w. absurd w);
    fails = λ s r. (λ h. (q h).fails s r, λ w. absurd w);
    deeper = λ s. (λ h. (q h).deeper s, λ w. absurd w);
    from_normal = λ s d e x y p k. (λ h. (q h).from_normal s d e x y p (λ t. (k t).0 h), normal-limit s d e x y p (λ t. (k t).1));
    from_part = λ s t n i j x y p k. (λ h. (q h).from_part s t n i j x y (p.0 h) (λ u. (k u).0 h), part-limit s t n i j x y p (λ u. (k u).1));
    aside = λ s i j x y p k. (λ h. (q h).aside s i j x y (p.0 h) (λ o. (k o).0 h), aside-limit s i j x y p (λ o. (k o).1));
    instead = λ s i j r p. (λ h. (q h).instead s i j r (p.0 h), p.1);
  }
