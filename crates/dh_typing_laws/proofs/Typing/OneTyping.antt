-- More depth, and that typing comes to one judgment.
use Rattle.std.specs.Prelude.{◌≡◌, ℕ, ◌+◌, List}
use Rattle.std.proofs.Common.{ap, sym, ◌∙◌, arith, subst as along}
use Rattle.dh_syntax.specs.Expressions.Tree.{Tree, Term}
use Rattle.dh_syntax.specs.Normalising.Heads.{Lang, Whole, run}
use Rattle.dh_syntax.specs.Normalising.Named.{names}
use Rattle.dh_syntax.specs.Normalising.Normal.{endless}
use Rattle.dh_syntax.specs.Typing.Inference.{Inference, Judgment, Has, Ill, IsWide, IsDeep, IsOver, IsOverAside, IsShallow, judged_within, ComesTo}
use Rattle.dh_syntax.specs.Typing.NamedTyping.{scopes}
use Rattle.dh_syntax.specs.Typing.Scopes.{Scopes, Context}
use Rattle.dh_syntax.specs.Typing.TypeRules.{Rule, rule_number}
use Rattle.dh_syntax.specs.Typing.Typing.{typing}
use Rattle.dh_laws.proofs.Normalising.RunLimits.{plus-is}
use Rattle.dh_typing_laws.specs.Judgments.{IsJudgedWithMore, IsUnlessShallow, IsFirm, MoreUnits, MoreHeights, OneJudgment, MoreDepth, OneType, OneRefusal, TypeOrRefusal}
use Rattle.dh_typing_laws.proofs.Judging.JudgmentsLag.{Firm}
use Rattle.dh_typing_laws.proofs.Judging.JudgmentsLag as lag
use Rattle.dh_typing_laws.proofs.Judging.JudgmentsSteady.{later, grown}
use Rattle.dh_typing_laws.proofs.Typing.TypingsDeeper.{typing-deeper}

-- ---- any inference

pub more_units : (T : Type 0) → MoreUnits T
more_units T L heights purse units more i = later L heights purse units more i

pub more_heights : (T : Type 0) → MoreHeights T
more_heights T L heights more purse further units i = grown L heights more purse further units i

firm : {T : Type 0} (L : Lang T) (b : Judgment T) → IsFirm b → Firm L b
firm L (Has t left) f c g = g
firm L (Ill path rule) f c g = g
firm L IsWide f c g = g
firm L IsDeep f c g = absurd f
firm L IsOver f c g = g
firm L IsOverAside f c g = absurd f
firm L IsShallow f c g = absurd f

pub one_judgment : (T : Type 0) → OneJudgment T
one_judgment T L units i a b f g p q = lag.one_judgment L units i a b (firm L a f) (firm L b g) p q

module _ {T : Type 0} (L : Lang T) where
  has-more : (n k : ℕ) (t : T) (left : ℕ) (i : Inference T) → ComesTo L n i (Has t left) → ComesTo L (n + k) i (Has t (left + k))
  has-more n k t left i (h, p, r) = (h, p, along (λ z. IsJudgedWithMore k z (judged_within L h p (n + k) i)) r (later L h p n k i))

  ill-more : (n k : ℕ) (path : List ℕ) (rule : Rule) (i : Inference T) → ComesTo L n i (Ill path rule) → ComesTo L (n + k) i (Ill path rule)
  ill-more n k path rule i (h, p, r) = (h, p, along (λ z. IsJudgedWithMore k z (judged_within L h p (n + k) i)) r (later L h p n k i))

-- ---- more depth

module _ {A B : Type 0} (S : Scopes A B) (L : Lang (Tree A B)) where
  pub more_depth : MoreDepth S L
  more_depth heights purse depth more c units e =
      along (λ d. IsUnlessShallow (judged_within L heights purse units (typing S depth c e)) (judged_within L heights purse units (typing S d c e))) (plus-is depth more)
      (typing-deeper S (λ u d. run (endless L) heights Whole u d) depth more c e purse units)

  has-deeper : (depth more : ℕ) (c : Context A B) (n : ℕ) (e t : Tree A B) (left : ℕ) → ComesTo L n (typing S depth c e) (Has t left) → ComesTo L n (typing S (depth + more) c e) (Has t left)
  has-deeper depth more c n e t left (h, p, r) =
      (h, p, along (λ z. IsUnlessShallow z (judged_within L h p n (typing S (depth + more) c e))) r (more_depth h p depth more c n e))

  ill-deeper : (depth more : ℕ) (c : Context A B) (n : ℕ) (e : Tree A B) (path : List ℕ) (rule : Rule)
      → ComesTo L n (typing S depth c e) (Ill path rule) → ComesTo L n (typing S (depth + more) c e) (Ill path rule)
  ill-deeper depth more c n e path rule (h, p, r) =
      (h, p, along (λ z. IsUnlessShallow z (judged_within L h p n (typing S (depth + more) c e))) r (more_depth h p depth more c n e))

  -- with so much depth of both, and so many units
  abbrev Both : ℕ → ℕ → Context A B → ℕ → Tree A B → Judgment (Tree A B) → Type 0
  Both depth other c units e j = ComesTo L units (typing S (depth + other) c e) j

  other-way : (depth other n m : ℕ) (c : Context A B) (e : Tree A B) (j : Judgment (Tree A B)) → Both other depth c (m + n) e j → Both depth other c (n + m) e j
  other-way depth other n m c e j r =
      along (λ d. ComesTo L (n + m) (typing S d c e) j) {x = other + depth} {y = depth + other} (omega arith)
      (along (λ u. ComesTo L u (typing S (other + depth) c e) j) {x = m + n} {y = n + m} (omega arith) r)

  has-both : (depth other n m : ℕ) (c : Context A B) (e t : Tree A B) → ComesTo L n (typing S depth c e) (Has t 0) → Both depth other c (n + m) e (Has t (0 + m))
  has-both depth other n m c e t r = has-more L n m t 0 (typing S (depth + other) c e) (has-deeper depth other c n e t 0 r)

  ill-both : (depth other n m : ℕ) (c : Context A B) (e : Tree A B) (path : List ℕ) (rule : Rule) → ComesTo L n (typing S depth c e) (Ill path rule) → Both depth other c (n + m) e (Ill path rule)
  ill-both depth other n m c e path rule r = ill-more L n m path rule (typing S (depth + other) c e) (ill-deeper depth other c n e path rule r)

-- ---- one judgment of an expression

types-equal : {T : Type 0} (t u : T) (l k : ℕ) → Has t l ≡ Has u k → t ≡ u
types-equal t u l k h = cc

units-equal : {T : Type 0} (t u : T) (l k : ℕ) → Has t l ≡ Has u k → l ≡ k
units-equal t u l k h = cc

paths-equal : (T : Type 0) (p q : List ℕ) (r s : Rule) → ◌≡◌ {A = Judgment T} (Ill p r) (Ill q s) → p ≡ q
paths-equal T p q r s h = cc

rules-equal : (T : Type 0) (p q : List ℕ) (r s : Rule) → ◌≡◌ {A = Judgment T} (Ill p r) (Ill q s) → r ≡ s
rules-equal T p q r s h = cc

apart : {T : Type 0} (t : T) (l : ℕ) (p : List ℕ) (r : Rule) → Has t l ≡ Ill p r → ⊥
apart t l p r h = absurd cc

pub one_type : OneType
one_type c e t u n m (d, r) (d', s) =
    let q = one_judgment Term names (n + m) (typing scopes (d + d') c e) (Has t (0 + m)) (Has u (0 + n)) tt tt
    (has-both scopes names d d' n m c e t r) (other-way scopes names d d' n m c e (Has u (0 + n)) (has-both scopes names d' d m n c e u s)) in
    let k = units-equal t u (0 + m) (0 + n) q in
    (types-equal t u (0 + m) (0 + n) q, omega arith)

pub one_refusal : OneRefusal
one_refusal c e path place number other (rule, n, (d, r), w) (rule', m, (d', s), w') =
    let q = one_judgment Term names (n + m) (typing scopes (d + d') c e) (Ill path rule) (Ill place rule') tt tt
    (ill-both scopes names d d' n m c e path rule r) (other-way scopes names d d' n m c e (Ill place rule') (ill-both scopes names d' d m n c e place rule' s)) in
    (paths-equal Term path place rule rule' q, w ∙ ap rule_number (rules-equal Term path place rule rule' q) ∙ sym w')

pub type_or_refusal : TypeOrRefusal
type_or_refusal c e t n path number (d, r) (rule, m, (d', s), w) =
    apart t (0 + m) path rule
    (one_judgment Term names (n + m) (typing scopes (d + d') c e) (Has t (0 + m)) (Ill path rule) tt tt
    (has-both scopes names d d' n m c e t r) (other-way scopes names d d' n m c e (Ill path rule) (ill-both scopes names d' d m n c e path rule s)))
