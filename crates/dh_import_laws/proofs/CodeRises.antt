-- More to spend on the code of a key changes no outcome of it.
use Rattle.std.specs.Prelude.{◌≡◌, ℕ, suc, ◌+◌, List, [], Option, Some, refl}
use Rattle.std.proofs.Common.{ap, ◌∙◌, arith, subst}
use Rattle.dh_syntax.specs.declared.locations.Key.{Key}
use Rattle.dh_syntax.specs.Normalising.Heads.{Answer, Found, Wide, Deep, Over, Whole, run}
use Rattle.dh_syntax.specs.Typing.Inference.{Judgment, Has, Ill, IsWide, IsDeep, IsOver, IsOverAside, IsShallow}
use Rattle.dh_imports.specs.LastStep.{by_normal, by_type, code_outcome}
use Rattle.dh_syntax.specs.Normalising.Named.{names}
use Rattle.dh_syntax.specs.Typing.NamedTyping.{scopes, infer}
use Rattle.dh_syntax.specs.Normalising.Normal.{endless}
use Rattle.dh_imports.specs.Outcomes.{Outcome}
use Rattle.dh_syntax.specs.Expressions.Tree.{Term}
use Rattle.dh_syntax.specs.Typing.TypeRules.{Rule}
use Rattle.dh_syntax.specs.Typing.Typing.{typing}
use Rattle.dh_laws.specs.Runs.{IsWithMore}
use Rattle.dh_laws.proofs.KeyOrder.{none-some}
use Rattle.dh_typing_laws.proofs.Judging.JudgmentsSteady.{later, grown}
use Rattle.dh_laws.proofs.Normalising.RunLimits.{plus-is, more_units, higher}
use Rattle.dh_typing_laws.proofs.Typing.TypingsDeeper.{typing-deeper}
use Rattle.dh_typing_laws.specs.Judgments.{IsJudgedWithMore, IsUnlessTooFew, IsUnlessShallow}

-- ---- typing

module _ (e : Term) where
  deeper : (h p d c u : ℕ) → IsUnlessShallow (infer h p d [] u e) (infer h p (d + c) [] u e)
  deeper h p d c u =
      subst (λ z. IsUnlessShallow (infer h p d [] u e) (infer h p z [] u e)) (plus-is d c) (typing-deeper scopes (λ n x. run (endless names) h Whole n x) d c [] e p u)

  has-more : (h p d u a b c g : ℕ) (t : Term) (left : ℕ) → infer h p d [] u e ≡ Has t left → infer (h + a) (p + b) (d + c) [] (u + g) e ≡ Has t (left + g)
  has-more h p d u a b c g t left r =
      let x : infer h p (d + c) [] u e ≡ Has t left = subst (λ z. IsUnlessShallow z (infer h p (d + c) [] u e)) r (deeper h p d c u) in
      let y : infer (h + a) (p + b) (d + c) [] u e ≡ Has t left = subst (λ z. IsUnlessTooFew z (infer (h + a) (p + b) (d + c) [] u e)) x (grown names h a p b u (typing scopes (d + c) [] e)) in
      subst (λ z. IsJudgedWithMore g z (infer (h + a) (p + b) (d + c) [] (u + g) e)) y (later names (h + a) (p + b) u g (typing scopes (d + c) [] e))

  ill-more : (h p d u a b c g : ℕ) (path : List ℕ) (rule : Rule) → infer h p d [] u e ≡ Ill path rule → infer (h + a) (p + b) (d + c) [] (u + g) e ≡ Ill path rule
  ill-more h p d u a b c g path rule r =
      let x : infer h p (d + c) [] u e ≡ Ill path rule = subst (λ z. IsUnlessShallow z (infer h p (d + c) [] u e)) r (deeper h p d c u) in
      let y : infer (h + a) (p + b) (d + c) [] u e ≡ Ill path rule = subst (λ z. IsUnlessTooFew z (infer (h + a) (p + b) (d + c) [] u e)) x (grown names h a p b u (typing scopes (d + c) [] e)) in
      subst (λ z. IsJudgedWithMore g z (infer (h + a) (p + b) (d + c) [] (u + g) e)) y (later names (h + a) (p + b) u g (typing scopes (d + c) [] e))

  -- the same, where one number is enough for all
  at-one : (n h p d u : ℕ) (j : Judgment Term) → h ≡ n → p ≡ n → d ≡ n → u ≡ n → infer h p d [] u e ≡ j → infer n n n [] n e ≡ j
  at-one n h p d u j a b c g r =
      subst (λ z. infer n n n [] z e ≡ j) g (subst (λ z. infer n n z [] u e ≡ j) c (subst (λ z. infer n z d [] u e ≡ j) b (subst (λ z. infer z p d [] u e ≡ j) a r)))

  pub has-at : (n h p d u a b c g : ℕ) (t : Term) (left : ℕ) → h + a ≡ n → p + b ≡ n → d + c ≡ n → u + g ≡ n → infer h p d [] u e ≡ Has t left
      → infer n n n [] n e ≡ Has t (left + g)
  has-at n h p d u a b c g t left i j k l r = at-one n (h + a) (p + b) (d + c) (u + g) _ i j k l (has-more h p d u a b c g t left r)

  pub ill-at : (n h p d u a b c g : ℕ) (path : List ℕ) (rule : Rule) → h + a ≡ n → p + b ≡ n → d + c ≡ n → u + g ≡ n → infer h p d [] u e ≡ Ill path rule
      → infer n n n [] n e ≡ Ill path rule
  ill-at n h p d u a b c g path rule i j k l r = at-one n (h + a) (p + b) (d + c) (u + g) _ i j k l (ill-more h p d u a b c g path rule r)

  -- ---- normalising

  pub normal-at : (n h u a g : ℕ) (f : Term) (left : ℕ) → h + a ≡ n → u + g ≡ n → run (endless names) h Whole u e ≡ Found f left
      → run (endless names) n Whole n e ≡ Found f (left + g)
  normal-at n h u a g f left i l r =
      let x : run (endless names) (h + a) Whole u e ≡ Found f left = higher (endless names) h a Whole u e (Found f left) r refl in
      let y : run (endless names) (h + a) Whole (u + g) e ≡ Found f (left + g) =
      subst (λ z. IsWithMore g z (run (endless names) (h + a) Whole (u + g) e)) x (more_units (endless names) (h + a) Whole u g e) in
      subst (λ z. run (endless names) n Whole z e ≡ Found f (left + g)) l (subst (λ z. run (endless names) z Whole (u + g) e ≡ Found f (left + g)) i y)

-- ---- the outcome

module _ (k : Key) (e : Term) (allow : Option (List ℕ)) (n : ℕ) where
  by_normal-rises : (t : Term) (left : ℕ) (a : Answer Term) (o : Outcome) → infer n n n [] n e ≡ Has t left → run (endless names) n Whole n e ≡ a → by_normal allow a ≡ Some o
      → code_outcome k e allow (suc n) ≡ Some o
  by_normal-rises t left (Found f rest) o h r q =
      ap (by_type (suc n) k e allow) (has-at e (suc n) n n n n 1 1 1 1 t left (omega arith) (omega arith) (omega arith) (omega arith) h)
      ∙ ap (by_normal allow) (normal-at e (suc n) n n 1 1 f rest (omega arith) (omega arith) r) ∙ q
  by_normal-rises t left (Wide rest) o h r q = none-some refl q
  by_normal-rises t left (Deep rest) o h r q = none-some refl q
  by_normal-rises t left Over o h r q = none-some refl q

  by_type-rises : (j : Judgment Term) (o : Outcome) → infer n n n [] n e ≡ j → by_type n k e allow j ≡ Some o → code_outcome k e allow (suc n) ≡ Some o
  by_type-rises (Has t left) o h q = by_normal-rises t left (run (endless names) n Whole n e) o h refl q
  by_type-rises (Ill path rule) o h q =
      ap (by_type (suc n) k e allow) (ill-at e (suc n) n n n n 1 1 1 1 path rule (omega arith) (omega arith) (omega arith) (omega arith) h) ∙ q
  by_type-rises IsWide o h q = none-some refl q
  by_type-rises IsDeep o h q = none-some refl q
  by_type-rises IsOver o h q = none-some refl q
  by_type-rises IsOverAside o h q = none-some refl q
  by_type-rises IsShallow o h q = none-some refl q

pub code_outcome-rises : (k : Key) (e : Term) (allow : Option (List ℕ)) (n : ℕ) (o : Outcome) → code_outcome k e allow n ≡ Some o → code_outcome k e allow (suc n) ≡ Some o
code_outcome-rises k e allow n o h = by_type-rises k e allow n (infer n n n [] n e) o refl h
