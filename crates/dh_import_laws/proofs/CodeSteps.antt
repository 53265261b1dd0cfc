-- The last step of code is by the rules of typing and normalising: what it gives they give, and back.
use Rattle.std.specs.Prelude.{◌≡◌, ℕ, ◌+◌, List, [], Option, Some, refl}
use Rattle.std.proofs.Common.{ap, sym, ◌∙◌, arith, subst}
use Rattle.dh_syntax.specs.declared.faults.TypeFault.TheVariants as type
use Rattle.dh_syntax.specs.declared.locations.Key.{Key}
use Rattle.dh_imports.specs.declared.outcomes.Why.TheVariants.{Typing}
use Rattle.dh_syntax.specs.Normalising.Heads.{Answer, Found, Wide, Deep, Over, Whole, run}
use Rattle.dh_syntax.specs.Typing.Inference.{Judgment, Has, Ill, IsWide, IsDeep, IsOver, IsOverAside, IsShallow}
use Rattle.dh_imports.specs.LastStep.{Code, own, by_normal, by_type, code_outcome, last_step}
use Rattle.dh_syntax.specs.Normalising.Named.{names}
use Rattle.dh_syntax.specs.Typing.NamedTyping.{infer, Infers, IsIll}
use Rattle.dh_syntax.specs.Normalising.Normal.{endless, HasNormalForm}
use Rattle.dh_imports.specs.Outcomes.{Outcome}
use Rattle.dh_imports.specs.Records.{IsTyped}
use Rattle.dh_syntax.specs.Expressions.Tree.{Term}
use Rattle.dh_syntax.specs.Typing.TypeRules.{Rule}
use Rattle.dh_import_laws.specs.ImportLaws.{ComesOf, normal, ill, CodeComesOf, CodeComes, OneOutcomeOfCode}
use Rattle.dh_import_laws.proofs.CodeRises.{has-at, ill-at, normal-at}
use Rattle.dh_import_laws.proofs.Grow.{last_step-rises, rises-plus, rises-plus_left}
use Rattle.dh_laws.proofs.KeyOrder.{none-some, some-equal}

code_step : (k : Key) (e : Term) (allow : Option (List ℕ)) (n : ℕ) → last_step n k (Code e allow) ≡ code_outcome k e allow n
unfolding last_step
code_step k e allow n = refl

-- ---- what it gives

module _ (k : Key) (e : Term) (allow : Option (List ℕ)) (n : ℕ) where
  by_normal-comes : (t : Term) (left : ℕ) (a : Answer Term) (o : Outcome) → infer n n n [] n e ≡ Has t left → run (endless names) n Whole n e ≡ a → by_normal allow a ≡ Some o → ComesOf k e allow o
  by_normal-comes t left (Found f rest) o h g q = subst (ComesOf k e allow) (some-equal q) (normal n t left (n, (n, n, h)) (n, rest, (n, g)))
  by_normal-comes t left (Wide rest) o h g q = none-some refl q
  by_normal-comes t left (Deep rest) o h g q = none-some refl q
  by_normal-comes t left Over o h g q = none-some refl q

  by_type-comes : (j : Judgment Term) (o : Outcome) → infer n n n [] n e ≡ j → by_type n k e allow j ≡ Some o → ComesOf k e allow o
  by_type-comes (Has t left) o h q = by_normal-comes t left (run (endless names) n Whole n e) o h refl q
  by_type-comes (Ill path rule) o h q = subst (ComesOf k e allow) (some-equal q) (ill (rule, n, (n, (n, n, h)), refl))
  by_type-comes IsWide o h q = none-some refl q
  by_type-comes IsDeep o h q = none-some refl q
  by_type-comes IsOver o h q = none-some refl q
  by_type-comes IsOverAside o h q = none-some refl q
  by_type-comes IsShallow o h q = none-some refl q

pub code_comes_of : CodeComesOf
code_comes_of n k e allow o h = by_type-comes k e allow n (infer n n n [] n e) o refl (sym (code_step k e allow n) ∙ h)

-- ---- and back

module _ (k : Key) (e : Term) (allow : Option (List ℕ)) where
  normal-comes : (units : ℕ) (t f : Term) (left : ℕ) → Infers [] units e (Has t left) → HasNormalForm names e f
      → (n : ℕ) × (last_step n k (Code e allow) ≡ by_normal allow (Found f 0))
  normal-comes u t f left (d, (h, p, r)) (v, rest, (i, s)) =
      let n = u + d + h + p + v + i in (
        n,
        code_step k e allow n
            ∙ ap (by_type n k e allow)
            (has-at e n h p d u (u + d + p + v + i) (u + d + h + v + i) (u + h + p + v + i) (d + h + p + v + i) t left (omega arith) (omega arith) (omega arith) (omega arith) r)
            ∙ ap (by_normal allow) (normal-at e n i v (u + d + h + p + v) (u + d + h + p + i) f rest (omega arith) (omega arith) s),
      )

  ill-comes : (path : List ℕ) (number : ℕ) → IsIll [] e path number
      → (n : ℕ) × (last_step n k (Code e allow) ≡ Some (own k (Typing (type.Ill (record { path = path; rule = number })))))
  ill-comes path number (rule, u, (d, (h, p, r)), q) =
      let n = u + d + h + p in (
        n,
        code_step k e allow n
            ∙ ap (by_type n k e allow) (ill-at e n h p d u (u + d + p) (u + d + h) (u + h + p) (d + h + p) path rule (omega arith) (omega arith) (omega arith) (omega arith) r)
            ∙ ap (λ z. Some (own k (Typing (type.Ill (record { path = path; rule = z }))))) (sym q),
      )

pub code_comes : CodeComes
code_comes k e allow _ (normal {f} units t left h g) = normal-comes k e allow units t f left h g
code_comes k e allow _ (ill {path} {number} h) = ill-comes k e allow path number h

-- so code comes to one outcome
pub one_outcome_of_code : OneOutcomeOfCode
one_outcome_of_code k e allow o p h g =
    let (m, a) = code_comes k e allow o h in
    let (n, b) = code_comes k e allow p g in
    some-equal (sym (rises-plus_left (λ z. last_step z k (Code e allow)) (last_step-rises k (Code e allow)) m n o a) ∙ rises-plus (λ z. last_step z k (Code e allow)) (last_step-rises k (Code e allow)) m n p b)

type-refused : (t : Term) (left : ℕ) (path : List ℕ) (rule : Rule) → Has t left ≡ Ill path rule → ⊥
type-refused t left path rule h = absurd cc

-- and code that has a type is not refused, so no limit of normalising is noted of what is
pub typed_not_ill : (e : Term) (path : List ℕ) (number : ℕ) → IsTyped e → IsIll [] e path number → ⊥
typed_not_ill e path number (u, t, left, (d, (h, p, r))) (rule, v, (c, (i, q, s)), w) =
    let n = u + d + h + p + v + c + i + q in
    let a = has-at e n h p d u (u + d + p + v + c + i + q) (u + d + h + v + c + i + q) (u + h + p + v + c + i + q) (d + h + p + v + c + i + q) t left (omega arith) (omega arith) (omega arith) (omega arith) r in
    let b = ill-at e n i q c v (u + d + h + p + v + c + q) (u + d + h + p + v + c + i) (u + d + h + p + v + i + q) (u + d + h + p + c + i + q) path rule (omega arith) (omega arith) (omega arith) (omega arith) s in
    absurd (type-refused t _ path rule (sym a ∙ b))
