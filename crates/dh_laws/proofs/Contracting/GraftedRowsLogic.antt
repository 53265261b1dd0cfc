-- The rows of `if`, of the operators on Bool and of those on Natural, on grafted expressions.
use Rattle.std.specs.Prelude.{◌≡◌, ℕ, ◌+◌, ◌*◌, Bool, ◌&&◌, refl, true}
use Rattle.dh_syntax.specs.Normalising.ContractLogic.{if_then_else, disjunction, conjunction, equality, inequality}
use Rattle.dh_syntax.specs.Normalising.Contraction.{on}
use Rattle.dh_syntax.specs.Normalising.ContractNumbers.{natural_literal, sum, product}
use Rattle.dh_syntax.specs.Expressions.Numbers.{le}
use Rattle.dh_laws.specs.Grafts.{Graft, grafted, Shown}
use Rattle.dh_syntax.specs.Limits.{natural_fits}
use Rattle.dh_syntax.specs.Expressions.Tree.{Tree}
use Rattle.dh_syntax.specs.Expressions.Views.{as_natural}
use Rattle.dh_laws.proofs.Contracting.GraftedCases.{Commutes, or-carried, when-carried, from-carried, within-carried, on-same-carried}
use Rattle.dh_laws.proofs.Contracting.GraftedViews.{is_true-grafted, is_false-grafted, as_natural-grafted, is_literal-grafted}

module _ {S A B C D : Type 0} (m : Graft S A B C D) (s : S) where
  abbrev f : Tree A B → Tree C D
  f e = grafted m s e

  both : (a a' b b' : Bool) → a' ≡ a → b' ≡ b → (a' && b') ≡ (a && b)
  both a a' b b' p q = cc

  pub if_then_else-grafted : (stage : ℕ) (p t e : Tree A B) → (le 1 stage ≡ true → Shown m s p) → (le 3 stage ≡ true → Shown m s t) → (le 3 stage ≡ true → Shown m s e) → Commutes f (if_then_else stage (f p) (f t) (f e)) (if_then_else stage p t e)
  if_then_else-grafted stage p t e hp ht he =
      from-carried f 1 stage _ _
      (λ q1. or-carried f _ _ _ _ (when-carried f _ _ _ _ (is_true-grafted m s p (hp q1)) refl)
      (or-carried f _ _ _ _ (when-carried f _ _ _ _ (is_false-grafted m s p (hp q1)) refl)
      (from-carried f 3 stage _ _
      (λ q3. or-carried f _ _ _ _ (when-carried f _ _ _ _ (both _ _ _ _ (is_true-grafted m s t (ht q3)) (is_false-grafted m s e (he q3))) refl) refl))))

  pub disjunction-grafted : (stage : ℕ) (l r : Tree A B) → (le 1 stage ≡ true → Shown m s l) → (le 2 stage ≡ true → Shown m s r) → Commutes f (disjunction stage (f l) (f r)) (disjunction stage l r)
  disjunction-grafted stage l r hl hr =
      from-carried f 1 stage _ _
      (λ q1. or-carried f _ _ _ _ (when-carried f _ _ _ _ (is_true-grafted m s l (hl q1)) refl)
      (or-carried f _ _ _ _ (when-carried f _ _ _ _ (is_false-grafted m s l (hl q1)) refl)
      (from-carried f 2 stage _ _
      (λ q2. or-carried f _ _ _ _ (when-carried f _ _ _ _ (is_false-grafted m s r (hr q2)) refl)
      (or-carried f _ _ _ _ (when-carried f _ _ _ _ (is_true-grafted m s r (hr q2)) refl) refl)))))

  pub conjunction-grafted : (stage : ℕ) (l r : Tree A B) → (le 1 stage ≡ true → Shown m s l) → (le 2 stage ≡ true → Shown m s r) → Commutes f (conjunction stage (f l) (f r)) (conjunction stage l r)
  conjunction-grafted stage l r hl hr =
      from-carried f 1 stage _ _
      (λ q1. or-carried f _ _ _ _ (when-carried f _ _ _ _ (is_false-grafted m s l (hl q1)) refl)
      (or-carried f _ _ _ _ (when-carried f _ _ _ _ (is_true-grafted m s l (hl q1)) refl)
      (from-carried f 2 stage _ _
      (λ q2. or-carried f _ _ _ _ (when-carried f _ _ _ _ (is_true-grafted m s r (hr q2)) refl)
      (or-carried f _ _ _ _ (when-carried f _ _ _ _ (is_false-grafted m s r (hr q2)) refl) refl)))))

  pub equality-grafted : (stage : ℕ) (l r : Tree A B) → (le 1 stage ≡ true → Shown m s l) → (le 2 stage ≡ true → Shown m s r) → Commutes f (equality stage (f l) (f r)) (equality stage l r)
  equality-grafted stage l r hl hr =
      from-carried f 1 stage _ _
      (λ q1. or-carried f _ _ _ _ (when-carried f _ _ _ _ (is_true-grafted m s l (hl q1)) refl)
      (from-carried f 2 stage _ _
      (λ q2. or-carried f _ _ _ _ (when-carried f _ _ _ _ (is_true-grafted m s r (hr q2)) refl) refl)))

  pub inequality-grafted : (stage : ℕ) (l r : Tree A B) → (le 1 stage ≡ true → Shown m s l) → (le 2 stage ≡ true → Shown m s r) → Commutes f (inequality stage (f l) (f r)) (inequality stage l r)
  inequality-grafted stage l r hl hr =
      from-carried f 1 stage _ _
      (λ q1. or-carried f _ _ _ _ (when-carried f _ _ _ _ (is_false-grafted m s l (hl q1)) refl)
      (from-carried f 2 stage _ _
      (λ q2. or-carried f _ _ _ _ (when-carried f _ _ _ _ (is_false-grafted m s r (hr q2)) refl) refl)))

  -- a case that makes one number of those that two views give
  of_numbers : (l r : Tree A B) (g : ℕ → ℕ → ℕ) → Shown m s l → Shown m s r → Commutes f
      (on (as_natural (f l)) (λ k. on (as_natural (f r)) (λ n. natural_literal (g k n))))
      (on (as_natural l) (λ k. on (as_natural r) (λ n. natural_literal (g k n))))
  of_numbers l r g hl hr =
      on-same-carried f _ _ _ _ (as_natural-grafted m s l hl) λ k.
      on-same-carried f _ _ _ _ (as_natural-grafted m s r hr) λ n.
      within-carried f (natural_fits (g k n)) (natural_fits (g k n)) _ _ refl refl

  pub sum-grafted : (stage : ℕ) (l r : Tree A B) → (le 1 stage ≡ true → Shown m s l) → (le 2 stage ≡ true → Shown m s r) → Commutes f (sum stage (f l) (f r)) (sum stage l r)
  sum-grafted stage l r hl hr =
      from-carried f 1 stage _ _
      (λ q1. or-carried f _ _ _ _ (when-carried f _ _ _ _ (is_literal-grafted m s 0 l (hl q1)) refl)
      (from-carried f 2 stage _ _
      (λ q2. or-carried f _ _ _ _ (when-carried f _ _ _ _ (is_literal-grafted m s 0 r (hr q2)) refl)
      (of_numbers l r (λ k n. k + n) (hl q1) (hr q2)))))

  pub product-grafted : (stage : ℕ) (l r : Tree A B) → (le 1 stage ≡ true → Shown m s l) → (le 2 stage ≡ true → Shown m s r) → Commutes f (product stage (f l) (f r)) (product stage l r)
  product-grafted stage l r hl hr =
      from-carried f 1 stage _ _
      (λ q1. or-carried f _ _ _ _ (when-carried f _ _ _ _ (is_literal-grafted m s 0 l (hl q1)) refl)
      (or-carried f _ _ _ _ (when-carried f _ _ _ _ (is_literal-grafted m s 1 l (hl q1)) refl)
      (from-carried f 2 stage _ _
      (λ q2. or-carried f _ _ _ _ (when-carried f _ _ _ _ (is_literal-grafted m s 0 r (hr q2)) refl)
      (or-carried f _ _ _ _ (when-carried f _ _ _ _ (is_literal-grafted m s 1 r (hr q2)) refl)
      (of_numbers l r (λ k n. k * n) (hl q1) (hr q2)))))))
