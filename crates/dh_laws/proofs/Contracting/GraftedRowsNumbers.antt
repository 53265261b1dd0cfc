-- The rows of the built-in functions on Natural and Integer, on grafted expressions.
use Rattle.std.specs.Prelude.{◌≡◌, ℕ, zero, suc, ◌∷◌, [], refl, true}
use Rattle.std.proofs.Common.{ap}
use Rattle.dh_syntax.specs.declared.operators.Builtin.TheVariants as builtins
use Rattle.dh_syntax.specs.Normalising.BuiltinNumbers.{natural_build, folded_natural, natural_fold, natural_is_zero, natural_even, natural_odd, natural_to_integer, natural_show, natural_subtract, integer_show, integer_negate, integer_clamp}
use Rattle.dh_syntax.specs.Normalising.Contraction.{Gives, Binders}
use Rattle.dh_syntax.specs.Expressions.Forms as form
use Rattle.dh_syntax.specs.Expressions.Numbers.{le}
use Rattle.dh_laws.specs.Grafts.{Graft, grafted, Shown}
use Rattle.dh_syntax.specs.Expressions.Tree.{Tree}
use Rattle.dh_laws.proofs.Contracting.GraftedCases.{Commutes, BindersGraft, or-carried, when-carried, from-carried, within-carried, on-same-carried}
use Rattle.dh_laws.proofs.Contracting.GraftedViews.{as_natural-grafted, is_literal-grafted, as_integer-grafted}

module _ {S A B C D : Type 0} (m : Graft S A B C D) (s : S) where
  abbrev f : Tree A B → Tree C D
  f e = grafted m s e

  -- ---- Natural

  pub natural_build-grafted : (source : Binders A B) (target : Binders C D) → BindersGraft m source target
      → (g : Tree A B) → Commutes f (natural_build target (f g)) (natural_build source g)
  natural_build-grafted source target h g =
      ap (λ x. Gives (form.apply (f g) (form.builtin builtins.Natural ∷ x ∷ form.natural 0 ∷ []))) (h.successor s)

  folded_natural-grafted : (k : ℕ) (ty g b : Tree A B) → folded_natural k (f ty) (f g) (f b) ≡ f (folded_natural k ty g b)
  folded_natural-grafted zero ty g b = refl
  folded_natural-grafted (suc k) ty g b = refl

  pub natural_fold-grafted : (stage : ℕ) (n ty g b : Tree A B) → (le 1 stage ≡ true → Shown m s n) → Commutes f (natural_fold stage (f n) (f ty) (f g) (f b)) (natural_fold stage n ty g b)
  natural_fold-grafted stage n ty g b hn =
      from-carried f 1 stage _ _ (λ q1. on-same-carried f _ _ _ _ (as_natural-grafted m s n (hn q1)) (λ k. ap Gives (folded_natural-grafted k ty g b)))

  pub natural_is_zero-grafted : (stage : ℕ) (n : Tree A B) → (le 1 stage ≡ true → Shown m s n) → Commutes f (natural_is_zero stage (f n)) (natural_is_zero stage n)
  natural_is_zero-grafted stage n hn = from-carried f 1 stage _ _ (λ q1. on-same-carried f _ _ _ _ (as_natural-grafted m s n (hn q1)) (λ k. refl))

  pub natural_even-grafted : (stage : ℕ) (n : Tree A B) → (le 1 stage ≡ true → Shown m s n) → Commutes f (natural_even stage (f n)) (natural_even stage n)
  natural_even-grafted stage n hn = from-carried f 1 stage _ _ (λ q1. on-same-carried f _ _ _ _ (as_natural-grafted m s n (hn q1)) (λ k. refl))

  pub natural_odd-grafted : (stage : ℕ) (n : Tree A B) → (le 1 stage ≡ true → Shown m s n) → Commutes f (natural_odd stage (f n)) (natural_odd stage n)
  natural_odd-grafted stage n hn = from-carried f 1 stage _ _ (λ q1. on-same-carried f _ _ _ _ (as_natural-grafted m s n (hn q1)) (λ k. refl))

  pub natural_to_integer-grafted : (stage : ℕ) (n : Tree A B) → (le 1 stage ≡ true → Shown m s n) → Commutes f (natural_to_integer stage (f n)) (natural_to_integer stage n)
  natural_to_integer-grafted stage n hn =
      from-carried f 1 stage _ _ (λ q1. on-same-carried f _ _ _ _ (as_natural-grafted m s n (hn q1)) (λ k. within-carried f _ _ _ _ refl refl))

  pub natural_show-grafted : (stage : ℕ) (n : Tree A B) → (le 1 stage ≡ true → Shown m s n) → Commutes f (natural_show stage (f n)) (natural_show stage n)
  natural_show-grafted stage n hn = from-carried f 1 stage _ _ (λ q1. on-same-carried f _ _ _ _ (as_natural-grafted m s n (hn q1)) (λ k. refl))

  pub natural_subtract-grafted : (stage : ℕ) (a b : Tree A B) → (le 1 stage ≡ true → Shown m s a) → (le 2 stage ≡ true → Shown m s b) → Commutes f (natural_subtract stage (f a) (f b)) (natural_subtract stage a b)
  natural_subtract-grafted stage a b ha hb =
      from-carried f 1 stage _ _
      (λ q1. or-carried f _ _ _ _ (when-carried f _ _ _ _ (is_literal-grafted m s 0 a (ha q1)) refl)
      (from-carried f 2 stage _ _
      (λ q2. or-carried f _ _ _ _ (when-carried f _ _ _ _ (is_literal-grafted m s 0 b (hb q2)) refl)
      (or-carried f _ _ _ _
      (on-same-carried f _ _ _ _ (as_natural-grafted m s a (ha q1)) λ k. on-same-carried f _ _ _ _ (as_natural-grafted m s b (hb q2)) λ n. refl)
      refl))))

  -- ---- Integer

  pub integer_show-grafted : (stage : ℕ) (i : Tree A B) → (le 1 stage ≡ true → Shown m s i) → Commutes f (integer_show stage (f i)) (integer_show stage i)
  integer_show-grafted stage i hi = from-carried f 1 stage _ _ (λ q1. on-same-carried f _ _ _ _ (as_integer-grafted m s i (hi q1)) (λ z. refl))

  pub integer_negate-grafted : (stage : ℕ) (i : Tree A B) → (le 1 stage ≡ true → Shown m s i) → Commutes f (integer_negate stage (f i)) (integer_negate stage i)
  integer_negate-grafted stage i hi =
      from-carried f 1 stage _ _ (λ q1. on-same-carried f _ _ _ _ (as_integer-grafted m s i (hi q1)) (λ z. within-carried f _ _ _ _ refl refl))

  pub integer_clamp-grafted : (stage : ℕ) (i : Tree A B) → (le 1 stage ≡ true → Shown m s i) → Commutes f (integer_clamp stage (f i)) (integer_clamp stage i)
  integer_clamp-grafted stage i hi = from-carried f 1 stage _ _ (λ q1. on-same-carried f _ _ _ _ (as_integer-grafted m s i (hi q1)) (λ z. refl))
