-- Whether two variables that no binder binds are equal.
use Rattle.std.specs.Prelude.{◌≡◌, ◌+◌, ◌^◌, ℕ, Bool, true, false, ◌&&◌, nat_eq, [], ◌∷◌, refl}
use Rattle.std.proofs.Common.{ap, sym, ◌∙◌, arith}
use Rattle.std.proofs.Math.Bool.{and-false}
use Rattle.dh_syntax.specs.Expressions.Numbers.{eq, bytes_eq}
use Rattle.dh_syntax.specs.Expressions.Tree.{Name}
use Rattle.dh_syntax.specs.Normalising.NamelessRuns.{ref_eq}
use Rattle.dh_syntax.proofs.NativeTests.{eq-native}
use Rattle.dh_syntax.proofs.Numbers.{eq-itself, eq-true}
use Rattle.dh_store.specs.Cells.{outside}

pub eq-same : (m n : ℕ) → m ≡ n → eq m n ≡ true
eq-same m n e = ap (eq m) (sym e) ∙ eq-itself m

pub eq-apart : (m n : ℕ) → (m ≡ n → ⊥) → eq m n ≡ false
eq-apart m n h = by (eq m n) refl
  where
    by : (b : Bool) → eq m n ≡ b → b ≡ false
    by false p = refl
    by true p = absurd (h (eq-true m n p))

and-true : (b : Bool) → b ≡ (b && true)
and-true true = refl
and-true false = refl

pub free-same : (x y : Name) (m n : ℕ) → m ≡ n → bytes_eq x y ≡ ref_eq (outside x m) (outside y n)
free-same [] [] m n e = sym (eq-same (m + 2 ^ 32) (n + 2 ^ 32) (omega arith))
free-same [] (c ∷ y) m n e = refl
free-same (b ∷ x) [] m n e = refl
free-same (b ∷ x) (c ∷ y) m n e = and-true (bytes_eq (b ∷ x) (c ∷ y)) ∙ ap (λ z. bytes_eq (b ∷ x) (c ∷ y) && z) (sym (eq-same m n e))

free-differ : (x y : Name) (m n : ℕ) → (m ≡ n → ⊥) → false ≡ ref_eq (outside x m) (outside y n)
free-differ [] [] m n h = sym (eq-apart (m + 2 ^ 32) (n + 2 ^ 32) (λ e. h (omega arith)))
free-differ [] (c ∷ y) m n h = refl
free-differ (b ∷ x) [] m n h = refl
free-differ (b ∷ x) (c ∷ y) m n h = sym (and-false (bytes_eq (b ∷ x) (c ∷ y))) ∙ ap (λ z. bytes_eq (b ∷ x) (c ∷ y) && z) (sym (eq-apart m n h))

pub free-apart : (x y : Name) (m n : ℕ) → (m ≡ n → ⊥) → nat_eq m n ≡ ref_eq (outside x m) (outside y n)
free-apart x y m n h = sym (eq-native m n) ∙ eq-apart m n h ∙ free-differ x y m n h
