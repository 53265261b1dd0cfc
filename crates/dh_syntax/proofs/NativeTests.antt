-- The tests on numbers and texts by structure are those of the program.
use Rattle.std.specs.Prelude.{◌≡◌, ◌<◌, ◌≤◌, ℕ, zero, suc, true, ◌&&◌, ◌==◌, nat_eq, nat_lt, nat_le, List, [], ◌∷◌, refl}
use Rattle.std.specs.Cmp.Lexicographic.{pointwise}
use Rattle.std.proofs.Common.{sym, ◌∙◌, ap, arith, Decides}
use Rattle.std.proofs.lemmas.Bool.{false≢true, leb-true, le-leb}
use Rattle.std.proofs.lemmas.Bool.Decides.{same_from_decides, Decides-ltb, Decides-eqb}
use Rattle.dh_syntax.specs.Expressions.Numbers.{eq, le, lt, bytes_eq}
use Rattle.dh_syntax.proofs.Numbers.{eq-itself, eq-true, bytes_eq-itself, bytes_eq-true}

pub Decides-eq : (m n : ℕ) → Decides (eq m n) (m ≡ n)
Decides-eq m n = (eq-true m n, λ e. ap (eq m) (sym e) ∙ eq-itself m)

pub le-true : (m n : ℕ) → le m n ≡ true → m ≤ n
le-true zero n h = omega arith
le-true (suc m) zero h = absurd (false≢true h)
le-true (suc m) (suc n) h = omega (arith, le-true m n h)

pub true-le : (m n : ℕ) → m ≤ n → le m n ≡ true
true-le zero n h = refl
true-le (suc m) zero h = absurd (omega arith)
true-le (suc m) (suc n) h = true-le m n (omega arith)

pub Decides-le : (m n : ℕ) → Decides (le m n) (m ≤ n)
Decides-le m n = (le-true m n, true-le m n)

pub Decides-lt : (m n : ℕ) → Decides (lt m n) (m < n)
Decides-lt m n = (λ h. omega (arith, le-true (suc m) n h), λ h. true-le (suc m) n (omega arith))

-- The native tests.
pub eq-native : (m n : ℕ) → eq m n ≡ (m == n)
eq-native m n = same_from_decides (eq m n) (m == n) (Decides-eq m n) (Decides-eqb m n)

pub lt-native : (m n : ℕ) → lt m n ≡ nat_lt m n
lt-native m n = same_from_decides (lt m n) (nat_lt m n) (Decides-lt m n) (Decides-ltb m n)

pub bytes_eq-pointwise : (x y : List ℕ) → bytes_eq x y ≡ pointwise nat_eq x y
bytes_eq-pointwise [] [] = refl
bytes_eq-pointwise [] (b ∷ bs) = refl
bytes_eq-pointwise (a ∷ as') [] = refl
bytes_eq-pointwise (a ∷ as') (b ∷ bs) =
    ap (λ e. e && bytes_eq as' bs) (eq-native a b) ∙ ap (λ e. (a == b) && e) (bytes_eq-pointwise as' bs)
