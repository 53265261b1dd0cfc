-- Renamings of references about the variables that have numbers, and what has none of these from some number on.
use Rattle.std.specs.Prelude.{◌≡◌, ◌+◌, ◌^◌, ℕ, zero, suc, nat_lt, List, [], ◌∷◌, length, if◌then◌else◌}
use Rattle.std.proofs.Common.{ap, sym, arith}
use Rattle.std.proofs.lemmas.Bool.Decides.{nat_tests}
use Rattle.dh_syntax.specs.Expressions.Tree.{Name}
use Rattle.dh_syntax.specs.Names.Nameless.{Ref, Bound, Free, Core}
use Rattle.dh_norm.specs.References.{Apart, lower, opened}
use Rattle.dh_infer.specs.Inside.OpenTyping.{level}

-- one more, from k on
abbrev pub past_number : ℕ → ℕ → ℕ
past_number k m = if nat_lt m k then m else suc m

-- free variables without a name have one more from the number n on
abbrev pub past_level : ℕ → Ref → Ref
past_level n (Bound i) = Bound i
past_level n (Free [] m) = Free [] (past_number (n + 2 ^ 32) m)
past_level n (Free (b ∷ x) m) = Free (b ∷ x) m

past_number-apart : (k m n : ℕ) → past_number k m ≡ past_number k n → m ≡ n
past_number-apart k m n h = grind (arith, nat_tests)

number-of : (x y : Name) (m n : ℕ) → Free x m ≡ Free y n → m ≡ n
number-of x y m n h = cc

name-of : (x y : Name) (m n : ℕ) → Free x m ≡ Free y n → x ≡ y
name-of x y m n h = cc

index-of : (i j : ℕ) → Bound i ≡ Bound j → i ≡ j
index-of i j h = cc

index-before : (i j : ℕ) → suc i ≡ suc j → i ≡ j
index-before i j h = omega arith

past_level-apart : (n : ℕ) (r s : Ref) → past_level n r ≡ past_level n s → r ≡ s
past_level-apart n (Bound i) (Bound j) h = h
past_level-apart n (Bound i) (Free [] m) h = absurd cc
past_level-apart n (Bound i) (Free (b ∷ x) m) h = absurd cc
past_level-apart n (Free [] m) (Bound j) h = absurd cc
past_level-apart n (Free (b ∷ x) m) (Bound j) h = absurd cc
past_level-apart n (Free [] l) (Free [] m) h = ap (Free []) (past_number-apart (n + 2 ^ 32) l m (number-of _ _ _ _ h))
past_level-apart n (Free [] l) (Free (b ∷ x) m) h = let e = name-of _ _ _ _ h in absurd cc
past_level-apart n (Free (b ∷ x) l) (Free [] m) h = let e = name-of _ _ _ _ h in absurd cc
past_level-apart n (Free (b ∷ x) l) (Free (c ∷ y) m) h = h

-- ---- one more binder above, and one more variable from the number n on

-- a bound variable is one binder further out, and numbers from n on are one greater
abbrev pub moving_ref : ℕ → Ref → Ref
moving_ref n (Bound i) = Bound (suc i)
moving_ref n (Free x m) = past_level n (Free x m)

free-bound : {P : Type 0} (n i : ℕ) (x : Name) (m : ℕ) → past_level n (Free x m) ≡ Bound i → P
free-bound n i [] m h = absurd cc
free-bound n i (b ∷ x) m h = absurd cc

-- different references stay different when they are moved
pub moving-apart : (n : ℕ) (r s : Ref) → moving_ref n r ≡ moving_ref n s → r ≡ s
moving-apart n (Bound i) (Bound j) h = ap Bound (index-before i j (index-of _ _ h))
moving-apart n (Bound i) (Free x m) h = free-bound n (suc i) x m (sym h)
moving-apart n (Free x m) (Bound j) h = free-bound n (suc j) x m h
moving-apart n (Free x l) (Free y m) h = past_level-apart n (Free x l) (Free y m) h

-- the renaming for one more binder above and one more variable from the number n on
abbrev pub moving : ℕ → Apart
moving n = record { fun = moving_ref n; apart = moving-apart n }

-- It has no variable of a binder that stands above it, and none that has the number n or a greater one.
abbrev pub IsOf : ℕ → Core → Type 0
IsOf n e = opened (moving n) e ≡ e

-- So it is, but for the variable of the nearest binder.
abbrev pub IsOfBelow : ℕ → Core → Type 0
IsOfBelow n e = opened (lower (moving n)) e ≡ e

-- each of these types, the last number first, has variables of lower numbers alone
abbrev pub AreOf : List Core → Type 0
AreOf [] = Unit {0}
AreOf (t ∷ ts) = IsOf (length ts) t × AreOf ts

-- ---- the variable of the nearest binder gets the number n, and those that had it or a greater one get one more

-- the variable of the nearest binder becomes that of number n, and numbers from n on are one greater
abbrev pub entering_ref : ℕ → Ref → Ref
entering_ref n (Bound zero) = level n
entering_ref n (Bound (suc i)) = Bound i
entering_ref n (Free x m) = past_level n (Free x m)

level-past : {P : Type 0} (n : ℕ) (x : Name) (m : ℕ) → level n ≡ past_level n (Free x m) → P
level-past n [] m h = let e = number-of _ _ _ _ h in absurd (grind (arith, nat_tests))
level-past n (b ∷ x) m h = let e = name-of _ _ _ _ h in absurd cc

-- different references stay different when a binder is entered
pub entering-apart : (n : ℕ) (r s : Ref) → entering_ref n r ≡ entering_ref n s → r ≡ s
entering-apart n (Bound zero) (Bound zero) h = λ i. Bound zero
entering-apart n (Bound zero) (Bound (suc j)) h = absurd cc
entering-apart n (Bound (suc i)) (Bound zero) h = absurd cc
entering-apart n (Bound (suc i)) (Bound (suc j)) h = ap (λ k. Bound (suc k)) (index-of i j h)
entering-apart n (Bound zero) (Free x m) h = level-past n x m h
entering-apart n (Free x m) (Bound zero) h = level-past n x m (sym h)
entering-apart n (Bound (suc i)) (Free x m) h = free-bound n i x m (sym h)
entering-apart n (Free x m) (Bound (suc j)) h = free-bound n j x m h
entering-apart n (Free x l) (Free y m) h = past_level-apart n (Free x l) (Free y m) h

-- the renaming that gives the variable of the nearest binder the number n
abbrev pub entering : ℕ → Apart
entering n = record { fun = entering_ref n; apart = entering-apart n }
