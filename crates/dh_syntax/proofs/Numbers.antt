-- Laws of the tests on numbers and texts.
use Rattle.std.specs.Prelude.{◌≡◌, ℕ, zero, suc, Bool, true, false, ◌&&◌, List, [], ◌∷◌, refl}
use Rattle.std.proofs.Common.{ap}
use Rattle.dh_syntax.specs.Expressions.Numbers.{eq, le, pred, bytes_eq}

pub and-true_left : (a b : Bool) → (a && b) ≡ true → a ≡ true
and-true_left true b h = refl
and-true_left false b h = h

pub and-true_right : (a b : Bool) → (a && b) ≡ true → b ≡ true
and-true_right true b h = h
and-true_right false b h = cc

pub eq-itself : (n : ℕ) → eq n n ≡ true
eq-itself zero = refl
eq-itself (suc n) = eq-itself n

pub eq-true : (m n : ℕ) → eq m n ≡ true → m ≡ n
eq-true zero zero h = refl
eq-true zero (suc n) h = cc
eq-true (suc m) zero h = cc
eq-true (suc m) (suc n) h = ap suc (eq-true m n h)

pub bytes_eq-itself : (x : List ℕ) → bytes_eq x x ≡ true
bytes_eq-itself [] = refl
bytes_eq-itself (a ∷ x) = let e = eq-itself a in let ih = bytes_eq-itself x in rw (e, ih) refl

pub bytes_eq-true : (x y : List ℕ) → bytes_eq x y ≡ true → x ≡ y
bytes_eq-true [] [] h = refl
bytes_eq-true [] (b ∷ y) h = cc
bytes_eq-true (a ∷ x) [] h = cc
bytes_eq-true (a ∷ x) (b ∷ y) h =
    let p = eq-true a b (and-true_left (eq a b) (bytes_eq x y) h) in
    let q = bytes_eq-true x y (and-true_right (eq a b) (bytes_eq x y) h) in
    cc

pub eq-comm : (m n : ℕ) → eq m n ≡ eq n m
eq-comm zero zero = refl
eq-comm zero (suc n) = refl
eq-comm (suc m) zero = refl
eq-comm (suc m) (suc n) = eq-comm m n

pub bytes_eq-comm : (x y : List ℕ) → bytes_eq x y ≡ bytes_eq y x
bytes_eq-comm [] [] = refl
bytes_eq-comm [] (b ∷ y) = refl
bytes_eq-comm (a ∷ x) [] = refl
bytes_eq-comm (a ∷ x) (b ∷ y) = let p = eq-comm a b in let q = bytes_eq-comm x y in cc

pub le-suc : (m n : ℕ) → le m n ≡ true → le m (suc n) ≡ true
le-suc zero n h = refl
le-suc (suc m) zero h = cc
le-suc (suc m) (suc n) h = le-suc m n h

-- what is at least `m`, and is not `m`, is one more than something that is at least `m`
pub le-pred : (m n : ℕ) → le m n ≡ true → eq n m ≡ false → (le m (pred n) ≡ true) × (suc (pred n) ≡ n)
le-pred zero zero h k = cc
le-pred zero (suc n) h k = (refl, refl)
le-pred (suc m) zero h k = cc
le-pred (suc zero) (suc zero) h k = cc
le-pred (suc (suc m)) (suc zero) h k = cc
le-pred (suc m) (suc (suc n)) h k = ((le-pred m (suc n) h k).0, refl)
