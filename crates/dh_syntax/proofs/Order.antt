-- The order of labels is that of std on texts.
use Rattle.std.specs.Prelude.{◌≡◌, ◌<◌, ℕ, zero, suc, length, map, Bool, true, false, ◌&&◌, ◌||◌, ◌==◌, nat_lt, List, [], ◌∷◌, refl}
use Rattle.std.specs.declared.cmp.Ordering.{Ordering}
use Rattle.std.specs.declared.cmp.Ordering.TheVariants.{Less, Equal, Greater}
use Rattle.std.specs.Ordering.{is_lt, nat_cmp, ordering_then, ordering_reverse}
use Rattle.std.specs.List.{AllAdjacentBelow, IsAllAdjacentAnswer}
use Rattle.std.specs.Cmp.Lexicographic.{slice_cmp, nat_list_cmp_total}
use Rattle.std.proofs.lemmas.Bool.{false≢true}
use Rattle.std.proofs.lemmas.Map.Lookups.{exact_bytes}
use Rattle.std.proofs.Common.{sym, ◌∙◌, ap, arith, add-one, cond, get_or}
use Rattle.std.proofs.Math.Bool.{and-false}
use Rattle.dh_syntax.specs.Expressions.Numbers.{eq, lt}
use Rattle.dh_syntax.specs.Expressions.Order.{before, ascending}
use Rattle.dh_syntax.proofs.NativeTests.{eq-native, lt-native}

first_decides : (p q : Bool) (o : Ordering) → p || (q && is_lt o) ≡ is_lt (ordering_then (cond p Less (cond q Equal Greater)) o)
first_decides true q o = refl
first_decides false true o = refl
first_decides false false o = refl

pub before-slice_cmp : (x y : List ℕ) → before x y ≡ is_lt (slice_cmp nat_cmp x y)
before-slice_cmp [] [] = refl
before-slice_cmp [] (y ∷ ys) = refl
before-slice_cmp (x ∷ xs) [] = refl
before-slice_cmp (x ∷ xs) (y ∷ ys) =
    ap (λ p. p || (eq x y && before xs ys)) (lt-native x y)
    ∙ ap (λ q. nat_lt x y || (q && before xs ys)) (eq-native x y)
    ∙ ap (λ b. nat_lt x y || ((x == y) && b)) (before-slice_cmp xs ys)
    ∙ first_decides (nat_lt x y) (x == y) (slice_cmp nat_cmp xs ys)

-- What std's test of each label against the next one says.
ascend_yes : {X : Type 0} (f : X → List ℕ) (xs : List X) → AllAdjacentBelow (λ x y. true ≡ before (f x) (f y)) xs (length xs) → ascending (map f xs) ≡ true
ascend_yes f [] h = refl
ascend_yes f (x ∷ []) h = refl
ascend_yes f (x ∷ y ∷ ys) h =
    let later : AllAdjacentBelow (λ v w. true ≡ before (f v) (f w)) (y ∷ ys) (length (y ∷ ys)) = λ k d below. rw add-one (let g = h (suc k) d (omega arith) in rw add-one at g) in
    ap (λ b. b && ascending (map f (y ∷ ys))) (sym (h 0 x (omega arith))) ∙ ascend_yes f (y ∷ ys) later

ascend_no : {X : Type 0} (f : X → List ℕ) (xs : List X) (k : ℕ) → suc k < length xs → ((d : X) → false ≡ before (f (get_or xs k d)) (f (get_or xs (suc k) d))) → ascending (map f xs) ≡ false
ascend_no f [] k h e = absurd (omega arith)
ascend_no f (x ∷ []) k h e = absurd (omega arith)
ascend_no f (x ∷ y ∷ ys) zero h e = ap (λ b. b && ascending (map f (y ∷ ys))) (sym (e x))
ascend_no f (x ∷ y ∷ ys) (suc k) h e =
    ap (λ b. before (f x) (f y) && b) (ascend_no f (y ∷ ys) k (omega arith) e) ∙ and-false (before (f x) (f y))

pub ascending_from_adjacent : {X : Type 0} (f : X → List ℕ) (xs : List X) (r : Bool) → IsAllAdjacentAnswer (λ x y b. b ≡ before (f x) (f y)) xs r → r ≡ ascending (map f xs)
ascending_from_adjacent f xs true h = sym (ascend_yes f xs h)
ascending_from_adjacent f xs false h = sym (ascend_no f xs h.0 (omega (arith, h.1)) (λ d. rw (← add-one) (h.2 d)))

-- The order is irreflexive, transitive and total.
lt_itself : (n : ℕ) → lt n n ≡ false
lt_itself zero = refl
lt_itself (suc n) = lt_itself n

pub before_irreflexive : (x : List ℕ) → before x x ≡ false
before_irreflexive [] = refl
before_irreflexive (a ∷ x) =
    ap (λ b. b || (eq a a && before x x)) (lt_itself a) ∙ ap (λ b. eq a a && b) (before_irreflexive x) ∙ and-false (eq a a)

is_less : (o : Ordering) → is_lt o ≡ true → o ≡ Less
is_less Less h = refl
is_less Equal h = absurd (false≢true h)
is_less Greater h = absurd (false≢true h)

pub before-transitive : (x y z : List ℕ) → before x y ≡ true → before y z ≡ true → before x z ≡ true
before-transitive x y z a b =
    before-slice_cmp x z
    ∙ ap is_lt (nat_list_cmp_total.trans x y z (is_less (slice_cmp nat_cmp x y) (sym (before-slice_cmp x y) ∙ a)) (is_less (slice_cmp nat_cmp y z) (sym (before-slice_cmp y z) ∙ b)))

neither : (o p : Ordering) → o ≡ ordering_reverse p → is_lt o ≡ false → is_lt p ≡ false → o ≡ Equal
neither Less p h a b = absurd (false≢true (sym a))
neither Equal p h a b = refl
neither Greater Less h a b = absurd (false≢true (sym b))
neither Greater Equal h a b = h
neither Greater Greater h a b = cc

pub before-total : (x y : List ℕ) → before x y ≡ false → before y x ≡ false → x ≡ y
before-total x y a b =
    exact_bytes x y
    (neither (slice_cmp nat_cmp x y) (slice_cmp nat_cmp y x) (nat_list_cmp_total.antisymm x y) (sym (before-slice_cmp x y) ∙ a) (sym (before-slice_cmp y x) ∙ b))
