-- Lists of keys in which none stands twice: how many keys they have, and how they grow.
use Rattle.std.specs.Prelude.{◌≡◌, ◌≤◌, suc, Bool, true, false, ◌||◌, if◌then◌else◌, List, [], ◌∷◌, ◌++◌, length, refl}
use Rattle.std.proofs.Common.{ap, sym, ◌∙◌, subst, arith}
use Rattle.dh_syntax.specs.declared.locations.Key.{Key}
use Rattle.dh_syntax.specs.Imports.Keys.{bare, key_eq}
use Rattle.dh_imports.specs.Replay.{with_bare, distinct}
use Rattle.dh_imports.specs.Resolver.{is_in}
use Rattle.dh_laws.proofs.KeyOrder.{true_false, key_eq-true, key_eq-itself}
use Rattle.dh_record.specs.Entering.{with_key, entered, entered_all, AreDistinct}

or_true : (a b : Bool) → b ≡ true → (a || b) ≡ true
or_true true b h = refl
or_true false b h = h

or_assoc : (a b c : Bool) → ((a || b) || c) ≡ (a || (b || c))
or_assoc true b c = refl
or_assoc false b c = refl

or_false : (a : Bool) → (a || false) ≡ a
or_false true = refl
or_false false = refl

or_swap : (a b : Bool) → (a || b) ≡ (b || a)
or_swap true true = refl
or_swap true false = refl
or_swap false true = refl
or_swap false false = refl

pub eq_turned : (x k : Key) → key_eq x k ≡ key_eq k x
eq_turned x k = go (key_eq x k) (key_eq k x) refl refl
  where
    go : (a b : Bool) → key_eq x k ≡ a → key_eq k x ≡ b → a ≡ b
    go true true p q = refl
    go false false p q = refl
    go true false p q = true_false (subst (λ z. key_eq k z ≡ true) (sym (key_eq-true x k p)) (key_eq-itself k)) q
    go false true p q = true_false (subst (λ z. key_eq x z ≡ true) (sym (key_eq-true k x q)) (key_eq-itself x)) p

in_append : (k : Key) (xs ys : List Key) → is_in k (xs ++ ys) ≡ (is_in k xs || is_in k ys)
in_append k [] ys = refl
in_append k (x ∷ xs) ys = ap (λ b. key_eq x k || b) (in_append k xs ys) ∙ sym (or_assoc (key_eq x k) (is_in k xs) (is_in k ys))

-- a key that equals one of the list is in it
in_equal : (x k : Key) (ks : List Key) → key_eq k x ≡ true → is_in k ks ≡ true → is_in x ks ≡ true
in_equal x k ks e h = subst (λ z. is_in z ks ≡ true) (key_eq-true k x e) h

-- ---- lists with one more key

pub in_with_key : (x k : Key) (ks : List Key) → is_in x (with_key ks k) ≡ (is_in x ks || key_eq k x)
in_with_key x k ks = go (is_in k ks) (key_eq k x) refl refl
  where
    go : (b c : Bool) → is_in k ks ≡ b → key_eq k x ≡ c → is_in x (if b then ks else ks ++ k ∷ []) ≡ (is_in x ks || c)
    go true true p q = in_equal x k ks q p ∙ sym (or_true (is_in x ks) true refl)
    go true false p q = sym (or_false (is_in x ks))
    go false c p q = in_append x ks (k ∷ []) ∙ ap (λ b. is_in x ks || b) (or_false (key_eq k x) ∙ q)

pub in_entered : (x k : Key) (ks : List Key) → is_in x (entered ks k) ≡ (is_in x ks || is_in x (k ∷ bare k ∷ []))
in_entered x k ks =
    in_with_key x k (with_key ks (bare k))
    ∙ ap (λ b. b || key_eq k x) (in_with_key x (bare k) ks)
    ∙ or_assoc (is_in x ks) (key_eq (bare k) x) (key_eq k x)
    ∙ ap (λ b. is_in x ks || b) (or_swap (key_eq (bare k) x) (key_eq k x) ∙ ap (λ b. key_eq k x || b) (sym (or_false (key_eq (bare k) x))))

pub in_entered_all : (x : Key) (ks js : List Key) → is_in x (entered_all ks js) ≡ (is_in x ks || is_in x (with_bare js))
in_entered_all x ks [] = sym (or_false (is_in x ks))
in_entered_all x ks (j ∷ js) =
    in_entered_all x (entered ks j) js
    ∙ ap (λ b. b || is_in x (with_bare js)) (in_entered x j ks)
    ∙ or_assoc (is_in x ks) (is_in x (j ∷ bare j ∷ [])) (is_in x (with_bare js))
    ∙ ap (λ b. is_in x ks || b) (sym (in_append x (j ∷ bare j ∷ []) (with_bare js)))

pub in_with_bare : (x : Key) (is js : List Key) → is_in x (with_bare (is ++ js)) ≡ (is_in x (with_bare is) || is_in x (with_bare js))
in_with_bare x [] js = refl
in_with_bare x (i ∷ is) js =
    ap (λ b. key_eq i x || (key_eq (bare i) x || b)) (in_with_bare x is js)
    ∙ ap (λ b. key_eq i x || b) (sym (or_assoc (key_eq (bare i) x) (is_in x (with_bare is)) (is_in x (with_bare js))))
    ∙ sym (or_assoc (key_eq i x) (key_eq (bare i) x || is_in x (with_bare is)) (is_in x (with_bare js)))

-- ---- none twice

distinct_push : (ks : List Key) (k : Key) → AreDistinct ks → is_in k ks ≡ false → AreDistinct (ks ++ k ∷ [])
distinct_push [] k d h = (refl, tt)
distinct_push (j ∷ js) k d h = go (key_eq j k) (is_in k js) refl h (λ q. distinct_push js k d.1 q)
  where
    go : (a b : Bool) → key_eq j k ≡ a → (a || is_in k js) ≡ false → (is_in k js ≡ false → AreDistinct (js ++ k ∷ [])) → (is_in j (js ++ k ∷ []) ≡ false) × AreDistinct (js ++ k ∷ [])
    go true b p q f = true_false refl q
    go false b p q f = (in_append j js (k ∷ []) ∙ ap (λ c. c || (key_eq k j || false)) d.0 ∙ or_false (key_eq k j) ∙ eq_turned k j ∙ p, f q)

pub distinct_with_key : (ks : List Key) (k : Key) → AreDistinct ks → AreDistinct (with_key ks k)
distinct_with_key ks k d = go (is_in k ks) refl
  where
    go : (b : Bool) → is_in k ks ≡ b → AreDistinct (if b then ks else ks ++ k ∷ [])
    go true p = d
    go false p = distinct_push ks k d p

pub distinct_entered : (ks js : List Key) → AreDistinct ks → AreDistinct (entered_all ks js)
distinct_entered ks [] d = d
distinct_entered ks (j ∷ js) d = distinct_entered (entered ks j) js (distinct_with_key (with_key ks (bare j)) j (distinct_with_key ks (bare j) d))

in_distinct : (k : Key) (ks : List Key) → is_in k (distinct ks) ≡ is_in k ks
in_distinct k [] = refl
in_distinct k (x ∷ xs) = go (is_in x xs) (key_eq x k) refl refl (in_distinct k xs)
  where
    go : (b c : Bool) → is_in x xs ≡ b → key_eq x k ≡ c → is_in k (distinct xs) ≡ is_in k xs → is_in k (if b then distinct xs else x ∷ distinct xs) ≡ (c || is_in k xs)
    go true true p q r = r ∙ in_equal k x xs q p
    go true false p q r = r
    go false true p q r = ap (λ b. b || is_in k (distinct xs)) q
    go false false p q r = ap (λ b. b || is_in k (distinct xs)) q ∙ r

distinct_distinct : (ks : List Key) → AreDistinct (distinct ks)
distinct_distinct [] = tt
distinct_distinct (x ∷ xs) = go (is_in x xs) refl (distinct_distinct xs)
  where
    go : (b : Bool) → is_in x xs ≡ b → AreDistinct (distinct xs) → AreDistinct (if b then distinct xs else x ∷ distinct xs)
    go true p d = d
    go false p d = (in_distinct x xs ∙ p, d)

-- ---- as many

abbrev without : Key → List Key → List Key
without k [] = []
without k (x ∷ xs) = if key_eq x k then xs else x ∷ without k xs

one_less : (k : Key) (xs : List Key) → is_in k xs ≡ true → length xs ≡ suc (length (without k xs))
one_less k [] h = true_false h refl
one_less k (x ∷ xs) h = go (key_eq x k) h (λ q. one_less k xs q)
  where
    go : (b : Bool) → (b || is_in k xs) ≡ true → (is_in k xs ≡ true → length xs ≡ suc (length (without k xs))) → suc (length xs) ≡ suc (length (if b then xs else x ∷ without k xs))
    go true p f = refl
    go false p f = ap suc (f p)

still_in : (j k : Key) (xs : List Key) → key_eq k j ≡ false → is_in j xs ≡ true → is_in j (without k xs) ≡ true
still_in j k [] e h = h
still_in j k (x ∷ xs) e h = go (key_eq x k) (key_eq x j) refl refl h (λ q. still_in j k xs e q)
  where
    go : (a b : Bool) → key_eq x k ≡ a → key_eq x j ≡ b → (key_eq x j || is_in j xs) ≡ true → (is_in j xs ≡ true → is_in j (without k xs) ≡ true) → is_in j (if a then xs else x ∷ without k xs) ≡ true
    go true true p q r f = true_false (subst (λ z. key_eq z j ≡ true) (key_eq-true x k p) q) e
    go true false p q r f = subst (λ c. (c || is_in j xs) ≡ true) q r
    go false true p q r f = ap (λ c. c || is_in j (without k xs)) q
    go false false p q r f = ap (λ c. c || is_in j (without k xs)) q ∙ f (subst (λ c. (c || is_in j xs) ≡ true) q r)

fewer : (xs ys : List Key) → AreDistinct xs → ((k : Key) → is_in k xs ≡ true → is_in k ys ≡ true) → length xs ≤ length ys
fewer [] ys d f = omega arith
fewer (x ∷ xs) ys d f =
    let here = one_less x ys (f x (ap (λ b. b || is_in x xs) (key_eq-itself x))) in
    let rest =
    fewer xs (without x ys) d.1
    (λ k h. still_in k x ys (go k h (key_eq x k) refl) (f k (or_true (key_eq x k) (is_in k xs) h))) in
    omega arith
  where
    go : (k : Key) → is_in k xs ≡ true → (b : Bool) → key_eq x k ≡ b → key_eq x k ≡ false
    go k h false p = p
    go k h true p = true_false (subst (λ z. is_in z xs ≡ true) (sym (key_eq-true x k p)) h) d.0

-- a list with the same keys, none twice, is as long as the list of those
pub as_many : (xs ks : List Key) → AreDistinct xs → ((k : Key) → is_in k xs ≡ is_in k ks) → length xs ≡ length (distinct ks)
as_many xs ks d f =
    let less = fewer xs (distinct ks) d (λ k h. in_distinct k ks ∙ sym (f k) ∙ h) in
    let more = fewer (distinct ks) xs (distinct_distinct ks) (λ k h. f k ∙ sym (in_distinct k ks) ∙ h) in
    omega arith
