-- Keys that are too many stay so, since texts are only added.
use Rattle.std.specs.Prelude.{◌≡◌, ◌⊎◌, ℕ, suc, ◌≤◌, ◌<◌, nat_lt, Bool, true, false, ◌||◌, if◌then◌else◌, List, [], ◌∷◌, ◌++◌, length, Option, Some, None, refl}
use Rattle.std.proofs.Common.{ap, sym, ◌∙◌, subst, inl, inr, arith, le_trans, le_refl, ltb-true, lt-ltb}
use Rattle.dh_syntax.specs.declared.locations.Key.{Key}
use Rattle.dh_imports.specs.declared.outcomes.Why.{Why}
use Rattle.dh_import_laws.specs.ImportLaws.{TooManyStay}
use Rattle.dh_syntax.specs.Imports.Keys.{bare, key_eq}
use Rattle.dh_imports.specs.Machine.{State, Claim, Release, Fetched, Looked, Finished, Late, Cycled, with_limit}
use Rattle.dh_imports.specs.Replay.{with_bare, keys_noted, keys_found, distinct, has_too_many}
use Rattle.dh_syntax.specs.Limits.{most_keys}
use Rattle.dh_imports.specs.Resolver.{is_in}
use Rattle.dh_imports.specs.Walk.{keys_of}
use Rattle.dh_laws.proofs.KeyOrder.{bool-case, true_false, key_eq-true, key_eq-itself}

size : List Key → ℕ
size ks = length (distinct ks)

-- with one more key that is there already, or is not
abbrev Counted : Bool → ℕ → ℕ → Type 0
Counted true m n = m ≡ n
Counted false m n = m ≡ suc n

in-inserted : (x k : Key) (as' bs : List Key) → is_in k (as' ++ x ∷ bs) ≡ (key_eq x k || is_in k (as' ++ bs))
in-inserted x k [] bs = refl
in-inserted x k (a ∷ as') bs = ap (λ b. key_eq a k || b) (in-inserted x k as' bs) ∙ swapped (key_eq a k) (key_eq x k) (is_in k (as' ++ bs))
  where
    swapped : (a b c : Bool) → (a || (b || c)) ≡ (b || (a || c))
    swapped true true c = refl
    swapped true false c = refl
    swapped false b c = refl

size-in : (k : Key) (ks : List Key) → is_in k ks ≡ true → size (k ∷ ks) ≡ size ks
unfolding size
size-in k ks h = ap (λ b. length (if b then distinct ks else k ∷ distinct ks)) h

size-out : (k : Key) (ks : List Key) → is_in k ks ≡ false → size (k ∷ ks) ≡ suc (size ks)
unfolding size
size-out k ks h = ap (λ b. length (if b then distinct ks else k ∷ distinct ks)) h

or-right-true : (a b : Bool) → b ≡ true → a || b ≡ true
or-right-true true b h = refl
or-right-true false b h = h

eq-turned : (x k : Key) → key_eq x k ≡ false → key_eq k x ≡ false
eq-turned x k h = go (bool-case (key_eq k x))
  where
    go : (key_eq k x ≡ true) ⊎ (key_eq k x ≡ false) → key_eq k x ≡ false
    go (inl t) = true_false (subst (λ z. key_eq x z ≡ true) (sym (key_eq-true k x t)) (key_eq-itself x)) h
    go (inr f) = f

counted-suc : (b : Bool) (m n : ℕ) → Counted b m n → Counted b (suc m) (suc n)
counted-suc true m n h = ap (λ z. suc z) h
counted-suc false m n h = ap (λ z. suc z) h

counted-le : (b : Bool) (m n : ℕ) → Counted b m n → n ≤ m
counted-le true m n h = omega arith
counted-le false m n h = omega arith

counted : (x : Key) (as' bs : List Key) → Counted (is_in x (as' ++ bs)) (size (as' ++ x ∷ bs)) (size (as' ++ bs))
counted x [] bs = go (bool-case (is_in x bs))
  where
    go : (is_in x bs ≡ true) ⊎ (is_in x bs ≡ false) → Counted (is_in x bs) (size (x ∷ bs)) (size bs)
    go (inl t) = subst (λ b. Counted b (size (x ∷ bs)) (size bs)) (sym t) (size-in x bs t)
    go (inr f) = subst (λ b. Counted b (size (x ∷ bs)) (size bs)) (sym f) (size-out x bs f)
counted x (k ∷ as') bs = go (bool-case (is_in k (as' ++ bs))) (bool-case (key_eq x k)) (counted x as' bs)
  where
    inserted : (b c : Bool) → key_eq x k ≡ b → is_in k (as' ++ bs) ≡ c → is_in k (as' ++ x ∷ bs) ≡ (b || c)
    inserted b c p q = in-inserted x k as' bs ∙ ap (λ z. z || is_in k (as' ++ bs)) p ∙ ap (λ z. b || z) q

    go : (is_in k (as' ++ bs) ≡ true) ⊎ (is_in k (as' ++ bs) ≡ false) → (key_eq x k ≡ true) ⊎ (key_eq x k ≡ false)
        → Counted (is_in x (as' ++ bs)) (size (as' ++ x ∷ bs)) (size (as' ++ bs)) → Counted (key_eq k x || is_in x (as' ++ bs)) (size (k ∷ as' ++ x ∷ bs)) (size (k ∷ as' ++ bs))
    go (inl i) (inl e) c =
        let i' : is_in x (as' ++ bs) ≡ true = subst (λ z. is_in z (as' ++ bs) ≡ true) (sym (key_eq-true x k e)) i in
        let c' : size (as' ++ x ∷ bs) ≡ size (as' ++ bs) = subst (λ b. Counted b (size (as' ++ x ∷ bs)) (size (as' ++ bs))) i' c in
        subst (λ b. Counted b (size (k ∷ as' ++ x ∷ bs)) (size (k ∷ as' ++ bs))) (sym (or-right-true (key_eq k x) (is_in x (as' ++ bs)) i'))
        (size-in k (as' ++ x ∷ bs) (inserted true true e i) ∙ c' ∙ sym (size-in k (as' ++ bs) i))
    go (inl i) (inr e) c =
        subst (λ b. Counted (b || is_in x (as' ++ bs)) (size (k ∷ as' ++ x ∷ bs)) (size (k ∷ as' ++ bs))) (sym (eq-turned x k e))
        (subst (λ m. Counted (is_in x (as' ++ bs)) m (size (k ∷ as' ++ bs))) (sym (size-in k (as' ++ x ∷ bs) (inserted false true e i)))
        (subst (λ n. Counted (is_in x (as' ++ bs)) (size (as' ++ x ∷ bs)) n) (sym (size-in k (as' ++ bs) i)) c))
    go (inr i) (inl e) c =
        let o : is_in x (as' ++ bs) ≡ false = subst (λ z. is_in z (as' ++ bs) ≡ false) (sym (key_eq-true x k e)) i in
        let c' : size (as' ++ x ∷ bs) ≡ suc (size (as' ++ bs)) = subst (λ b. Counted b (size (as' ++ x ∷ bs)) (size (as' ++ bs))) o c in
        let t : key_eq k x ≡ true = subst (λ z. key_eq k z ≡ true) (sym (key_eq-true x k e)) (key_eq-itself k) in
        subst (λ b. Counted (b || is_in x (as' ++ bs)) (size (k ∷ as' ++ x ∷ bs)) (size (k ∷ as' ++ bs))) (sym t)
        (size-in k (as' ++ x ∷ bs) (inserted true false e i) ∙ c' ∙ sym (size-out k (as' ++ bs) i))
    go (inr i) (inr e) c =
        subst (λ b. Counted (b || is_in x (as' ++ bs)) (size (k ∷ as' ++ x ∷ bs)) (size (k ∷ as' ++ bs))) (sym (eq-turned x k e))
        (subst (λ m. Counted (is_in x (as' ++ bs)) m (size (k ∷ as' ++ bs))) (sym (size-out k (as' ++ x ∷ bs) (inserted false false e i)))
        (subst (λ n. Counted (is_in x (as' ++ bs)) (suc (size (as' ++ x ∷ bs))) n) (sym (size-out k (as' ++ bs) i)) (counted-suc (is_in x (as' ++ bs)) (size (as' ++ x ∷ bs)) (size (as' ++ bs)) c)))

inserted-le : (xs as' bs : List Key) → size (as' ++ bs) ≤ size (as' ++ (xs ++ bs))
inserted-le [] as' bs = le_refl (size (as' ++ bs))
inserted-le (x ∷ xs) as' bs = le_trans (inserted-le xs as' bs) (counted-le _ _ _ (counted x as' (xs ++ bs)))

bare-append : (xs ys : List Key) → with_bare (xs ++ ys) ≡ with_bare xs ++ with_bare ys
bare-append [] ys = refl
bare-append (x ∷ xs) ys = ap (λ z. x ∷ bare x ∷ z) (bare-append xs ys)

more_keys : (ks new old : List Key) → size (with_bare (ks ++ old)) ≤ size (with_bare (ks ++ (new ++ old)))
more_keys ks new old =
    subst (λ z. size z ≤ size (with_bare (ks ++ (new ++ old)))) (sym (bare-append ks old))
    (subst (λ z. size (with_bare ks ++ with_bare old) ≤ size z) (sym (bare-append ks (new ++ old) ∙ ap (λ z. with_bare ks ++ z) (bare-append new old)))
    (inserted-le (with_bare new) (with_bare ks) (with_bare old)))

more_than : (m n : ℕ) → m ≤ n → nat_lt most_keys m ≡ true → nat_lt most_keys n ≡ true
more_than m n h t = let l : most_keys < m = ltb-true most_keys m t in lt-ltb most_keys n (omega arith)

limit-stay : (s : State) (k : Key) (limit : Option Why) → has_too_many s ≡ true → has_too_many (record s { recorded = with_limit s.recorded k limit }) ≡ true
limit-stay s k None h = h
limit-stay s k (Some w) h = h

pub too_many_stay : TooManyStay
unfolding size
too_many_stay (Claim worker t) s h = h
too_many_stay (Release serial) s h = h
too_many_stay (Fetched serial l text) s h =
    more_than _ _ (more_keys (keys_of None s.root) (keys_noted l text) (keys_found s.recorded.texts)) h
too_many_stay (Looked serial d look) s h = h
too_many_stay (Finished serial k i limit o) s h = limit-stay s k limit h
too_many_stay (Late serial news) s h = h
too_many_stay (Cycled k) s h = h
