-- Ways and rings where each key leads to at most one key.
use Rattle.std.specs.Prelude.{◌≡◌, ◌⊎◌, Bool, true, false, ◌||◌, if◌then◌else◌, List, [], ◌∷◌, refl}
use Rattle.std.proofs.Common.{sym, ◌∙◌, subst, inl, inr}
use Rattle.dh_syntax.specs.declared.locations.Key.{Key}
use Rattle.dh_syntax.specs.Imports.Keys.{key_eq, key_le}
use Rattle.dh_imports.specs.Machine.{IsAmong, Ring, closes, goes}
use Rattle.dh_imports.specs.Resolver.{is_in, lesser, least_back_to}
use Rattle.dh_laws.proofs.KeyOrder.{bool-case, true_false, key_eq-true, key_le-total, key_le-itself, key_le-antisymmetric, key_le-transitive}

-- along these steps from x one comes to y
pub data Way (To : Key → Key → Type 0) : Key → Key → Type 0 where
  here : {x : Key} → Way To x x
  there : {x y z : Key} → To x y → Way To y z → Way To x z

-- each key of the list leads to the one before it, the first one to the key
pub data Trail (To : Key → Key → Type 0) : Key → List Key → Type 0 where
  begins : {x : Key} → Trail To x []
  follows : {x y : Key} {xs : List Key} → To x y → Trail To x xs → Trail To y (x ∷ xs)

-- from k one comes to j and on to j', and from there back to j over keys that are not before j
pub record Lasso (To : Key → Key → Type 0) (k j : Key) : Type 0 where
  pub way : Way To k j
  pub next : Key
  pub step : To j next
  pub ring : Ring To j next

-- the keys from the latest back to k
abbrev back_to : Key → List Key → List Key
back_to k [] = k ∷ []
back_to k (x ∷ xs) = if key_eq x k then k ∷ [] else x ∷ back_to k xs

pub or-split : (a b : Bool) → a || b ≡ true → (a ≡ true) ⊎ ((a ≡ false) × (b ≡ true))
or-split true b h = inl refl
or-split false b h = inr (refl, h)

module _ (To : Key → Key → Type 0) where
  pub one_more : {x y z : Key} → Way To x y → To y z → Way To x z
  one_more here e = there e here
  one_more (there d w) e = there d (one_more w e)

  pub joined : {x y z : Key} → Way To x y → Way To y z → Way To x z
  joined here v = v
  joined (there d w) v = there d (joined w v)

  -- ---- what stands between k and its own coming back

  in_back : (k : Key) (xs : List Key) → IsAmong k (back_to k xs)
  in_back k [] = inl refl
  in_back k (x ∷ xs) = go (bool-case (key_eq x k)) (in_back k xs)
    where
      go : (key_eq x k ≡ true) ⊎ (key_eq x k ≡ false) → IsAmong k (back_to k xs) → IsAmong k (if key_eq x k then k ∷ [] else x ∷ back_to k xs)
      go (inl e) r = subst (λ b. IsAmong k (if b then k ∷ [] else x ∷ back_to k xs)) (sym e) (inl refl)
      go (inr e) r = subst (λ b. IsAmong k (if b then k ∷ [] else x ∷ back_to k xs)) (sym e) (inr r)

  -- the two cases of such a list
  back-cases : {P : Type 0} (k c x : Key) (xs : List Key) → IsAmong c (back_to k (x ∷ xs)) → is_in k (x ∷ xs) ≡ true
      → (x ≡ k → k ≡ c → P) → (x ≡ c → is_in k xs ≡ true → P) → (IsAmong c (back_to k xs) → is_in k xs ≡ true → P) → P
  back-cases {P = P} k c x xs m h f g t = go (or-split (key_eq x k) (is_in k xs) h)
    where
      when_here : key_eq x k ≡ true → IsAmong c (k ∷ []) → P
      when_here e (inl p) = f (key_eq-true x k e) p
      when_here e (inr n) = absurd n

      when_there : is_in k xs ≡ true → IsAmong c (x ∷ back_to k xs) → P
      when_there i (inl p) = g p i
      when_there i (inr n) = t n i

      go : (key_eq x k ≡ true) ⊎ ((key_eq x k ≡ false) × (is_in k xs ≡ true)) → P
      go (inl e) = when_here e (subst (λ b. IsAmong c (if b then k ∷ [] else x ∷ back_to k xs)) e m)
      go (inr e) = when_there e.1 (subst (λ b. IsAmong c (if b then k ∷ [] else x ∷ back_to k xs)) e.0 m)

  -- each leads to the end of the trail
  forward : (k c y : Key) (xs : List Key) → Trail To y xs → is_in k xs ≡ true → IsAmong c (back_to k xs) → Way To c y
  forward k c y [] t h m = true_false h refl
  forward k c y (x ∷ xs) (follows e t) h m =
      back-cases k c x xs m h
      (λ p q. subst (λ z. Way To z y) (p ∙ q) (there e here))
      (λ p i. subst (λ z. Way To z y) p (there e here))
      (λ n i. one_more (forward k c x xs t i n) e)

  -- k leads to the end of the trail
  leads : (k y : Key) (xs : List Key) → Trail To y xs → is_in k xs ≡ true → Way To k y
  leads k y xs t h = forward k k y xs t h (in_back k xs)

  -- k leads to each
  backward : (k c y : Key) (xs : List Key) → Trail To y xs → is_in k xs ≡ true → IsAmong c (back_to k xs) → Way To k c
  backward k c y [] t h m = true_false h refl
  backward k c y (x ∷ xs) (follows e t) h m =
      back-cases k c x xs m h
      (λ p q. subst (λ z. Way To k z) q here)
      (λ p i. subst (λ z. Way To k z) p (leads k x xs t i))
      (λ n i. backward k c x xs t i n)

  -- each leads somewhere
  has_step : (k c y : Key) (xs : List Key) → Trail To y xs → is_in k xs ≡ true → IsAmong c (back_to k xs) → (z : Key) × To c z
  has_step k c y [] t h m = true_false h refl
  has_step k c y (x ∷ xs) (follows e t) h m =
      back-cases k c x xs m h
      (λ p q. subst (λ v. (z : Key) × To v z) (p ∙ q) (y, e))
      (λ p i. subst (λ v. (z : Key) × To v z) p (y, e))
      (λ n i. has_step k c x xs t i n)

  -- ---- the least of them

  lesser-is : (j k : Key) → (lesser j k ≡ j) ⊎ (lesser j k ≡ k)
  lesser-is j k = go (key_le j k)
    where
      go : (b : Bool) → ((if b then j else k) ≡ j) ⊎ ((if b then j else k) ≡ k)
      go true = inl refl
      go false = inr refl

  lesser-left : (j k : Key) → key_le (lesser j k) j ≡ true
  lesser-left j k = go (bool-case (key_le j k)) (key_le-total j k)
    where
      go : (key_le j k ≡ true) ⊎ (key_le j k ≡ false) → (key_le j k ≡ true) ⊎ (key_le k j ≡ true) → key_le (if key_le j k then j else k) j ≡ true
      go (inl e) t = subst (λ b. key_le (if b then j else k) j ≡ true) (sym e) (key_le-itself j)
      go (inr e) (inl t) = true_false t e
      go (inr e) (inr t) = subst (λ b. key_le (if b then j else k) j ≡ true) (sym e) t

  lesser-right : (j k : Key) → key_le (lesser j k) k ≡ true
  lesser-right j k = go (bool-case (key_le j k))
    where
      go : (key_le j k ≡ true) ⊎ (key_le j k ≡ false) → key_le (if key_le j k then j else k) k ≡ true
      go (inl e) = subst (λ b. key_le (if b then j else k) k ≡ true) (sym e) e
      go (inr e) = subst (λ b. key_le (if b then j else k) k ≡ true) (sym e) (key_le-itself k)

  least_among : (k : Key) (xs : List Key) → IsAmong (least_back_to k xs) (back_to k xs)
  least_among k [] = inl refl
  least_among k (x ∷ xs) = go (key_eq x k) (lesser-is x (least_back_to k xs)) (least_among k xs)
    where
      go : (b : Bool) → (lesser x (least_back_to k xs) ≡ x) ⊎ (lesser x (least_back_to k xs) ≡ least_back_to k xs) → IsAmong (least_back_to k xs) (back_to k xs)
          → IsAmong (if b then k else lesser x (least_back_to k xs)) (if b then k ∷ [] else x ∷ back_to k xs)
      go true l m = inl refl
      go false (inl l) m = inl (sym l)
      go false (inr l) m = inr (subst (λ z. IsAmong z (back_to k xs)) (sym l) m)

  least_below : (k c : Key) (xs : List Key) → IsAmong c (back_to k xs) → key_le (least_back_to k xs) c ≡ true
  least_below k c [] (inl e) = subst (λ z. key_le k z ≡ true) e (key_le-itself k)
  least_below k c [] (inr n) = absurd n
  least_below k c (x ∷ xs) m = go (key_eq x k) m (λ n. least_below k c xs n)
    where
      go : (b : Bool) → IsAmong c (if b then k ∷ [] else x ∷ back_to k xs) → (IsAmong c (back_to k xs) → key_le (least_back_to k xs) c ≡ true)
          → key_le (if b then k else lesser x (least_back_to k xs)) c ≡ true
      go true (inl e) f = subst (λ z. key_le k z ≡ true) e (key_le-itself k)
      go true (inr n) f = absurd n
      go false (inl e) f = subst (λ z. key_le (lesser x (least_back_to k xs)) z ≡ true) e (lesser-left x (least_back_to k xs))
      go false (inr n) f = key_le-transitive _ (least_back_to k xs) c (lesser-right x (least_back_to k xs)) (f n)

  -- ---- where each key leads to at most one

  module _ (one : (x y z : Key) → To x y → To x z → y ≡ z) where
    -- the next of one of them is one of them, or the end of the trail
    closed : (k c z y : Key) (xs : List Key) → Trail To y xs → is_in k xs ≡ true → IsAmong c (back_to k xs) → To c z → (z ≡ y) ⊎ IsAmong z (back_to k xs)
    closed k c z y [] t h m d = true_false h refl
    closed k c z y (x ∷ xs) (follows e t) h m d =
        back-cases k c x xs m h
        (λ p q. inl (one c z y d (subst (λ v. To v y) (p ∙ q) e)))
        (λ p i. inl (one c z y d (subst (λ v. To v y) p e)))
        (λ n i. go (or-split (key_eq x k) (is_in k xs) h) n i (λ n' i'. closed k c z x xs t i' n' d))
      where
        further : key_eq x k ≡ false → (z ≡ x) ⊎ IsAmong z (back_to k xs) → IsAmong z (if key_eq x k then k ∷ [] else x ∷ back_to k xs)
        further f (inl p) = subst (λ b. IsAmong z (if b then k ∷ [] else x ∷ back_to k xs)) (sym f) (inl (sym p))
        further f (inr n) = subst (λ b. IsAmong z (if b then k ∷ [] else x ∷ back_to k xs)) (sym f) (inr n)

        only : IsAmong c (k ∷ []) → k ≡ c
        only (inl p) = p
        only (inr n) = absurd n

        go : (key_eq x k ≡ true) ⊎ ((key_eq x k ≡ false) × (is_in k xs ≡ true)) → IsAmong c (back_to k xs) → is_in k xs ≡ true
            → (IsAmong c (back_to k xs) → is_in k xs ≡ true → (z ≡ x) ⊎ IsAmong z (back_to k xs)) → (z ≡ y) ⊎ IsAmong z (back_to k (x ∷ xs))
        go (inl e') n i rec =
            inl (one c z y d (subst (λ v. To v y) (key_eq-true x k e' ∙ only (subst (λ b. IsAmong c (if b then k ∷ [] else x ∷ back_to k xs)) e' m)) e))
        go (inr f) n i rec = inr (further f.0 (rec n i))

    round_closed : (k c z : Key) (xs : List Key) → Trail To k xs → is_in k xs ≡ true → IsAmong c (back_to k xs) → To c z → IsAmong z (back_to k xs)
    round_closed k c z xs t h m d = go (closed k c z k xs t h m d)
      where
        go : (z ≡ k) ⊎ IsAmong z (back_to k xs) → IsAmong z (back_to k xs)
        go (inl p) = subst (λ v. IsAmong v (back_to k xs)) (sym p) (in_back k xs)
        go (inr n) = n

    along : (k c d : Key) (xs : List Key) → Trail To k xs → is_in k xs ≡ true → IsAmong c (back_to k xs) → Way To c d → IsAmong d (back_to k xs)
    along k c d xs t h m here = m
    along k c d xs t h m (there {y = y} e w) = along k y d xs t h (round_closed k c y xs t h m e) w

    ring-le : (j x : Key) → Ring To j x → key_le j x ≡ true
    ring-le j x closes = key_le-itself j
    ring-le j x (goes e l r) = l

    ring-on : (j j' x z : Key) → To j j' → Ring To j j' → Ring To j x → To x z → Ring To j z
    ring-on j j' x z s r closes e = subst (λ v. Ring To j v) (one j j' z s e) r
    ring-on j j' x z s r (goes {y = y} d l q) e = subst (λ v. Ring To j v) (one x y z d e) q

    ring-along : (j j' x z : Key) → To j j' → Ring To j j' → Ring To j x → Way To x z → Ring To j z
    ring-along j j' x z s r q here = q
    ring-along j j' x z s r q (there {y = y} e w) = ring-along j j' y z s r (ring-on j j' x y s r q e) w

    -- a trail that meets itself has met the loop to which it leads
    pub met : (k j : Key) (xs : List Key) → Trail To k xs → is_in k xs ≡ true → Lasso To k j → least_back_to k xs ≡ j
    met k j xs t h lasso =
        let m = along k k j xs t h (in_back k xs) lasso.way in
        let least = least_back_to k xs in
        let k_on : Ring To j k = ring-along j lasso.next j k lasso.step lasso.ring closes (forward k j k xs t h m) in
        let least_on : Ring To j least = ring-along j lasso.next k least lasso.step lasso.ring k_on (backward k least k xs t h (least_among k xs)) in
        key_le-antisymmetric least j (least_below k j xs m) (ring-le j least least_on)

    ring-of : (k m x : Key) (xs : List Key) → Trail To k xs → is_in k xs ≡ true → ((c : Key) → IsAmong c (back_to k xs) → key_le m c ≡ true)
        → IsAmong x (back_to k xs) → Way To x m → Ring To m x
    ring-of k m x xs t h l i here = closes
    ring-of k m x xs t h l i (there {y = y} e w) = goes e (l x i) (ring-of k m y xs t h l (round_closed k x y xs t h i e) w)

    -- a trail that meets itself has a loop, and leads to its least key
    pub ring-found : (k : Key) (xs : List Key) → Trail To k xs → is_in k xs ≡ true → Lasso To k (least_back_to k xs)
    ring-found k xs t h =
        let m = least_back_to k xs in
        let i = least_among k xs in
        let s = has_step k m k xs t h i in
        let n = round_closed k m s.0 xs t h i s.1 in
        record {
          way = backward k m k xs t h i;
          next = s.0;
          step = s.1;
          ring = ring-of k m s.0 xs t h (λ c p. least_below k c xs p) n (joined (forward k s.0 k xs t h n) (backward k m k xs t h i));
        }
