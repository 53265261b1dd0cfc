-- What holds of the session of each file holds of all desks, and of all replies in the order of the files.
use Rattle.std.proofs.Common.{◌≡◌, ℕ, zero, suc, ◌+◌, ◌-◌, ◌<◌, ◌≤◌, ◌⊎◌, inl, inr, List, [], ◌∷◌, length, drop, get_or, refl, sym, ap, ◌∙◌, subst, arith}
use Rattle.std.specs.Prelude.{sum_by, ⊤}
use Rattle.std.proofs.lemmas.Bool.{cases_lt}
use Rattle.std.proofs.lemmas.List.Sums.{sum_by-cons}
use Rattle.dh_batch.specs.Dealing.{AreServed, Chain, HaveServed, dealt}

-- ---- desks

-- what a session does to its desk, any number of sessions do
pub chain_goes : {F D A : Type 0} (R : F → D → D → A → Type 0) (P : D → D → Type 0) → ((d : D) → P d d) → ((a b c : D) → P a b → P b c → P a c) → ((f : F) (d e : D) (r : A) → R f d e r → P d e)
    → (before after : D) (fs : List F) (rs : List A) → Chain R before after fs rs → P before after
chain_goes R P itself on one before after [] [] c = subst (P before) (sym c) (itself before)
chain_goes R P itself on one before after [] (r ∷ rs) c = absurd c
chain_goes R P itself on one before after (f ∷ fs) [] c = absurd c
chain_goes R P itself on one before after (f ∷ fs) (r ∷ rs) (d, s, rest) = on before d after (one f before d r s) (chain_goes R P itself on one d after fs rs rest)

-- so of the desks that have served some files
pub have_gone : {F D A : Type 0} (R : F → D → D → A → Type 0) (P : D → D → Type 0) → ((d : D) → P d d) → ((a b c : D) → P a b → P b c → P a c) → ((f : F) (d e : D) (r : A) → R f d e r → P d e)
    → (n : ℕ) (before after : List D) → HaveServed R n before after → (i : ℕ) (d : D) → i < n → P (get_or before i d) (get_or after i d)
have_gone R P itself on one n before after served i d p =
    let (fs, rs, c) = served i d p in chain_goes R P itself on one (get_or before i d) (get_or after i d) fs rs c

pub served_some : {F D A : Type 0} (R : F → D → D → A → Type 0) (n : ℕ) (before after : List D) (files : List F) (done : List A) → AreServed R n before after files done → HaveServed R n before after
served_some R n before after files done s i d p = (dealt n i files, dealt n i done, s.1 i d p)

-- ---- each reply

-- what holds of each file and the reply to it
abbrev pub Each : {F A : Type 0} → (F → A → Type 0) → List F → List A → Type 0
Each P [] [] = ⊤
Each P [] (r ∷ rs) = ⊥
Each P (f ∷ fs) [] = ⊥
Each P (f ∷ fs) (r ∷ rs) = P f r × Each P fs rs

chain_each : {F D A : Type 0} (R : F → D → D → A → Type 0) (P : F → A → Type 0) → ((f : F) (d e : D) (r : A) → R f d e r → P f r) → (before after : D) (fs : List F) (rs : List A)
    → Chain R before after fs rs → Each P fs rs
chain_each R P one before after [] [] c = tt
chain_each R P one before after [] (r ∷ rs) c = absurd c
chain_each R P one before after (f ∷ fs) [] c = absurd c
chain_each R P one before after (f ∷ fs) (r ∷ rs) (d, s, rest) = (one f before d r s, chain_each R P one d after fs rs rest)

-- the turn of the last desk is that of the first before it
last_is : (n i : ℕ) → i < n → n ≤ i + 1 → n - 1 ≡ i
last_is n i p q = omega (arith, p, q)

dealt_each : {F A : Type 0} (P : F → A → Type 0) (n : ℕ) (files : List F) (done : List A) → 0 < n → length done ≡ length files → ((i : ℕ) → i < n → Each P (dealt n i files) (dealt n i done)) → Each P files done
dealt_each P n [] [] some same all = tt
dealt_each P n [] (r ∷ rs) some same all = absurd (omega arith)
dealt_each P n (f ∷ fs) [] some same all = absurd (omega arith)
dealt_each P n (f ∷ fs) (r ∷ rs) some same all = ((all 0 some).0, dealt_each P n fs rs some (omega arith) (λ i p. next i p (cases_lt (suc i) n)))
  where
    next : (i : ℕ) → i < n → (suc i < n) ⊎ (n ≤ suc i) → Each P (dealt n i fs) (dealt n i rs)
    next i p (inl q) = all (suc i) q
    next i p (inr q) = subst (λ k. Each P (dealt n k fs) (dealt n k rs)) (last_is n i p (omega (arith, q))) ((all 0 some).1)

-- what holds of each session holds of each file and the reply to it
pub each_served : {F D A : Type 0} (R : F → D → D → A → Type 0) (P : F → A → Type 0) → ((f : F) (d e : D) (r : A) → R f d e r → P f r) → (n : ℕ) (before after : List D) (files : List F) (done : List A) → D → 0 < n
    → AreServed R n before after files done → Each P files done
each_served R P one n before after files done d some s =
    dealt_each P n files done some s.0 (λ i p. chain_each R P one (get_or before i d) (get_or after i d) (dealt n i files) (dealt n i done) (s.1 i d p))

-- ---- sums

-- the sum of the values below n
abbrev pub total : ℕ → (ℕ → ℕ) → ℕ
total zero g = 0
total (suc n) g = total n g + g n

total_first : (n : ℕ) (g : ℕ → ℕ) → total (suc n) g ≡ g 0 + total n (λ i. g (suc i))
total_first zero g = omega arith
total_first (suc n) g = let ih = total_first n g in omega (arith, ih)

total_none : (n : ℕ) (g : ℕ → ℕ) → ((i : ℕ) → g i ≡ 0) → total n g ≡ 0
total_none zero g none = refl
total_none (suc n) g none = let ih = total_none n g none in let here = none n in omega (arith, ih, here)

-- what is dealt is all of it
dealt_total : {A : Type 0} (w : A → ℕ) (m : ℕ) (xs : List A) → total (suc m) (λ i. sum_by w (dealt (suc m) i xs)) ≡ sum_by w xs
dealt_total w m [] = total_none (suc m) (λ i. sum_by w (dealt (suc m) i [])) (λ i. refl)
dealt_total w m (x ∷ xs) =
    let split = total_first m (λ i. sum_by w (dealt (suc m) i (x ∷ xs))) in
    let back : suc m - 1 ≡ m = omega arith in
    let first : sum_by w (dealt (suc m) 0 (x ∷ xs)) ≡ w x + sum_by w (dealt (suc m) m xs) = ap (λ k. sum_by w (x ∷ dealt (suc m) k xs)) back ∙ sum_by-cons w x (dealt (suc m) m xs) in
    let rest = dealt_total w m xs in
    let whole = sum_by-cons w x xs in
    omega (arith, split, first, rest, whole)

-- what a session adds to a count of its desk, unless that stands at its last value, all of the sessions of a desk add
pub chain_adds : {F D A : Type 0} (R : F → D → D → A → Type 0) (c : D → ℕ) (w : A → ℕ) (last : ℕ) → ((f : F) (d e : D) (r : A) → R f d e r → (c d ≤ c e) × ((last ≤ c e) ⊎ (w r + c d ≤ c e))) → (before after : D) (fs : List F) (rs : List A)
    → Chain R before after fs rs → (c before ≤ c after) × ((last ≤ c after) ⊎ (sum_by w rs + c before ≤ c after))
chain_adds R c w last one before after [] [] s = let same = ap c s in (omega (arith, same), inr (omega (arith, same)))
chain_adds R c w last one before after [] (r ∷ rs) s = absurd s
chain_adds R c w last one before after (f ∷ fs) [] s = absurd s
chain_adds R c w last one before after (f ∷ fs) (r ∷ rs) (d, s, rest) = both (one f before d r s) (chain_adds R c w last one d after fs rs rest)
  where
    both : (c before ≤ c d) × ((last ≤ c d) ⊎ (w r + c before ≤ c d)) → (c d ≤ c after) × ((last ≤ c after) ⊎ (sum_by w rs + c d ≤ c after))
        → (c before ≤ c after) × ((last ≤ c after) ⊎ (sum_by w (r ∷ rs) + c before ≤ c after))
    both (p, a) (q, inl b) = (omega arith, inl b)
    both (p, inl a) (q, inr b) = (omega arith, inl (omega arith))
    both (p, inr a) (q, inr b) = (omega arith, inr (let e = sum_by-cons w r rs in omega (arith, a, b, e)))

-- for each desk a count at its last value, or what its sessions have added; so for all of them
total_adds : (n last : ℕ) (b s a : ℕ → ℕ) → ((i : ℕ) → i < n → (last ≤ a i) ⊎ (s i + b i ≤ a i)) → ((i : ℕ) × (i < n) × (last ≤ a i)) ⊎ (total n s + total n b ≤ total n a)
total_adds zero last b s a each = inr (omega arith)
total_adds (suc n) last b s a each = both (total_adds n last b s a (λ i p. each i (omega arith))) (each n (omega arith))
  where
    both : ((i : ℕ) × (i < n) × (last ≤ a i)) ⊎ (total n s + total n b ≤ total n a) → (last ≤ a n) ⊎ (s n + b n ≤ a n)
        → ((i : ℕ) × (i < suc n) × (last ≤ a i)) ⊎ (total (suc n) s + total (suc n) b ≤ total (suc n) a)
    both (inl (i, p, q)) h = inl (i, omega arith, q)
    both (inr h) (inl q) = inl (n, omega arith, q)
    both (inr h) (inr k) = inr (omega arith)

-- the sum over the desks that serve, and over those behind them
sum_split : {D : Type 0} (c : D → ℕ) (n : ℕ) (ds : List D) (d : D) → n ≤ length ds → sum_by c ds ≡ total n (λ i. c (get_or ds i d)) + sum_by c (drop n ds)
sum_split c zero ds d le =
    let none : total 0 (λ i. c (get_or ds i d)) ≡ 0 = refl in
    let all : sum_by c (drop 0 ds) ≡ sum_by c ds = refl in
    omega (arith, none, all)
sum_split c (suc n) [] d le = absurd (omega arith)
sum_split c (suc n) (x ∷ xs) d le =
    let ih = sum_split c n xs d (omega arith) in
    let first = total_first n (λ i. c (get_or (x ∷ xs) i d)) in
    let whole = sum_by-cons c x xs in
    omega (arith, ih, first, whole)

-- What each session adds to a count of its desk, unless that stands at its last value: so the replies, and the counts of all desks.
pub all_add : {F D A : Type 0} (R : F → D → D → A → Type 0) (c : D → ℕ) (w : A → ℕ) (last : ℕ) → ((f : F) (d e : D) (r : A) → R f d e r → (c d ≤ c e) × ((last ≤ c e) ⊎ (w r + c d ≤ c e))) → (n : ℕ) (before after : List D) (files : List F) (done : List A) (d : D)
    → 0 < n → n ≤ length before → n ≤ length after → drop n after ≡ drop n before → AreServed R n before after files done
    → ((i : ℕ) × (i < n) × (last ≤ c (get_or after i d))) ⊎ (sum_by w done + sum_by c before ≤ sum_by c after)
all_add R c w last one zero before after files done d some le le' behind s = absurd (omega arith)
all_add R c w last one (suc m) before after files done d some le le' behind s =
    joined (total_adds (suc m) last (λ i. c (get_or before i d)) (λ i. sum_by w (dealt (suc m) i done)) (λ i. c (get_or after i d))
    (λ i p. (chain_adds R c w last one (get_or before i d) (get_or after i d) (dealt (suc m) i files) (dealt (suc m) i done) (s.1 i d p)).1))
  where
    joined : ((i : ℕ) × (i < suc m) × (last ≤ c (get_or after i d))) ⊎ (total (suc m) (λ i. sum_by w (dealt (suc m) i done)) + total (suc m) (λ i. c (get_or before i d)) ≤ total (suc m) (λ i. c (get_or after i d)))
        → ((i : ℕ) × (i < suc m) × (last ≤ c (get_or after i d))) ⊎ (sum_by w done + sum_by c before ≤ sum_by c after)
    joined (inl at) = inl at
    joined (inr le'') =
        let was = sum_split c (suc m) before d le in
        let is = sum_split c (suc m) after d le' in
        let rest = ap (sum_by c) behind in
        let all = dealt_total w m done in
        inr (omega (arith, le'', was, is, rest, all))
