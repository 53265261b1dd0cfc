-- Replies as they are put in the order of the files.
use Rattle.std.proofs.Common.{◌≡◌, ℕ, zero, suc, ◌+◌, ◌-◌, ◌<◌, ◌≤◌, ◌⊎◌, inl, inr, List, [], ◌∷◌, ◌++◌, length, set, get_or, refl, sym, ap, ◌∙◌, subst, arith, append-nil, append_assoc, length-append}
use Rattle.std.proofs.lemmas.Bool.{cases_lt}
use Rattle.std.proofs.lemmas.List.{get_or-set_same}
use Rattle.dh_batch.specs.Dealing.{dealt}

-- how many more are dealt before the next that comes to a desk
abbrev pub wait : {A : Type 0} → ℕ → ℕ → List A → ℕ
wait n i [] = i
wait n zero (x ∷ xs) = wait n (n - 1) xs
wait n (suc i) (x ∷ xs) = wait n i xs

dealt_append : {A : Type 0} (n i : ℕ) (xs ys : List A) → dealt n i (xs ++ ys) ≡ dealt n i xs ++ dealt n (wait n i xs) ys
dealt_append n i [] ys = refl
dealt_append n zero (x ∷ xs) ys = ap (λ zs. x ∷ zs) (dealt_append n (n - 1) xs ys)
dealt_append n (suc i) (x ∷ xs) ys = dealt_append n i xs ys

wait_append : {A : Type 0} (n i : ℕ) (xs ys : List A) → wait n i (xs ++ ys) ≡ wait n (wait n i xs) ys
wait_append n i [] ys = refl
wait_append n zero (x ∷ xs) ys = wait_append n (n - 1) xs ys
wait_append n (suc i) (x ∷ xs) ys = wait_append n i xs ys

-- how many come to a desk
pub dealt_count : {A B : Type 0} (n i : ℕ) (xs : List A) (ys : List B) → length xs ≡ length ys → length (dealt n i xs) ≡ length (dealt n i ys)
dealt_count n i [] [] h = refl
dealt_count n i [] (y ∷ ys) h = absurd (omega arith)
dealt_count n i (x ∷ xs) [] h = absurd (omega arith)
dealt_count n zero (x ∷ xs) (y ∷ ys) h = let ih = dealt_count n (n - 1) xs ys (omega arith) in omega (arith, ih)
dealt_count n (suc i) (x ∷ xs) (y ∷ ys) h = dealt_count n i xs ys (omega arith)

-- one whose turn it is gets one more
dealt_more : {A B : Type 0} (n i : ℕ) (xs : List A) (ys : List B) → length xs < length ys → wait n i xs ≡ 0 → length (dealt n i xs) < length (dealt n i ys)
dealt_more n i xs [] h w = absurd (omega arith)
dealt_more n zero [] (y ∷ ys) h w = omega arith
dealt_more n (suc i) [] (y ∷ ys) h w = absurd (omega arith)
dealt_more n zero (x ∷ xs) (y ∷ ys) h w = let ih = dealt_more n (n - 1) xs ys (omega arith) w in omega (arith, ih)
dealt_more n (suc i) (x ∷ xs) (y ∷ ys) h w = dealt_more n i xs ys (omega arith) w

-- ---- whose turn it is

-- where it is the turn of one desk, each waits for as many as stand before it
abbrev pub Waits : {A : Type 0} → ℕ → ℕ → List A → Type 0
Waits n turn xs = (i : ℕ) → i < n → (i < turn → wait n i xs + turn ≡ n + i) × (turn ≤ i → wait n i xs + turn ≡ i)

pub waits_first : {A : Type 0} (n : ℕ) (xs : List A) → xs ≡ [] → Waits n 0 xs
waits_first n xs none i p = subst (λ ys. (i < 0 → wait n i ys + 0 ≡ n + i) × (0 ≤ i → wait n i ys + 0 ≡ i)) (sym none) (λ h. absurd (omega arith), λ h. omega arith)

wait_one : {A : Type 0} (n w : ℕ) (x : A) → (w ≡ 0 → wait n w (x ∷ []) ≡ n - 1) × (0 < w → wait n w (x ∷ []) + 1 ≡ w)
wait_one n zero x = (λ h. refl, λ h. absurd (omega arith))
wait_one n (suc w) x = (λ h. absurd (omega arith), λ h. omega arith)

step_waits : (n turn next i w v : ℕ) → turn < n → i < n → (turn + 1 ≡ n → next ≡ 0) → (turn + 1 < n → next ≡ turn + 1) → (i < turn → w + turn ≡ n + i) → (turn ≤ i → w + turn ≡ i)
    → (w ≡ 0 → v ≡ n - 1) → (0 < w → v + 1 ≡ w) → (i < next → v + next ≡ n + i) × (next ≤ i → v + next ≡ i)
step_waits n turn next i w v t p again on before behind here later = by_order (cases_lt (turn + 1) n) (cases_lt i turn) (cases_lt turn i)
  where
    by_order : (turn + 1 < n) ⊎ (n ≤ turn + 1) → (i < turn) ⊎ (turn ≤ i) → (turn < i) ⊎ (i ≤ turn) → (i < next → v + next ≡ n + i) × (next ≤ i → v + next ≡ i)
    by_order (inl a) (inl b) c =
        let e = on a in
        let f = before b in
        let k = later (omega (arith, f, t)) in
        (λ h. omega (arith, e, f, k), λ h. absurd (omega (arith, e, b, h)))
    by_order (inl a) (inr b) (inl c) =
        let e = on a in
        let f = behind b in
        let k = later (omega (arith, f, c)) in
        (λ h. absurd (omega (arith, e, c, h)), λ h. omega (arith, e, f, k))
    by_order (inl a) (inr b) (inr c) =
        let e = on a in
        let f = behind b in
        let k = here (omega (arith, f, c)) in
        (λ h. omega (arith, e, f, k, b, c, t), λ h. absurd (omega (arith, e, c, h)))
    by_order (inr a) (inl b) c =
        let e = again (omega (arith, a, t)) in
        let f = before b in
        let k = later (omega (arith, f, t)) in
        (λ h. absurd (omega (arith, e, h)), λ h. omega (arith, e, f, k, a, t))
    by_order (inr a) (inr b) (inl c) = absurd (omega (arith, a, c, p))
    by_order (inr a) (inr b) (inr c) =
        let e = again (omega (arith, a, t)) in
        let f = behind b in
        let k = here (omega (arith, f, c)) in
        (λ h. absurd (omega (arith, e, h)), λ h. omega (arith, e, f, k, a, b, c, t))

pub waits_next : {A : Type 0} (n turn next : ℕ) (xs more : List A) (x : A) → turn < n → (turn + 1 ≡ n → next ≡ 0) → (turn + 1 < n → next ≡ turn + 1) → more ≡ xs ++ x ∷ [] → Waits n turn xs → Waits n next more
waits_next n turn next xs more x t again on pushed w i p =
    let new : wait n i more ≡ wait n (wait n i xs) (x ∷ []) = ap (wait n i) pushed ∙ wait_append n i xs (x ∷ []) in
    let one = wait_one n (wait n i xs) x in
    step_waits n turn next i (wait n i xs) (wait n i more) t p again on ((w i p).0) ((w i p).1) (λ h. new ∙ one.0 h) (λ h. ap (λ k. k + 1) new ∙ one.1 h)

turn_waits : {A : Type 0} (n turn : ℕ) (xs : List A) → turn < n → Waits n turn xs → wait n turn xs ≡ 0
turn_waits n turn xs t w = let e = (w turn t).1 (omega arith) in omega (arith, e)

others_wait : {A : Type 0} (n turn i : ℕ) (xs : List A) → turn < n → i < n → Waits n turn xs → (i < turn) ⊎ (turn < i) → 0 < wait n i xs
others_wait n turn i xs t p w (inl before) = let e = (w i p).0 before in omega (arith, e)
others_wait n turn i xs t p w (inr behind) = let e = (w i p).1 (omega (arith, behind)) in omega (arith, e, behind)

-- ---- what is left

-- there is a reply of the desk whose turn it is
pub more_left : {A B : Type 0} (n turn : ℕ) (xs : List A) (files : List B) (left all : List A) → turn < n → Waits n turn xs → length xs < length files → dealt n turn xs ++ left ≡ all
    → length all ≡ length (dealt n turn files) → 0 < length left
more_left n turn xs files left all t w short split count =
    let more = dealt_more n turn xs files short (turn_waits n turn xs t w) in
    let sum : length (dealt n turn xs) + length left ≡ length all = sym (length-append (dealt n turn xs) left) ∙ ap length split in
    omega (arith, more, sum, count)

dealt_here : {A : Type 0} (n w : ℕ) (x : A) → w ≡ 0 → dealt n w (x ∷ []) ≡ x ∷ []
dealt_here n zero x h = refl
dealt_here n (suc w) x h = absurd (omega arith)

dealt_there : {A : Type 0} (n w : ℕ) (x : A) → 0 < w → dealt n w (x ∷ []) ≡ []
dealt_there n zero x h = absurd (omega arith)
dealt_there n (suc w) x h = refl

set_other : {A : Type 0} (xs : List A) (at i : ℕ) (x d : A) → (i < at) ⊎ (at < i) → get_or (set xs at x) i d ≡ get_or xs i d
set_other [] at i x d o = refl
set_other (y ∷ xs) zero zero x d (inl h) = absurd (omega arith)
set_other (y ∷ xs) zero zero x d (inr h) = absurd (omega arith)
set_other (y ∷ xs) zero (suc i) x d o = refl
set_other (y ∷ xs) (suc at) zero x d o = refl
set_other (y ∷ xs) (suc at) (suc i) x d (inl h) = set_other xs at i x d (inl (omega arith))
set_other (y ∷ xs) (suc at) (suc i) x d (inr h) = set_other xs at i x d (inr (omega arith))

-- what has come to each desk and what is left of its replies are all of its replies
abbrev pub Splits : {A : Type 0} → ℕ → List A → List (List A) → List (List A) → Type 0
Splits n xs left all = (i : ℕ) → i < n → dealt n i xs ++ get_or left i [] ≡ get_or all i []

pub splits_first : {A : Type 0} (n : ℕ) (xs : List A) (all : List (List A)) → xs ≡ [] → Splits n xs all all
splits_first n xs all none i p = ap (λ ys. dealt n i ys ++ get_or all i []) none

splits_one : {A : Type 0} (n turn i : ℕ) (xs more : List A) (x : A) (left left' all : List (List A)) (rest : List A) → turn < n → i < n → Waits n turn xs → more ≡ xs ++ x ∷ []
    → get_or left turn [] ≡ x ∷ rest → left' ≡ set left turn rest → turn < length left → dealt n i xs ++ get_or left i [] ≡ get_or all i [] → dealt n i more ++ get_or left' i [] ≡ get_or all i []
splits_one {A} n turn i xs more x left left' all rest t p w pushed taken is lt split = by_order (cases_lt i turn) (cases_lt turn i)
  where
    other : (i < turn) ⊎ (turn < i) → dealt n i more ++ get_or left' i [] ≡ get_or all i []
    other o =
        ap (λ zs. zs ++ get_or left' i [])
        (ap (dealt n i) pushed ∙ dealt_append n i xs (x ∷ []) ∙ ap (λ zs. dealt n i xs ++ zs) (dealt_there n (wait n i xs) x (others_wait n turn i xs t p w o)) ∙ append-nil (dealt n i xs))
        ∙ ap (λ zs. dealt n i xs ++ zs) (ap (λ qs. get_or qs i []) is ∙ set_other left turn i rest [] o) ∙ split

    own : i ≡ turn → dealt n i more ++ get_or left' i [] ≡ get_or all i []
    own e =
        ap (λ zs. zs ++ get_or left' i [])
        (ap (dealt n i) pushed ∙ dealt_append n i xs (x ∷ []) ∙ ap (λ zs. dealt n i xs ++ zs) (dealt_here n (wait n i xs) x (ap (λ k. wait n k xs) e ∙ turn_waits n turn xs t w)))
        ∙ append_assoc (dealt n i xs) (x ∷ []) (get_or left' i [])
        ∙ ap (λ zs. dealt n i xs ++ x ∷ zs) (ap (λ qs. get_or qs i []) is ∙ ap (λ k. get_or (set left turn rest) k []) e ∙ get_or-set_same left turn rest [] lt)
        ∙ ap (λ zs. dealt n i xs ++ zs) (sym taken ∙ ap (λ k. get_or left k []) (sym e)) ∙ split

    by_order : (i < turn) ⊎ (turn ≤ i) → (turn < i) ⊎ (i ≤ turn) → dealt n i more ++ get_or left' i [] ≡ get_or all i []
    by_order (inl a) b = other (inl a)
    by_order (inr a) (inl b) = other (inr b)
    by_order (inr a) (inr b) = own (omega (arith, a, b))

pub splits_next : {A : Type 0} (n turn : ℕ) (xs more : List A) (x : A) (left left' all : List (List A)) (rest : List A) → turn < n → Waits n turn xs → more ≡ xs ++ x ∷ []
    → get_or left turn [] ≡ x ∷ rest → left' ≡ set left turn rest → turn < length left → Splits n xs left all → Splits n more left' all
splits_next n turn xs more x left left' all rest t w pushed taken is lt splits i p = splits_one n turn i xs more x left left' all rest t p w pushed taken is lt (splits i p)

none_left : {A : Type 0} (xs : List A) → length xs ≡ 0 → xs ≡ []
none_left [] h = refl
none_left (x ∷ xs) h = absurd (omega arith)

-- nothing is left once there are as many replies as files
pub splits_last : {A B : Type 0} (n : ℕ) (xs : List A) (files : List B) (left all : List (List A)) → Splits n xs left all → ((i : ℕ) → i < n → length (get_or all i []) ≡ length (dealt n i files))
    → length xs ≡ length files → (i : ℕ) → i < n → dealt n i xs ≡ get_or all i []
splits_last n xs files left all splits counts same i p =
    let sum : length (dealt n i xs) + length (get_or left i []) ≡ length (get_or all i []) = sym (length-append (dealt n i xs) (get_or left i [])) ∙ ap length (splits i p) in
    let none : get_or left i [] ≡ [] = none_left (get_or left i []) (let k = counts i p in let m = dealt_count n i xs files same in omega (arith, sum, k, m)) in
    sym (append-nil (dealt n i xs)) ∙ ap (λ zs. dealt n i xs ++ zs) (sym none) ∙ splits i p
