-- Files that several desks serve by turns, one file after another.
use Rattle.std.proofs.Common.{◌≡◌, ◌⊎◌, inl, inr, ℕ, zero, suc, ◌+◌, ◌-◌, ◌<◌, ◌≤◌, List, [], ◌∷◌, ◌++◌, length, refl, sym, ap, ◌∙◌, subst, arith}
use Rattle.std.specs.Prelude.{slice_index_or}
use Rattle.std.proofs.lemmas.Bool.{cases_lt}
use Rattle.dh_batch.specs.Dealing.{AreServed, Chain, dealt}

-- Each round is one file at the desk whose turn it is, which stands behind the others then. So the files come in their order.
pub data Rounds {F D A : Type 0} (replies : F → D → D → A → Type 0) : List D → List D → List F → List A → Type 0 where
  at_rest : {ds : List D} → Rounds replies ds ds [] []
  a_round : {d between d' : D} {ds ds' : List D} {f : F} {fs : List F} {a : A} {rs : List A}
      → replies f d between a → Rounds replies (ds ++ between ∷ []) (ds' ++ d' ∷ []) fs rs → Rounds replies (d ∷ ds) (d' ∷ ds') (f ∷ fs) (a ∷ rs)

-- ---- elements by their places

module _ {D : Type 0} where
  before_last : (xs : List D) (y : D) (i : ℕ) (d : D) → i < length xs → slice_index_or (xs ++ y ∷ []) i d ≡ slice_index_or xs i d
  before_last [] y i d h = absurd (omega (arith, h))
  before_last (x ∷ xs) y zero d h = refl
  before_last (x ∷ xs) y (suc i) d h = before_last xs y i d (omega (arith, h))

  at_last : (xs : List D) (y : D) (i : ℕ) (d : D) → i ≡ length xs → slice_index_or (xs ++ y ∷ []) i d ≡ y
  at_last [] y zero d h = refl
  at_last [] y (suc i) d h = absurd (omega (arith, h))
  at_last (x ∷ xs) y zero d h = absurd (omega (arith, h))
  at_last (x ∷ xs) y (suc i) d h = at_last xs y i d (omega (arith, h))

  by_places : (xs ys : List D) → length xs ≡ length ys → ((i : ℕ) (d : D) → i < length xs → slice_index_or ys i d ≡ slice_index_or xs i d) → ys ≡ xs
  by_places [] [] l h = refl
  by_places [] (y ∷ ys) l h = absurd (omega (arith, l))
  by_places (x ∷ xs) [] l h = absurd (omega (arith, l))
  by_places (x ∷ xs) (y ∷ ys) l h =
      ap (λ z. z ∷ ys) (h 0 x (omega arith)) ∙ ap (λ zs. x ∷ zs) (by_places xs ys (omega (arith, l)) (λ i d lt. h (suc i) d (omega (arith, lt))))

  one_longer : (xs : List D) (y : D) → length (xs ++ y ∷ []) ≡ suc (length xs)
  one_longer [] y = refl
  one_longer (x ∷ xs) y = ap suc (one_longer xs y)

-- ---- from what each desk served to rounds

module _ {F D A : Type 0} (replies : F → D → D → A → Type 0) (n : ℕ) where
  -- each of these desks served what is dealt to it
  abbrev Served : List D → List D → List F → List A → Type 0
  Served ds ds' fs rs = (i : ℕ) (d : D) → i < n → Chain replies (slice_index_or ds i d) (slice_index_or ds' i d) (dealt n i fs) (dealt n i rs)

  turned : (d between d' : D) (ds ds' : List D) (f : F) (fs : List F) (a : A) (rs : List A) → suc (length ds) ≡ n → suc (length ds') ≡ n
      → Served (d ∷ ds) (d' ∷ ds') (f ∷ fs) (a ∷ rs) → Chain replies between d' (dealt n (n - 1) fs) (dealt n (n - 1) rs)
      → Served (ds ++ between ∷ []) (ds' ++ d' ∷ []) fs rs
  turned d between d' ds ds' f fs a rs k l served last i x lt = elim (cases_lt i (length ds)) [
    | inl within ↦ subst (λ y. Chain replies y (slice_index_or (ds' ++ d' ∷ []) i x) (dealt n i fs) (dealt n i rs)) (sym (before_last ds between i x within))
        (subst (λ y. Chain replies (slice_index_or ds i x) y (dealt n i fs) (dealt n i rs)) (sym (before_last ds' d' i x (omega (arith, within, k, l)))) (served (suc i) x (omega (arith, within, k))))
    | inr past ↦ subst (λ y. Chain replies y (slice_index_or (ds' ++ d' ∷ []) i x) (dealt n i fs) (dealt n i rs)) (sym (at_last ds between i x (omega (arith, past, k, lt))))
        (subst (λ y. Chain replies between y (dealt n i fs) (dealt n i rs)) (sym (at_last ds' d' i x (omega (arith, past, k, l, lt))))
        (subst (λ j. Chain replies between d' (dealt n j fs) (dealt n j rs)) (turn i past lt) last))
  ]
    where
      turn : (i : ℕ) → length ds ≤ i → i < n → n - 1 ≡ i
      turn i past lt = omega (arith, past, lt, k)

  rounds : (ds ds' : List D) (fs : List F) (rs : List A) → 0 < n → length ds ≡ n → length ds' ≡ n → length rs ≡ length fs → Served ds ds' fs rs → Rounds replies ds ds' fs rs
  rounds ds ds' [] [] some k l m served =
      subst (λ es. Rounds replies ds es [] []) (sym (by_places ds ds' (k ∙ sym l) (λ i d lt. served i d (omega (arith, lt, k))))) at_rest
  rounds ds ds' [] (a ∷ rs) some k l m served = absurd (omega (arith, m))
  rounds ds ds' (f ∷ fs) [] some k l m served = absurd (omega (arith, m))
  rounds [] ds' (f ∷ fs) (a ∷ rs) some k l m served = absurd (omega (arith, some, k))
  rounds (d ∷ ds) [] (f ∷ fs) (a ∷ rs) some k l m served = absurd (omega (arith, some, l))
  rounds (d ∷ ds) (d' ∷ ds') (f ∷ fs) (a ∷ rs) some k l m served =
      let (between, r, last) = served 0 d some in
      a_round r
      (rounds (ds ++ between ∷ []) (ds' ++ d' ∷ []) fs rs some (one_longer ds between ∙ k) (one_longer ds' d' ∙ l) (omega (arith, m))
      (turned d between d' ds ds' f fs a rs k l served last))

-- ---- what holds of each desk

-- each of these desks is followed by one of those
abbrev pub Both : {D : Type 0} → (D → D → Type 0) → List D → List D → Type 0
Both P [] [] = Unit {0}
Both P [] (e ∷ es) = ⊥
Both P (d ∷ ds) [] = ⊥
Both P (d ∷ ds) (e ∷ es) = P d e × Both P ds es

module _ {D : Type 0} (P : D → D → Type 0) where
  pub both_itself : ((d : D) → P d d) → (ds : List D) → Both P ds ds
  both_itself h [] = tt
  both_itself h (d ∷ ds) = (h d, both_itself h ds)

  pub both_turned : (d e : D) (ds es : List D) → Both P (ds ++ d ∷ []) (es ++ e ∷ []) → P d e × Both P ds es
  both_turned d e [] [] (h, k) = (h, tt)
  both_turned d e [] (y ∷ []) (h, k) = absurd k
  both_turned d e [] (y ∷ z ∷ es) (h, k) = absurd k
  both_turned d e (x ∷ []) [] (h, k) = absurd k
  both_turned d e (x ∷ z ∷ ds) [] (h, k) = absurd k
  both_turned d e (x ∷ ds) (y ∷ es) (h, k) = let (last, rest) = both_turned d e ds es k in (last, (h, rest))

  -- what each round keeps holds at the end
  pub both_by_rounds : {F A : Type 0} (replies : F → D → D → A → Type 0) → ((d : D) → P d d) → ((d e f : D) → P d e → P e f → P d f)
      → ((f : F) (d e : D) (a : A) → replies f d e a → P d e) → {ds es : List D} {fs : List F} {rs : List A} → Rounds replies ds es fs rs → Both P ds es
  both_by_rounds replies itself next one (at_rest {ds = ds}) = both_itself itself ds
  both_by_rounds replies itself next one (a_round {d = d} {between = b} {d' = d'} {ds = ds} {ds' = ds'} {f = f} {a = a} r rest) =
      let (last, others) = both_turned b d' ds ds' (both_by_rounds replies itself next one rest) in
      (next d b d' (one f d b a r) last, others)

-- ---- sums, and counts that stand at their last value

module _ {D : Type 0} (count : D → ℕ) where
  abbrev pub sum : List D → ℕ
  sum [] = 0
  sum (d ∷ ds) = count d + sum ds

  pub sum_turned : (ds : List D) (d : D) → sum (ds ++ d ∷ []) ≡ count d + sum ds
  sum_turned [] d = refl
  sum_turned (x ∷ ds) d = let k = sum_turned ds d in omega (arith, k)

module _ {D : Type 0} (P : D → Type 0) where
  -- one of these has it
  abbrev pub Has : List D → Type 0
  Has [] = ⊥
  Has (d ∷ ds) = P d ⊎ Has ds

  pub has_last : (ds : List D) (d : D) → P d ⊎ Has ds → Has (ds ++ d ∷ [])
  has_last [] d h = h
  has_last (x ∷ ds) d (inl h) = inr (has_last ds d (inl h))
  has_last (x ∷ ds) d (inr (inl h)) = inl h
  has_last (x ∷ ds) d (inr (inr h)) = inr (has_last ds d (inr h))

  pub last_has : (ds : List D) (d : D) → Has (ds ++ d ∷ []) → P d ⊎ Has ds
  last_has [] d h = h
  last_has (x ∷ ds) d (inl h) = inr (inl h)
  last_has (x ∷ ds) d (inr h) = under (last_has ds d h)
    where
      under : P d ⊎ Has ds → P d ⊎ Has (x ∷ ds)
      under (inl k) = inl k
      under (inr k) = inr (inr k)

  -- what lasts at each desk lasts at one of them
  pub has_on : (Q : D → D → Type 0) → ((d e : D) → Q d e → P d → P e) → (ds es : List D) → Both Q ds es → Has ds → Has es
  has_on Q h [] es b k = absurd k
  has_on Q h (d ∷ ds) [] b k = absurd b
  has_on Q h (d ∷ ds) (e ∷ es) (q, b) (inl k) = inl (h d e q k)
  has_on Q h (d ∷ ds) (e ∷ es) (q, b) (inr k) = inr (has_on Q h ds es b k)

-- ---- the rounds of what the desks served

pub rounds_served : {F D A : Type 0} (replies : F → D → D → A → Type 0) (n : ℕ) (ds ds' : List D) (fs : List F) (rs : List A) → 0 < n → length ds ≡ n → length ds' ≡ n
    → AreServed replies n ds ds' fs rs → Rounds replies ds ds' fs rs
rounds_served replies n ds ds' fs rs some k l (m, served) = rounds replies n ds ds' fs rs some k l m served
