-- What was opened and is bound again is what it was.
use Rattle.std.specs.Prelude.{◌≡◌, ◌<◌, ◌+◌, ◌-◌, ◌^◌, ◌⊎◌, ℕ, zero, suc, nat_lt, Bool, true, false, Some, None, [], ◌∷◌, if◌then◌else◌, refl}
use Rattle.std.proofs.Common.{ap, sym, ◌∙◌, arith, inl, inr}
use Rattle.std.proofs.lemmas.Bool.Decides.{nat_tests}
use Rattle.dh_syntax.specs.Expressions.Tree.{Row, Leaf, Node, end, kid, Name}
use Rattle.dh_syntax.specs.Names.Moves.{moved, moved_row}
use Rattle.dh_syntax.specs.Names.Nameless.{Ref, Bound, Free, Core, past}
use Rattle.dh_syntax.specs.Normalising.NamelessRuns.{ref_eq}
use Rattle.dh_syntax.proofs.Numbers.{eq-itself}
use Rattle.dh_norm.specs.References.{Apart, lower, renamer, opened}
use Rattle.dh_types.specs.Binding.{bound_ref, binding, bound_in}
use Rattle.dh_infer.specs.Inside.Levels.{past_level, moving, IsOf, IsOfBelow, entering}
use Rattle.dh_infer.specs.Inside.OpenTyping.{level}
use Rattle.dh_infer.proofs.Agreeing.{leaf-once, past-same, row-of, part-plain, rest-plain, part-bound, rest-bound, plain-kid, bound-kid}
use Rattle.dh_infer.proofs.LevelTypes.{not-this, low-number, fixed-number, number-of, bound-once, low-of}

-- where t changes nothing, what s makes of a variable is bound back
abbrev Back : ℕ → ℕ → Apart → Apart → Type 0
Back n k s t = (r : Ref) → t.fun r ≡ r → bound_ref n k (s.fun r) ≡ r

past-if : (b : Bool) (k : ℕ) (q : Ref) → (if b then Bound (suc k) else past q) ≡ past (if b then Bound k else q)
past-if true k q = refl
past-if false k q = refl

bound-past : (n k : ℕ) (q : Ref) → bound_ref n (suc k) (past q) ≡ past (bound_ref n k q)
bound-past n k (Bound j) = refl
bound-past n k (Free x m) = past-if (ref_eq (level n) (Free x m)) k (Free x m)

back-below : (n k : ℕ) (s t : Apart) → Back n k s t → Back n (suc k) (lower s) (lower t)
back-below n k s t h (Bound zero) p = refl
back-below n k s t h (Bound (suc i)) p = bound-past n k (s.fun (Bound i)) ∙ ap past (h (Bound i) (past-same (t.fun (Bound i)) (Bound i) p))
back-below n k s t h (Free x m) p = bound-past n k (s.fun (Free x m)) ∙ ap past (h (Free x m) (past-same (t.fun (Free x m)) (Free x m) p))

mutual
  bound-back : (n k : ℕ) (s t : Apart) → Back n k s t → (e : Core) → opened t e ≡ e → moved (binding n) k (opened s e) ≡ e
  bound-back n k s t h (Leaf r) p = ap Leaf (h r (leaf-once (t.fun r) r p))
  bound-back n k s t h (Node op r) p = ap (Node op) (bound_row-back n k s t h r (row-of op _ _ p))

  bound_row-back : (n k : ℕ) (s t : Apart) → Back n k s t → (r : Row Ref Name) → moved_row renamer t r ≡ r → moved_row (binding n) k (moved_row renamer s r) ≡ r
  bound_row-back n k s t h end p = refl
  bound_row-back n k s t h (kid None e r) p = plain-kid _ _ _ _ (bound-back n k s t h e (part-plain _ _ _ _ p)) (bound_row-back n k s t h r (rest-plain _ _ _ _ p))
  bound_row-back n k s t h (kid (Some x) e r) p =
      bound-kid x _ _ _ _ (bound-back n (suc k) (lower s) (lower t) (back-below n k s t h) e (part-bound x _ _ _ _ p)) (bound_row-back n k s t h r (rest-bound x _ _ _ _ p))

nearest-back : (n : ℕ) → bound_ref n 0 (level n) ≡ Bound 0
nearest-back n = ap (λ b. if b then Bound 0 else level n) (eq-itself (n + 2 ^ 32))

no-next : {P : Type 0} (i : ℕ) → suc i ≡ i → P
no-next i h = absurd (omega arith)

low-back : (n m : ℕ) → past_level n (Free [] m) ≡ Free [] m → bound_ref n 0 (past_level n (Free [] m)) ≡ Free [] m
low-back n m p =
    let l = fixed-number (n + 2 ^ 32) m (number-of _ _ _ _ p) in
    let k = low-of (n + 2 ^ 32) m l in
    ap (bound_ref n 0) p ∙ ap (λ b. if b then Bound 0 else Free [] m) (not-this (n + 2 ^ 32) m (λ e. omega arith))

entered-back : (n : ℕ) → Back n 0 (entering n) (lower (moving n))
entered-back n (Bound zero) p = nearest-back n
entered-back n (Bound (suc i)) p = no-next (suc i) (bound-once (suc (suc i)) (suc i) p)
entered-back n (Free [] m) p = low-back n m (past-same (past_level n (Free [] m)) (Free [] m) p)
entered-back n (Free (b ∷ x) m) p = refl

pub bound-opened : (n : ℕ) (v : Core) → IsOfBelow n v → bound_in n (opened (entering n) v) ≡ v
bound-opened n v h = bound-back n 0 (entering n) (lower (moving n)) (entered-back n) v h

-- ---- what is bound has variables of lower numbers alone

-- where s changes nothing, t changes nothing in what is bound
abbrev StillBound : ℕ → ℕ → Apart → Apart → Type 0
StillBound n k s t = (r : Ref) → s.fun r ≡ r → t.fun (bound_ref n k r) ≡ bound_ref n k r

below-past : (t : Apart) (q : Ref) → (lower t).fun (past q) ≡ past (t.fun q)
below-past t (Bound j) = refl
below-past t (Free x m) = refl

still-below : (n k : ℕ) (s t : Apart) → StillBound n k s t → StillBound n (suc k) (lower s) (lower t)
still-below n k s t h (Bound zero) p = refl
still-below n k s t h (Bound (suc i)) p =
    ap (lower t).fun (bound-past n k (Bound i)) ∙ below-past t (bound_ref n k (Bound i)) ∙ ap past (h (Bound i) (past-same (s.fun (Bound i)) (Bound i) p)) ∙ sym (bound-past n k (Bound i))
still-below n k s t h (Free x m) p =
    ap (lower t).fun (bound-past n k (Free x m)) ∙ below-past t (bound_ref n k (Free x m)) ∙ ap past (h (Free x m) (past-same (s.fun (Free x m)) (Free x m) p)) ∙ sym (bound-past n k (Free x m))

mutual
  still-bound : (n k : ℕ) (s t : Apart) → StillBound n k s t → (e : Core) → opened s e ≡ e → opened t (moved (binding n) k e) ≡ moved (binding n) k e
  still-bound n k s t h (Leaf r) p = ap Leaf (h r (leaf-once (s.fun r) r p))
  still-bound n k s t h (Node op r) p = ap (Node op) (still_row-bound n k s t h r (row-of op _ _ p))

  still_row-bound : (n k : ℕ) (s t : Apart) → StillBound n k s t → (r : Row Ref Name) → moved_row renamer s r ≡ r → moved_row renamer t (moved_row (binding n) k r) ≡ moved_row (binding n) k r
  still_row-bound n k s t h end p = refl
  still_row-bound n k s t h (kid None e r) p = plain-kid _ _ _ _ (still-bound n k s t h e (part-plain _ _ _ _ p)) (still_row-bound n k s t h r (rest-plain _ _ _ _ p))
  still_row-bound n k s t h (kid (Some x) e r) p =
      bound-kid x _ _ _ _ (still-bound n (suc k) (lower s) (lower t) (still-below n k s t h) e (part-bound x _ _ _ _ p)) (still_row-bound n k s t h r (rest-bound x _ _ _ _ p))

-- a variable of a number below one more
next-number : (n m : ℕ) → m < suc n + 2 ^ 32 → (m ≡ n + 2 ^ 32) ⊎ (m < n + 2 ^ 32)
next-number n m l = by (n + 2 ^ 32 - m) refl
  where
    by : (k : ℕ) → n + 2 ^ 32 - m ≡ k → (m ≡ n + 2 ^ 32) ⊎ (m < n + 2 ^ 32)
    by zero e = inl (omega arith)
    by (suc k) e = inr (omega arith)

below-number : (n m : ℕ) → m < n + 2 ^ 32 → nat_lt m (n + 2 ^ 32) ≡ true
below-number n m l = grind (arith, nat_tests)

level-bound : (n m : ℕ) → m < suc n + 2 ^ 32 → (lower (moving n)).fun (bound_ref n 0 (Free [] m)) ≡ bound_ref n 0 (Free [] m)
level-bound n m l = by (next-number n m l)
  where
    by : (m ≡ n + 2 ^ 32) ⊎ (m < n + 2 ^ 32) → (lower (moving n)).fun (bound_ref n 0 (Free [] m)) ≡ bound_ref n 0 (Free [] m)
    by (inl e) =
        let p : bound_ref n 0 (Free [] m) ≡ Bound 0 = ap (λ k. bound_ref n 0 (Free [] k)) e ∙ nearest-back n in
        ap (lower (moving n)).fun p ∙ sym p
    by (inr k) =
        let p : bound_ref n 0 (Free [] m) ≡ Free [] m = ap (λ b. if b then Bound 0 else Free [] m) (not-this (n + 2 ^ 32) m (λ e. omega arith)) in
        let q : past_level n (Free [] m) ≡ Free [] m = ap (Free []) (low-number (n + 2 ^ 32) m (below-number n m k)) in
        ap (lower (moving n)).fun p ∙ ap past q ∙ sym p

moving-bound : (n : ℕ) → StillBound n 0 (moving (suc n)) (lower (moving n))
moving-bound n (Bound i) p = no-next i (bound-once (suc i) i p)
moving-bound n (Free [] m) p = level-bound n m (low-of (suc n + 2 ^ 32) m (fixed-number (suc n + 2 ^ 32) m (number-of _ _ _ _ p)))
moving-bound n (Free (b ∷ x) m) p = refl

pub of-bound_in : (n : ℕ) (e : Core) → IsOf (suc n) e → IsOfBelow n (bound_in n e)
of-bound_in n e h = still-bound n 0 (moving (suc n)) (lower (moving n)) (moving-bound n) e h
