-- A key is put on a pile, and taken from it.
use Rattle.std.specs.Prelude.{◌≡◌, ◌<◌, ◌≤◌, ◌+◌, ℕ, zero, suc, if◌then◌else◌, sum_by, List, [], ◌∷◌, ◌++◌, length, slice_index_or, slice_set, replicate, refl}
use Rattle.std.proofs.Common.{ap, sym, ◌∙◌, subst, arith, inl, inr}
use Rattle.std.proofs.lemmas.Bool.{cases_lt}
use Rattle.std.proofs.lemmas.Bool.Decides.{eqb_tells}
use Rattle.std.proofs.lemmas.List.{get_or-set_same, get_or-set_other, length-set, length-replicate}
use Rattle.std.proofs.lemmas.List.Sums.{sum_by-set}
use Rattle.std.proofs.Math.Dec.{eqb}
use Rattle.std.proofs.Math.ListN.{get_or-eq_default}
use Rattle.dh_table.specs.Inside.Piling.{ArePiled, IsBare, IsChain, IsOn, IsOnce, IsPile, number_at}

-- a chain stays where the link of a key that is not on it changes
chain_kept : (below : List ℕ) (n v top : ℕ) (ns : List ℕ) → ¬ IsOn n ns → IsChain below top ns → IsChain (slice_set below n v) top ns
chain_kept below n v top [] f c = c
chain_kept below n v top (m ∷ ms) f c =
    (c.0, subst (λ t. IsChain (slice_set below n v) t ms) (sym (get_or-set_other below n m v 0 (λ p. f (inl p)))) (chain_kept below n v (number_at below m) ms (λ o. f (inr o)) c.1))

on-same : (ns : List ℕ) (m n : ℕ) → m ≡ n → IsOn m ns → IsOn n ns
on-same ns m n p o = subst (λ z. IsOn z ns) p o

-- a key with a place is there
pub placed_inside : (places : List ℕ) (n p : ℕ) → 2 ≤ p → number_at places n ≡ p → n < length places
placed_inside places n p two e =
    elim (cases_lt n (length places)) [
      | inl l ↦ l
      | inr g ↦ (let d : number_at places n ≡ 0 = get_or-eq_default places 0 g in let x : ⊥ = omega arith in absurd x)
    ]

module _ (places tops below : List ℕ) (p n : ℕ) (two : 2 ≤ p) (wide : p < length tops) (deep : n < length below) (there : n < length places) (free : number_at places n < 2) where
  off : (q : ℕ) (x : IsPile places tops below q) → IsOn n x.keys → ⊥
  off q x o = let h = x.placed n o in let a = h.0 in let b = h.1 in omega arith

  onto : List ℕ
  onto = slice_set places n p

  own : IsPile places tops below p → IsPile (slice_set places n p) (slice_set tops p (suc n)) (slice_set below n (number_at tops p)) p
  own x = record {
    keys = n ∷ x.keys;
    chain = (
      get_or-set_same tops p (suc n) 0 wide,
      subst (λ t. IsChain (slice_set below n (number_at tops p)) t x.keys) (sym (get_or-set_same below n (number_at tops p) 0 deep))
          (chain_kept below n (number_at tops p) (number_at tops p) x.keys (off p x) x.chain),
    );
    once = (off p x, x.once);
    placed = λ m o. (placed m o, two);
    all =
        λ m h e.
        elim (eqb_tells m n) [
          | inl q ↦ inl (sym q.1)
          | inr q ↦ inr (x.all m h (sym (get_or-set_other places n m p 0 q.1) ∙ e))
        ];
  }
    where
      placed : (m : ℕ) → IsOn m (n ∷ x.keys) → number_at (slice_set places n p) m ≡ p
      placed m (inl e) = subst (λ z. number_at (slice_set places n p) z ≡ p) e (get_or-set_same places n p 0 there)
      placed m (inr o) = get_or-set_other places n m p 0 (λ e. off p x (on-same x.keys m n e o)) ∙ (x.placed m o).0

  other : (q : ℕ) → (q ≡ p → ⊥) → IsPile places tops below q → IsPile (slice_set places n p) (slice_set tops p (suc n)) (slice_set below n (number_at tops p)) q
  other q ne x = record {
    keys = x.keys;
    chain =
        subst (λ t. IsChain (slice_set below n (number_at tops p)) t x.keys) (sym (get_or-set_other tops p q (suc n) 0 ne))
        (chain_kept below n (number_at tops p) (number_at tops q) x.keys (off q x) x.chain);
    once = x.once;
    placed = λ m o. (get_or-set_other places n m p 0 (λ e. off q x (on-same x.keys m n e o)) ∙ (x.placed m o).0, (x.placed m o).1);
    all =
        λ m h e.
        elim (eqb_tells m n) [
          | inl y ↦ absurd (ne (sym e ∙ ap (number_at (slice_set places n p)) y.1 ∙ get_or-set_same places n p 0 there))
          | inr y ↦ x.all m h (sym (get_or-set_other places n m p 0 y.1) ∙ e)
        ];
  }

  pub pushed : ArePiled places tops below → ArePiled (slice_set places n p) (slice_set tops p (suc n)) (slice_set below n (number_at tops p))
  pushed a = record {
    wide = let u = a.wide in let v = length-set places n p in let w = length-set tops p (suc n) in omega arith;
    deep = let u = a.deep in let v = length-set places n p in let w = length-set below n (number_at tops p) in omega arith;
    piles =
        λ q.
        elim (eqb_tells q p) [
          | inl e ↦ subst (IsPile (slice_set places n p) (slice_set tops p (suc n)) (slice_set below n (number_at tops p))) (sym e.1) (own (a.piles p))
          | inr e ↦ other q e.1 (a.piles q)
        ];
  }

-- the key on top of a pile
module _ (places tops below : List ℕ) (p n : ℕ) (two : 2 ≤ p) (wide : p < length tops) (top : number_at tops p ≡ suc n) (a : ArePiled places tops below) where
  pub top_placed : number_at places n ≡ p
  top_placed = let x = a.piles p in go x.keys x.chain (λ m o. (x.placed m o).0)
    where
      go : (ks : List ℕ) → IsChain below (number_at tops p) ks → ((m : ℕ) → IsOn m ks → number_at places m ≡ p) → number_at places n ≡ p
      go [] c f = let h : ⊥ = omega arith in absurd h
      go (k ∷ ks) c f = let e : k ≡ n = let h = c.0 in omega arith in f n (inl e)

  pub top_inside : n < length places
  top_inside = placed_inside places n p two top_placed

  popped_own : IsPile places tops below p → IsPile (slice_set places n 1) (slice_set tops p (number_at below n)) below p
  popped_own x = go x.keys x.chain x.once x.placed x.all
    where
      go : (ks : List ℕ) → IsChain below (number_at tops p) ks → IsOnce ks → ((m : ℕ) → IsOn m ks → (number_at places m ≡ p) × (2 ≤ p)) → ((m : ℕ) → 2 ≤ p → number_at places m ≡ p → IsOn m ks)
          → IsPile (slice_set places n 1) (slice_set tops p (number_at below n)) below p
      go [] c o f g = let h : ⊥ = omega arith in absurd h
      go (k ∷ ks) c o f g =
          let e : k ≡ n = let h = c.0 in omega arith in
          record {
            keys = ks;
            chain = subst (λ t. IsChain below t ks) (sym (get_or-set_same tops p (number_at below n) 0 wide)) (subst (λ z. IsChain below (number_at below z) ks) e c.1);
            once = o.1;
            placed = λ m i. (get_or-set_other places n m 1 0 (λ q. o.0 (on-same ks m k (q ∙ sym e) i)) ∙ (f m (inr i)).0, two);
            all = λ m h q. later ks k m e (g m h (before m q)) (apart m q);
          }
        where
          apart : (m : ℕ) → number_at (slice_set places n 1) m ≡ p → m ≡ n → ⊥
          apart m q y =
              let z : number_at (slice_set places n 1) m ≡ 1 = ap (number_at (slice_set places n 1)) y ∙ get_or-set_same places n 1 0 top_inside in
              omega arith

          before : (m : ℕ) → number_at (slice_set places n 1) m ≡ p → number_at places m ≡ p
          before m q = sym (get_or-set_other places n m 1 0 (apart m q)) ∙ q

          later : (ks' : List ℕ) (k' m : ℕ) → k' ≡ n → IsOn m (k' ∷ ks') → (m ≡ n → ⊥) → IsOn m ks'
          later ks' k' m e (inl q) ne = absurd (ne (sym q ∙ e))
          later ks' k' m e (inr i) ne = i

  popped_other : (q : ℕ) → (q ≡ p → ⊥) → IsPile places tops below q → IsPile (slice_set places n 1) (slice_set tops p (number_at below n)) below q
  popped_other q ne x = record {
    keys = x.keys;
    chain = subst (λ t. IsChain below t x.keys) (sym (get_or-set_other tops p q (number_at below n) 0 ne)) x.chain;
    once = x.once;
    placed = λ m o. (get_or-set_other places n m 1 0 (λ e. ne (sym (x.placed m o).0 ∙ ap (number_at places) e ∙ top_placed)) ∙ (x.placed m o).0, (x.placed m o).1);
    all =
        λ m h e.
        elim (eqb_tells m n) [
          | inl y ↦ (let z : number_at (slice_set places n 1) m ≡ 1 = ap (number_at (slice_set places n 1)) y.1 ∙ get_or-set_same places n 1 0 top_inside in let w : ⊥ = omega arith in absurd w)
          | inr y ↦ x.all m h (sym (get_or-set_other places n m 1 0 y.1) ∙ e)
        ];
  }

  pub popped : ArePiled (slice_set places n 1) (slice_set tops p (number_at below n)) below
  popped = record {
    wide = let u = a.wide in let v = length-set places n 1 in let w = length-set tops p (number_at below n) in omega arith;
    deep = let u = a.deep in let v = length-set places n 1 in omega arith;
    piles =
        λ q.
        elim (eqb_tells q p) [
          | inl e ↦ subst (IsPile (slice_set places n 1) (slice_set tops p (number_at below n)) below) (sym e.1) (popped_own (a.piles p))
          | inr e ↦ popped_other q e.1 (a.piles q)
        ];
  }

pub bare : (places tops below : List ℕ) (p : ℕ) → 2 ≤ p → number_at tops p ≡ 0 → ArePiled places tops below → IsBare p places
bare places tops below p two top a n e = let x = a.piles p in go x.keys x.chain (x.all n two e)
  where
    go : (ks : List ℕ) → IsChain below (number_at tops p) ks → IsOn n ks → ⊥
    go [] c o = o
    go (k ∷ ks) c o = let h = c.0 in omega arith

-- ---- an element that is there, whatever stands for one that is not

pub at_any : (ns : List ℕ) (i d e : ℕ) → i < length ns → slice_index_or ns i d ≡ slice_index_or ns i e
at_any [] i d e l = let w : ⊥ = omega arith in absurd w
at_any (n ∷ ns) zero d e l = refl
at_any (n ∷ ns) (suc i) d e l = at_any ns i d e (omega arith)

-- ---- more room

chain_same : (below below' : List ℕ) → ((n : ℕ) → number_at below' n ≡ number_at below n) → (top : ℕ) (ns : List ℕ) → IsChain below top ns → IsChain below' top ns
chain_same below below' same top [] c = c
chain_same below below' same top (n ∷ ns) c = (c.0, subst (λ t. IsChain below' t ns) (sym (same n)) (chain_same below below' same (number_at below n) ns c.1))

pub zero_more : (ns : List ℕ) (n : ℕ) → number_at (ns ++ 0 ∷ []) n ≡ number_at ns n
zero_more [] zero = refl
zero_more [] (suc n) = refl
zero_more (m ∷ ms) zero = refl
zero_more (m ∷ ms) (suc n) = zero_more ms n

pub zeros : (k n : ℕ) → number_at (replicate k 0) n ≡ 0
zeros zero n = refl
zeros (suc k) zero = refl
zeros (suc k) (suc n) = zeros k n

pub widened : (places places' tops tops' below below' : List ℕ) → ((n : ℕ) → number_at places' n ≡ number_at places n) → ((n : ℕ) → number_at tops' n ≡ number_at tops n) → ((n : ℕ) → number_at below' n ≡ number_at below n)
    → length places' + 4 ≤ length tops' → length places' ≤ length below' → ArePiled places tops below → ArePiled places' tops' below'
widened places places' tops tops' below below' p q r wide deep a = record {
  wide = wide;
  deep = deep;
  piles =
      λ i.
      let x = a.piles i in
      record {
        keys = x.keys;
        chain = subst (λ t. IsChain below' t x.keys) (sym (q i)) (chain_same below below' r (number_at tops i) x.keys x.chain);
        once = x.once;
        placed = λ n o. (p n ∙ (x.placed n o).0, (x.placed n o).1);
        all = λ n h e. x.all n h (sym (p n) ∙ e);
      };
}

pub cleared : (k m : ℕ) (below : List ℕ) → k + 4 ≤ m → k ≤ length below → ArePiled (replicate k 0) (replicate m 0) below
cleared k m below wide deep = record {
  wide = let u : length (replicate {A = ℕ} k 0) ≡ k = length-replicate k 0 in let v : length (replicate {A = ℕ} m 0) ≡ m = length-replicate m 0 in omega arith;
  deep = let u : length (replicate {A = ℕ} k 0) ≡ k = length-replicate k 0 in omega arith;
  piles =
      λ i.
      record {
        keys = [];
        chain = zeros m i;
        once = tt;
        placed = λ n o. absurd o;
        all = λ n h e. (let z = zeros k n in let w : ⊥ = omega arith in absurd w);
      };
}

-- ---- a pile is poured on another

abbrev pub one_if : ℕ → ℕ → ℕ
one_if p n = if eqb n p then 1 else 0

pub on_pile : (p n : ℕ) → n ≡ p → one_if p n ≡ 1
on_pile p n e = elim (eqb_tells n p) [ inl q ↦ ap (λ b. if b then 1 else 0) q.0 | inr q ↦ absurd (q.1 e) ]

pub off_pile : (p n : ℕ) → (n ≡ p → ⊥) → one_if p n ≡ 0
off_pile p n e = elim (eqb_tells n p) [ inl q ↦ absurd (e q.1) | inr q ↦ ap (λ b. if b then 1 else 0) q.0 ]

pub fewer_on : (places : List ℕ) (p q n : ℕ) → n < length places → number_at places n ≡ p → (q ≡ p → ⊥) → sum_by (one_if p) (slice_set places n q) < sum_by (one_if p) places
fewer_on places p q n l e ne =
    let a = sum_by-set (one_if p) places n q 0 l in
    let b = on_pile p (number_at places n) e in
    let c = off_pile p q ne in
    omega arith

-- a key that is taken from a pile and put on another
pub moved_on : (places : List ℕ) (p q n : ℕ) → n < length places → 2 ≤ p → number_at places n ≡ p → (q ≡ p → ⊥) → sum_by (one_if p) (slice_set (slice_set places n 1) n q) < sum_by (one_if p) places
moved_on places p q n l two e ne =
    let a = fewer_on places p 1 n l e (omega arith) in
    let b = sum_by-set (one_if p) (slice_set places n 1) n q 0 (let k = length-set places n 1 in omega arith) in
    let g = get_or-set_same places n 1 0 l in
    let c = off_pile p (number_at (slice_set places n 1) n) (omega arith) in
    let d = off_pile p q ne in
    omega arith
