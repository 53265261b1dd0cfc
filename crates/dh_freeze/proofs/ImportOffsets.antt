-- No two imports of a text stand at one offset.
use Rattle.std.proofs.Common.{◌≡◌, ℕ, suc, ◌+◌, ◌≤◌, ◌<◌, Bool, true, false, List, [], ◌∷◌, map, length, refl, sym, ◌∙◌, subst, arith, inl, inr, zero-add}
use Rattle.std.specs.Prelude.{◌⊎◌, ◌==◌, not, ◌||◌, if◌then◌else◌}
use Rattle.std.proofs.lemmas.Bool.{eqb-true, eq-eqb}
use Rattle.dh_syntax.specs.declared.tokens.Token.{Token}
use Rattle.dh_syntax.specs.declared.tokens.TokenKind.{TokenKind}
use Rattle.dh_syntax.specs.Expressions.Tree.{Term}
use Rattle.dh_syntax.specs.Text.Derivation.{Derivation}
use Rattle.dh_syntax.specs.Text.Noting.{ends_before, noted}
use Rattle.dh_syntax.specs.Text.Offsets.{locating, SpellsWith}
use Rattle.dh_syntax.specs.Text.Spelling.{Derives}
use Rattle.dh_grammar.specs.Machine.{need, have, wait, done, stopped}
use Rattle.dh_grammar.specs.Running.{step, steps}
use Rattle.dh_grammar.specs.Trees.{State, after, gap_at}
use Rattle.dh_grammar.proofs.Grammar.MachineLaws.{accepts}
use Rattle.dh_grammar.proofs.Maps.Counting.{Counts, counts}
use Rattle.dh_freeze.specs.Distinct.{times, AreDistinct}
use Rattle.dh_freeze.proofs.Counting.{less_or}
use Rattle.dh_freeze.proofs.ImportNumbers.{good}
use Rattle.dh_freeze.proofs.TokenEnds.{Ends, tokens_end, later_ends}

-- ---- how many tokens a tree has

counts_next : (k : TokenKind) (n : ℕ) (s : State) → Counts locating n s → Counts locating (suc n) (after k s)
counts_next k n (need st) e = subst (λ n. Counts locating (suc n) (after k (need st))) e (counts locating k (need st))
counts_next k n (have st h) e = subst (λ n. Counts locating (suc n) (after k (have st h))) e (counts locating k (have st h))
counts_next k n (wait w st) e = subst (λ n. Counts locating (suc n) (after k (wait w st))) e (counts locating k (wait w st))
counts_next k n (done d) e = subst (λ n. Counts locating (suc n) (after k (done d))) e (counts locating k (done d))
counts_next k n stopped e = tt

counts_if : (b : Bool) (n : ℕ) (s : State) → Counts locating n s → Counts locating n (if b then s else stopped)
counts_if true n s h = h
counts_if false n s h = tt

counts_steps : (ts : List Token) (n : ℕ) (s : State) → Counts locating n s → Counts locating (n + length ts) (steps s ts)
counts_steps [] n s h = subst (λ m. Counts locating m s) (omega arith) h
counts_steps (t ∷ ts) n s h =
    subst (λ m. Counts locating m (steps (step s t) ts)) (omega arith)
    (counts_steps ts (suc n) (step s t) (counts_if (not (gap_at s t.kind) || t.gap) (suc n) (after t.kind s) (counts_next t.kind n s h)))

tokens_counted : (ts : List Token) (d : Derivation) → Derives ts d → suc (noted locating d 0).1 ≡ length ts
tokens_counted ts d h = subst (Counts locating (0 + length ts)) ((accepts ts d).1 h) (counts_steps ts 0 (need []) refl) ∙ zero-add (length ts)

-- ---- offsets of different numbers differ

module _ (f : ℕ → ℕ) (m : ℕ) (apart : (a b : ℕ) → a < m → b < m → f a ≡ f b → a ≡ b) where
  -- a number that is there, and gives this offset; or none does
  found : (o : ℕ) (xs : List ℕ) → (times o (map f xs) ≡ 0) ⊎ ((a : ℕ) × (0 < times a xs) × (f a ≡ o))
  found o [] = inl refl
  found o (x ∷ xs) = by_first (f x == o) refl (found o xs)
    where
      more : (a : ℕ) → 0 < times a xs → 0 < times a (x ∷ xs)
      more a h = go (x == a)
        where
          go : (b : Bool) → 0 < (if b then suc (times a xs) else times a xs)
          go true = omega arith
          go false = h

      here : 0 < times x (x ∷ xs)
      here = go (x == x) (eq-eqb x x refl)
        where
          go : (b : Bool) → b ≡ true → 0 < (if b then suc (times x xs) else times x xs)
          go true e = omega arith
          go false e = absurd cc

      by_first : (b : Bool) → (f x == o) ≡ b → (times o (map f xs) ≡ 0) ⊎ ((a : ℕ) × (0 < times a xs) × (f a ≡ o))
          → ((if b then suc (times o (map f xs)) else times o (map f xs)) ≡ 0) ⊎ ((a : ℕ) × (0 < times a (x ∷ xs)) × (f a ≡ o))
      by_first true e r = inr (x, here, eqb-true (f x) o e)
      by_first false e (inl z) = inl z
      by_first false e (inr r) = inr (r.0, more r.0 r.1, r.2)

  below_first : (x : ℕ) (xs : List ℕ) → ((a : ℕ) → m ≤ a → times a (x ∷ xs) ≡ 0) → x < m
  below_first x xs h = go (less_or x m)
    where
      go : (x < m) ⊎ (m ≤ x) → x < m
      go (inl l) = l
      go (inr l) = absurd (there (x == x) (eq-eqb x x refl) (h x l))
        where
          there : (b : Bool) → b ≡ true → (if b then suc (times x xs) else times x xs) ≡ 0 → ⊥
          there true e z = omega arith
          there false e z = cc

  fewer_rest : (x : ℕ) (xs : List ℕ) → ((a : ℕ) → m ≤ a → times a (x ∷ xs) ≡ 0) → (a : ℕ) → m ≤ a → times a xs ≡ 0
  fewer_rest x xs h a l = go (x == a) (h a l)
    where
      go : (b : Bool) → (if b then suc (times a xs) else times a xs) ≡ 0 → times a xs ≡ 0
      go true e = absurd (omega arith)
      go false e = e

  -- a number stands there as often as its offset
  as_often : (a : ℕ) (xs : List ℕ) → a < m → ((b : ℕ) → m ≤ b → times b xs ≡ 0) → times (f a) (map f xs) ≤ times a xs
  as_often a [] l h = omega arith
  as_often a (x ∷ xs) l h = go (f x == f a) (x == a) refl refl (as_often a xs l (fewer_rest x xs h))
    where
      go : (b c : Bool) → (f x == f a) ≡ b → (x == a) ≡ c → times (f a) (map f xs) ≤ times a xs → (if b then suc (times (f a) (map f xs)) else times (f a) (map f xs)) ≤ (if c then suc (times a xs) else times a xs)
      go true true p q r = omega arith
      go true false p q r = absurd (let e = eq-eqb x a (apart x a (below_first x xs h) l (eqb-true (f x) (f a) p)) in cc)
      go false true p q r = omega arith
      go false false p q r = r

  pub distinct_map : (xs : List ℕ) → AreDistinct xs → ((a : ℕ) → m ≤ a → times a xs ≡ 0) → AreDistinct (map f xs)
  distinct_map xs d h o = go (found o xs)
    where
      go : (times o (map f xs) ≡ 0) ⊎ ((a : ℕ) × (0 < times a xs) × (f a ≡ o)) → times o (map f xs) ≤ 1
      go (inl z) = omega arith
      go (inr r) = subst (λ o. times o (map f xs) ≤ 1) r.2 (let few = as_often r.0 xs (inside (less_or r.0 m)) h in let once = d r.0 in omega arith)
        where
          inside : (r.0 < m) ⊎ (m ≤ r.0) → r.0 < m
          inside (inl l) = l
          inside (inr l) = absurd (let z = h r.0 l in let s = r.1 in omega arith)

-- ---- the offsets of a text

ends_apart : (ts : List Token) → Ends 0 ts → (m : ℕ) → suc m ≡ length ts → (a b : ℕ) → a < m → b < m → ends_before ts (suc a) ≡ ends_before ts (suc b) → a ≡ b
ends_apart ts h m e a b l k p = go (less_or a b) (less_or b a)
  where
    go : (a < b) ⊎ (b ≤ a) → (b < a) ⊎ (a ≤ b) → a ≡ b
    go (inl x) r = absurd (let y = later_ends 0 ts a b x (omega arith) h in omega arith)
    go (inr x) (inl y) = absurd (let z = later_ends 0 ts b a y (omega arith) h in omega arith)
    go (inr x) (inr y) = omega arith

pub offsets_are_distinct : (bytes : List ℕ) (e : Term) (offsets : List ℕ) → SpellsWith bytes e offsets → AreDistinct offsets
offsets_are_distinct bytes e offsets (s, is) =
    let ts = s.tokens in
    let w = good s.tree 0 in
    let n = (noted locating s.tree 0).1 in
    let counted : suc n ≡ length ts = tokens_counted ts s.tree s.derives in
    subst AreDistinct (sym is)
    (distinct_map (λ i. ends_before ts (suc i)) n (ends_apart ts (tokens_end bytes ts s.lexed) n counted) (noted locating s.tree 0).0 (λ a. w.once a) (λ a l. w.below a l))
