-- So many keys are visited.
use Rattle.std.specs.Prelude.{◌≡◌, ◌⊎◌, ◌≤◌, ◌+◌, ◌++◌, suc, true, false, if◌then◌else◌, List, [], ◌∷◌, length, refl}
use Rattle.std.proofs.Common.{ap, sym, ◌∙◌, subst, inl, inr, arith}
use Rattle.std.proofs.lemmas.List.{length-append}
use Rattle.dh_syntax.specs.declared.locations.Key.{Key}
use Rattle.dh_syntax.specs.Imports.Keys.{key_eq}
use Rattle.dh_laws.proofs.KeyOrder.{bool-case, true_false, key_eq-itself, key_eq-true}
use Rattle.dh_imports.specs.Machine.{IsAmong}
use Rattle.dh_watch_laws.specs.Counting.{ManyAreVisited, ManyAreNoMore}
use Rattle.dh_watch_laws.specs.Kept.{Outcomes}
use Rattle.dh_watch_laws.specs.Running.{keys_of_outcomes, AreApart}
use Rattle.dh_watch_laws.proofs.Needing.{in-of}
use Rattle.dh_watch_laws.proofs.Running.{runs_add}

pub keys-length : (l : Outcomes) → length (keys_of_outcomes l) ≡ length l
keys-length [] = refl
keys-length (p ∷ l) = ap suc (keys-length l)

pub many_are_visited : ManyAreVisited
many_are_visited old s root trail n h run c =
    let a = runs_add old s root trail h run in
    record {
      keys = trail ++ keys_of_outcomes a.found;
      apart = a.apart;
      visited = a.visited;
      count = omega (arith, c, length-append trail (keys_of_outcomes a.found), keys-length a.found, ap (λ z. length z) a.outcomes, length-append a.found old.outcomes);
    }

-- ---- no more keys than all

without : Key → List Key → List Key
without k [] = []
without k (x ∷ xs) = if key_eq x k then without k xs else x ∷ without k xs

kept-in : (k x : Key) (ys : List Key) → IsAmong x ys → ¬ (k ≡ x) → IsAmong x (without k ys)
unfolding without
kept-in k x [] m n = m
kept-in k x (y ∷ ys) m n = go (bool-case (key_eq y k)) m (λ q. kept-in k x ys q n)
  where
    go : (key_eq y k ≡ true) ⊎ (key_eq y k ≡ false) → IsAmong x (y ∷ ys) → (IsAmong x ys → IsAmong x (without k ys)) → IsAmong x (if key_eq y k then without k ys else y ∷ without k ys)
    go (inl t) (inl p) i = absurd (n (sym (key_eq-true y k t) ∙ p))
    go (inl t) (inr q) i = subst (λ b. IsAmong x (if b then without k ys else y ∷ without k ys)) (sym t) (i q)
    go (inr f) (inl p) i = subst (λ b. IsAmong x (if b then without k ys else y ∷ without k ys)) (sym f) (inl p)
    go (inr f) (inr q) i = subst (λ b. IsAmong x (if b then without k ys else y ∷ without k ys)) (sym f) (inr (i q))

no-more : (k : Key) (ys : List Key) → length (without k ys) ≤ length ys
unfolding without
no-more k [] = omega arith
no-more k (y ∷ ys) = go (bool-case (key_eq y k)) (no-more k ys)
  where
    go : (key_eq y k ≡ true) ⊎ (key_eq y k ≡ false) → length (without k ys) ≤ length ys → length (if key_eq y k then without k ys else y ∷ without k ys) ≤ length (y ∷ ys)
    go (inl t) i = omega (arith, i, ap (λ b. length (if b then without k ys else y ∷ without k ys)) t)
    go (inr f) i = omega (arith, i, ap (λ b. length (if b then without k ys else y ∷ without k ys)) f)

fewer : (k : Key) (ys : List Key) → IsAmong k ys → length (without k ys) + 1 ≤ length ys
unfolding without
fewer k [] m = absurd m
fewer k (y ∷ ys) m = go (bool-case (key_eq y k)) m (λ q. fewer k ys q) (no-more k ys)
  where
    go : (key_eq y k ≡ true) ⊎ (key_eq y k ≡ false) → IsAmong k (y ∷ ys) → (IsAmong k ys → length (without k ys) + 1 ≤ length ys) → length (without k ys) ≤ length ys
        → length (if key_eq y k then without k ys else y ∷ without k ys) + 1 ≤ length (y ∷ ys)
    go (inl t) q i l = omega (arith, l, ap (λ b. length (if b then without k ys else y ∷ without k ys)) t)
    go (inr f) (inl p) i l = true_false (subst (λ z. key_eq y z ≡ true) p (key_eq-itself y)) f
    go (inr f) (inr q) i l = omega (arith, i q, ap (λ b. length (if b then without k ys else y ∷ without k ys)) f)

pub keys-no-longer : (xs ys : List Key) → AreApart xs → ((k : Key) → IsAmong k xs → IsAmong k ys) → length xs ≤ length ys
keys-no-longer [] ys a f = omega arith
keys-no-longer (x ∷ xs) ys a f =
    let less = keys-no-longer xs (without x ys) a.1 (λ k m. kept-in x k ys (f k (inr m)) (λ e. true_false (in-of x xs (subst (λ z. IsAmong z xs) (sym e) m)) a.0)) in
    omega (arith, less, fewer x ys (f x (inl refl)))

pub many_are_no_more : ManyAreNoMore
many_are_no_more s root ask m n more a b =
    let less = keys-no-longer a.keys b.keys a.apart (λ k i. (b.members k).1 (a.visited k i ask more)) in
    omega (arith, less, a.count, b.count)
