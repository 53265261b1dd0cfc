-- A run keeps one list of cache entries: two ascending lists with the same elements are one.
use Rattle.std.specs.Prelude.{◌≡◌, ◌⊎◌, ℕ, true, List, [], ◌∷◌, refl}
use Rattle.std.proofs.Common.{ap, sym, ◌∙◌, subst, inl, inr}
use Rattle.dh_syntax.specs.declared.locations.Digest.{Digest}
use Rattle.dh_syntax.specs.Expressions.Order.{before, ascending}
use Rattle.dh_imports.specs.Keeps.{digests_of}
use Rattle.dh_imports.specs.Machine.{IsAmong}
use Rattle.dh_syntax.proofs.Numbers.{and-true_left, and-true_right}
use Rattle.dh_syntax.proofs.Order.{before_irreflexive, before-transitive}
use Rattle.dh_laws.proofs.KeyOrder.{true_false}
use Rattle.dh_import_laws.specs.ImportLaws.{OneListOfKeeps}

-- a cache entry by its digest
abbrev Entry : Type 0
Entry = Digest × List ℕ

abbrev name : Entry → List ℕ
name p = (p.0).0

ascends : (p : Entry) (ps : List Entry) → ascending (digests_of (p ∷ ps)) ≡ true → ascending (digests_of ps) ≡ true
ascends p [] h = refl
ascends p (q ∷ ps) h = and-true_right _ _ h

first_is_least : (p q : Entry) (ps : List Entry) → ascending (digests_of (p ∷ ps)) ≡ true → IsAmong q ps → before (name p) (name q) ≡ true
first_is_least p q [] h m = absurd m
first_is_least p q (x ∷ ps) h (inl e) = subst (λ y. before (name p) (name y) ≡ true) e (and-true_left _ _ h)
first_is_least p q (x ∷ ps) h (inr m) = before-transitive (name p) (name x) (name q) (and-true_left _ _ h) (first_is_least x q ps (and-true_right _ _ h) m)

not_before_itself : {P : Type 0} (p : Entry) → before (name p) (name p) ≡ true → P
not_before_itself p h = true_false h (before_irreflexive (name p))

-- the first list has no element that the second lacks
abbrev IsWithin : List Entry → List Entry → Type 0
IsWithin ps qs = (x : Entry) → IsAmong x ps → IsAmong x qs

first_same : (p q : Entry) (ps qs : List Entry) → ascending (digests_of (p ∷ ps)) ≡ true → ascending (digests_of (q ∷ qs)) ≡ true
    → IsWithin (p ∷ ps) (q ∷ qs) → IsWithin (q ∷ qs) (p ∷ ps) → p ≡ q
first_same p q ps qs a b f g = go (f p (inl refl)) (g q (inl refl))
  where
    go : (q ≡ p) ⊎ IsAmong p qs → (p ≡ q) ⊎ IsAmong q ps → p ≡ q
    go (inl e) m = sym e
    go (inr m) (inl e) = e
    go (inr m) (inr n) = not_before_itself p (before-transitive (name p) (name q) (name p) (first_is_least p q ps a n) (first_is_least q p qs b m))

rest_within : (p : Entry) (ps qs : List Entry) → ascending (digests_of (p ∷ ps)) ≡ true → IsWithin (p ∷ ps) (p ∷ qs) → IsWithin ps qs
rest_within p ps qs a f x m = go (f x (inr m))
  where
    go : (p ≡ x) ⊎ IsAmong x qs → IsAmong x qs
    go (inl e) = not_before_itself x (subst (λ y. before (name y) (name x) ≡ true) e (first_is_least p x ps a m))
    go (inr n) = n

same_lists : (ps qs : List Entry) → ascending (digests_of ps) ≡ true → ascending (digests_of qs) ≡ true → IsWithin ps qs → IsWithin qs ps → ps ≡ qs
same_lists [] [] a b f g = refl
same_lists [] (q ∷ qs) a b f g = absurd (g q (inl refl))
same_lists (p ∷ ps) [] a b f g = absurd (f p (inl refl))
same_lists (p ∷ ps) (q ∷ qs) a b f g =
    let e = first_same p q ps qs a b f g in
    let b' = subst (λ x. ascending (digests_of (x ∷ qs)) ≡ true) (sym e) b in
    let f' = subst (λ x. IsWithin (p ∷ ps) (x ∷ qs)) (sym e) f in
    let g' = subst (λ x. IsWithin (x ∷ qs) (p ∷ ps)) (sym e) g in
    ap (λ x. x ∷ ps) e
    ∙ ap (λ xs. q ∷ xs) (same_lists ps qs (ascends p ps a) (ascends p qs b') (rest_within p ps qs a f') (rest_within p qs ps b' g'))

pub one_list_of_keeps : OneListOfKeeps
one_list_of_keeps r ask root kept others h k =
    same_lists kept others h.sorted k.sorted (λ x m. (k.members x).1 ((h.members x).0 m)) (λ x m. (h.members x).1 ((k.members x).0 m))
