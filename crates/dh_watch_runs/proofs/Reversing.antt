-- Trails of numbers, and of the keys that they name.
use Rattle.std.specs.Prelude.{◌≡◌, ◌<◌, ℕ, Bool, true, false, ◌||◌, List, [], ◌∷◌, ◌++◌, All, length, map, reverse, Result, Ok, Err, IfErr, refl}
use Rattle.std.proofs.Common.{ap, sym, ◌∙◌, subst}
use Rattle.std.proofs.lemmas.List.{reverse-append, reverse-reverse, get_or_append_left, map-append}
use Rattle.std.proofs.lemmas.List.Elements.{All-push, All-head, All-tail}
use Rattle.dh_syntax.specs.declared.locations.Key.{Key}
use Rattle.dh_syntax.specs.Imports.Keys.{key_eq}
use Rattle.dh_imports.specs.Resolver.{is_in}
use Rattle.dh_watch_runs.specs.Resolving.{named, no_key, trail_of, AreMore}

-- ---- reversed lists

reverse-cons : {A : Type 0} (x : A) (xs : List A) → reverse (x ∷ xs) ≡ reverse xs ++ x ∷ []
reverse-cons x xs = reverse-append (x ∷ []) xs

pub All-reverse : {A : Type 0} (P : A → Type 0) (xs : List A) → All P xs → All P (reverse xs)
All-reverse P [] h = h
All-reverse P (x ∷ xs) h = subst (All P) (sym (reverse-cons x xs)) (All-push P (reverse xs) x (All-reverse P xs (All-tail P x xs h)) (All-head P x xs h))

pub map-reverse : {A B : Type 0} (f : A → B) (xs : List A) → map f (reverse xs) ≡ reverse (map f xs)
map-reverse f [] = refl
map-reverse f (x ∷ xs) =
    ap (map f) (reverse-cons x xs) ∙ map-append f (reverse xs) (x ∷ []) ∙ ap (λ ys. ys ++ f x ∷ []) (map-reverse f xs) ∙ sym (reverse-cons (f x) (map f xs))

or_turned : (a b c : Bool) → (a || b) || c ≡ a || (b || c)
or_turned true b c = refl
or_turned false b c = refl

in-append : (k : Key) (xs ys : List Key) → is_in k (xs ++ ys) ≡ is_in k xs || is_in k ys
in-append k [] ys = refl
in-append k (x ∷ xs) ys = ap (λ b. key_eq x k || b) (in-append k xs ys) ∙ sym (or_turned (key_eq x k) (is_in k xs) (is_in k ys))

or_last : (a b : Bool) → b || (a || false) ≡ a || b
or_last true true = refl
or_last true false = refl
or_last false true = refl
or_last false false = refl

pub in-reverse : (k : Key) (xs : List Key) → is_in k (reverse xs) ≡ is_in k xs
in-reverse k [] = refl
in-reverse k (x ∷ xs) =
    ap (is_in k) (reverse-cons x xs) ∙ in-append k (reverse xs) (x ∷ []) ∙ ap (λ b. b || (key_eq x k || false)) (in-reverse k xs) ∙ or_last (key_eq x k) (is_in k xs)

-- the numbers of a trail, the latest last
pub numbers-inside : (P : ℕ → Type 0) (ns trail : List ℕ) → reverse ns ≡ trail → All P trail → All P ns
numbers-inside P ns trail e h = subst (All P) (ap reverse (sym e) ∙ reverse-reverse ns) (All-reverse P trail h)

pub trail-numbers : (keys : List Key) (ns trail : List ℕ) → reverse ns ≡ trail → reverse (map (named keys) ns) ≡ trail_of keys trail
trail-numbers keys ns trail e = sym (map-reverse (named keys) ns) ∙ ap (trail_of keys) e

-- ---- more keys

pub named-more : (keys more : List Key) → AreMore keys more → (n : ℕ) → n < length keys → named more n ≡ named keys n
named-more keys more (ks, e) n h = ap (λ z. named z n) e ∙ get_or_append_left keys ks no_key n h

pub trail-more : (keys more : List Key) → AreMore keys more → (ns : List ℕ) → All (λ (n : ℕ). n < length keys) ns → trail_of more ns ≡ trail_of keys ns
trail-more keys more a [] h = refl
trail-more keys more a (n ∷ ns) h =
    ap (λ z. z ∷ trail_of more ns) (named-more keys more a n (All-head (λ (m : ℕ). m < length keys) n ns h))
    ∙ ap (λ z. named keys n ∷ z) (trail-more keys more a ns (All-tail (λ (m : ℕ). m < length keys) n ns h))

pub err-any : {T E : Type 0} (P : Type 0) (r : Result T E) → P → IfErr r (λ _. P)
err-any P (Ok x) h = tt
err-any P (Err e) h = h
