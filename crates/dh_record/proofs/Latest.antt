-- Lists that grow at their end, seen with the latest first.
use Rattle.std.specs.Prelude.{◌≡◌, ◌+◌, ◌-◌, List, ◌∷◌, ◌++◌, length, map, reverse, refl, []}
use Rattle.std.proofs.Common.{ap, ◌∙◌}
use Rattle.std.proofs.lemmas.List.{reverse-append, length-reverse, length-map}

map-push : {A B : Type 0} (f : A → B) (xs : List A) (x : A) → map f (xs ++ x ∷ []) ≡ map f xs ++ f x ∷ []
map-push f [] x = refl
map-push f (y ∷ xs) x = ap (λ ys. f y ∷ ys) (map-push f xs x)

-- the latest first
pub latest : {A B : Type 0} (f : A → B) (xs : List A) (x : A) → reverse (map f (xs ++ x ∷ [])) ≡ f x ∷ reverse (map f xs)
latest f xs x = ap reverse (map-push f xs x) ∙ reverse-append (map f xs) (f x ∷ [])

pub mapped : {A B : Type 0} (f : A → B) (xs ys : List A) (x : A) → ys ≡ xs ++ x ∷ [] → map f ys ≡ map f xs ++ f x ∷ []
mapped f xs ys x p = ap (map f) p ∙ map-push f xs x

pub length-reverse-map : {A B : Type 0} (f : A → B) (xs : List A) → length (reverse (map f xs)) ≡ length xs
length-reverse-map f xs = length-reverse (map f xs) ∙ length-map xs f

pub reverse-cons : {A B : Type 0} (f : A → B) (x : A) (xs : List A) → reverse (map f (x ∷ xs)) ≡ reverse (map f xs) ++ f x ∷ []
reverse-cons f x xs = reverse-append (f x ∷ []) (map f xs)
