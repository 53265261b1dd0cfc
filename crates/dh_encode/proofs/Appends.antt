-- What writes one after the other append together.
use Rattle.std.specs.Prelude.{◌≡◌, ℕ, List, [], ◌∷◌, ◌++◌, length, Result, OnOk}
use Rattle.std.specs.List.{concat}
use Rattle.std.proofs.Common.{sym, ap, ◌∙◌, append_assoc, append-nil}
use Rattle.std.proofs.lemmas.List.Folds.{concat-append}
use Rattle.dh_syntax.specs.Bytes.Cbor.{head, array}
use Rattle.std.proofs.lemmas.Result.{on_ok_weaker}

-- two writes
pub both : (a b c x y : List ℕ) → b ≡ a ++ x → c ≡ b ++ y → c ≡ a ++ (x ++ y)
both a b c x y p q = q ∙ ap (λ l. l ++ y) p ∙ append_assoc a x y

-- the same where the second may end for want of memory
pub then : {E : Type 0} (r : Result (Unit {0}) E) (a b c x y : List ℕ) → b ≡ a ++ x → OnOk r (c ≡ b ++ y) → OnOk r (c ≡ a ++ (x ++ y))
then r a b c x y p q = on_ok_weaker r (both a b c x y p) q

-- what is written, by another name
pub named : {E : Type 0} (r : Result (Unit {0}) E) (a b x y : List ℕ) → x ≡ y → OnOk r (b ≡ a ++ x) → OnOk r (b ≡ a ++ y)
named r a b x y e h = on_ok_weaker r (λ p. p ∙ ap (λ l. a ++ l) e) h

-- an array, by its head and its items
pub array_written : {E : Type 0} (r : Result (Unit {0}) E) (a b c : List ℕ) (n : ℕ) (items : List (List ℕ)) → b ≡ a ++ head 4 n → n ≡ length items
    → OnOk r (c ≡ b ++ concat items) → OnOk r (c ≡ a ++ array items)
array_written r a b c n items p e h = then r a b c (head 4 (length items)) (concat items) (p ∙ ap (λ m. a ++ head 4 m) e) h

-- the last item
pub last : {E : Type 0} (r : Result (Unit {0}) E) (a b x : List ℕ) → OnOk r (b ≡ a ++ x) → OnOk r (b ≡ a ++ concat (x ∷ []))
last r a b x h = named r a b x (x ++ []) (sym (append-nil x)) h

-- items and further ones
pub and_items : {E : Type 0} (r : Result (Unit {0}) E) (a b c : List ℕ) (xs ys : List (List ℕ)) → b ≡ a ++ concat xs → OnOk r (c ≡ b ++ concat ys) → OnOk r (c ≡ a ++ concat (xs ++ ys))
and_items r a b c xs ys p h = named r a c (concat xs ++ concat ys) (concat (xs ++ ys)) (sym (concat-append xs ys)) (then r a b c (concat xs) (concat ys) p h)
