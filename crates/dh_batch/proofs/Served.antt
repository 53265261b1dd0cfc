-- From each stand to all desks.
use Rattle.std.proofs.Common.{◌≡◌, ℕ, zero, suc, ◌<◌, Bool, true, false, List, [], ◌∷◌, ◌++◌, length, drop, map, get_or, refl, sym, ap, ◌∙◌, subst, arith, append-nil}
use Rattle.std.specs.Prelude.{Result, Ok, Err, OnErr}
use Rattle.std.proofs.Math.Seq.{drop-append_seam}
use Rattle.std.proofs.lemmas.List.{length-map}
use Rattle.dh_batch.specs.Dealing.{AreServed, Chain, HasServed, HaveServed, dealt}
use Rattle.dh_batch.specs.Inside.{Stood}
use Rattle.dh_batch.proofs.Dealt.{chain_count}

-- one of the elements of a list that has some
first_of : {X : Type 0} (xs : List X) → 0 < length xs → X
first_of [] p = absurd (omega arith)
first_of (x ∷ xs) p = x

-- what stands in front, whatever stands in for what is missing
front : {X Y : Type 0} (f : X → Y) (xs : List X) (left : List Y) (i : ℕ) (x : X) (y : Y) → i < length xs → get_or (map f xs ++ left) i y ≡ f (get_or xs i x)
front f [] left i x y lt = absurd (omega arith)
front f (z ∷ zs) left zero x y lt = refl
front f (z ∷ zs) left (suc i) x y lt = front f zs left i x y (omega arith)

at_front : {X Y : Type 0} (f : X → Y) (xs : List X) (left all : List Y) (i : ℕ) (x : X) (y : Y) → all ≡ map f xs ++ left → i < length xs → get_or all i y ≡ f (get_or xs i x)
at_front f xs left all i x y is lt = ap (λ zs. get_or zs i y) is ∙ front f xs left i x y lt

queued : {X Q A : Type 0} (queue : X → Q) (items : Q → List A) (x : X) (xs : List X) (i : ℕ) → i < length xs → get_or (map items (map queue xs)) i [] ≡ items (queue (get_or xs i x))
queued queue items x [] i lt = absurd (omega arith)
queued queue items x (y ∷ ys) zero lt = refl
queued queue items x (y ∷ ys) (suc i) lt = queued queue items x ys i (omega arith)

-- the items of a queue that was moved
at_queue : {X Q A : Type 0} (queue : X → Q) (items : Q → List A) (xs : List X) (queues : List Q) (i : ℕ) (x : X) → queues ≡ map queue xs ++ [] → i < length xs
    → get_or (map items queues) i [] ≡ items (queue (get_or xs i x))
at_queue queue items xs queues i x is lt = ap (λ qs. get_or (map items qs) i []) (is ∙ append-nil (map queue xs)) ∙ queued queue items x xs i lt

module _ {F D A S Q : Type 0} (R : F → D → D → A → Type 0) (desk : S → D) (queue : S → Q) (items : Q → List A) (served : S → Bool) (n : ℕ) (xs ys : List S) (left before after : List D) (files : List F)
    (was : map desk xs ++ left ≡ before) (is : after ≡ map desk ys ++ left) (count : length xs ≡ n) (count' : length ys ≡ n)
    (each : (i : ℕ) (s : S) → i < length xs → Stood R n i files (served (get_or ys i s)) (desk (get_or xs i s)) (desk (get_or ys i s)) (items (queue (get_or ys i s)))) where
  -- what holds of the desks of a stand holds of the desks in their order again
  of_desks : (fs : List F) (rs : List A) (i : ℕ) (s : S) (d : D) → i < n → Chain R (desk (get_or xs i s)) (desk (get_or ys i s)) fs rs → Chain R (get_or before i d) (get_or after i d) fs rs
  of_desks fs rs i s d p c =
      subst (λ a. Chain R a (get_or after i d) fs rs) (sym (at_front desk xs left before i s d (sym was) (omega (arith, p, count))))
      (subst (λ b. Chain R (desk (get_or xs i s)) b fs rs) (sym (at_front desk ys left after i s d is (omega (arith, p, count')))) c)

  some : 0 < n → S
  some p = first_of xs (omega (arith, p, count))

  module _ (queues : List Q) (moved : queues ≡ map queue ys ++ []) (all : (i : ℕ) (s : S) → i < length ys → served (get_or ys i s) ≡ true) where
    chain_at : (i : ℕ) (s : S) → i < n → Chain R (desk (get_or xs i s)) (desk (get_or ys i s)) (dealt n i files) (get_or (map items queues) i [])
    chain_at i s p =
        subst (Chain R (desk (get_or xs i s)) (desk (get_or ys i s)) (dealt n i files)) (sym (at_queue queue items ys queues i s moved (omega (arith, p, count'))))
        ((each i s (omega (arith, p, count))).all (all i s (omega (arith, p, count'))))

    -- each desk has as many replies as files
    pub queue_counts : (i : ℕ) → i < n → length (get_or (map items queues) i []) ≡ length (dealt n i files)
    queue_counts i p = let s = some (omega (arith, p)) in chain_count R (desk (get_or xs i s)) (desk (get_or ys i s)) (dealt n i files) (get_or (map items queues) i []) (chain_at i s p)

    pub are_served : (done : List A) → length done ≡ length files → ((i : ℕ) → i < n → dealt n i done ≡ get_or (map items queues) i []) → AreServed R n before after files done
    are_served done same dealt_so = (same, λ i d p. let s = some (omega (arith, p)) in of_desks (dealt n i files) (dealt n i done) i s d p (subst (Chain R (desk (get_or xs i s)) (desk (get_or ys i s)) (dealt n i files)) (sym (dealt_so i p)) (chain_at i s p)))

  by_flag : (i : ℕ) (s : S) (d : D) → i < n → (b : Bool) → served (get_or ys i s) ≡ b → HasServed R (get_or before i d) (get_or after i d)
  by_flag i s d p true e = (dealt n i files, items (queue (get_or ys i s)), of_desks (dealt n i files) (items (queue (get_or ys i s))) i s d p ((each i s (omega (arith, p, count))).all e))
  by_flag i s d p false e = ([], [], of_desks [] [] i s d p ((each i s (omega (arith, p, count))).none e))

  -- also where some desk served no file
  pub have_served : HaveServed R n before after
  have_served i d p = let s = some (omega (arith, p)) in by_flag i s d p (served (get_or ys i s)) refl

behind : {S D : Type 0} (desk : S → D) (xs : List S) (left : List D) (n : ℕ) → length xs ≡ n → drop n (map desk xs ++ left) ≡ left
behind desk xs left n len = ap (λ k. drop k (map desk xs ++ left)) (sym len ∙ sym (length-map xs desk)) ∙ drop-append_seam (map desk xs) left

-- what stands behind the desks that serve stays
pub stays_behind : {S D : Type 0} (desk : S → D) (xs ys : List S) (left before after : List D) (n : ℕ) → map desk xs ++ left ≡ before → after ≡ map desk ys ++ left
    → length xs ≡ n → length ys ≡ n → drop n after ≡ drop n before
stays_behind desk xs ys left before after n was is len len' =
    ap (drop n) is ∙ behind desk ys left n len' ∙ sym (behind desk xs left n len) ∙ ap (drop n) was

-- no desk has served a file
pub none_served : {F D A : Type 0} (R : F → D → D → A → Type 0) (n : ℕ) (before after : List D) → after ≡ before → HaveServed R n before after
none_served R n before after same i d p = ([], [], ap (λ ds. get_or ds i d) same)

-- what holds in any case holds in that of an error
pub on_err : {X E : Type 0} (r : Result X E) (P : Type 0) → P → OnErr r P
on_err (Ok x) P p = tt
on_err (Err e) P p = p
