-- Files as they are dealt, and desks that serve them.
use Rattle.std.proofs.Common.{◌≡◌, ℕ, zero, suc, ◌+◌, ◌-◌, ◌<◌, ◌≤◌, false, List, [], ◌∷◌, ◌++◌, length, drop, get_or, refl, sym, ap, ◌∙◌, subst, arith, append-nil, append_assoc}
use Rattle.std.proofs.lemmas.Bool.{false≢true}
use Rattle.dh_batch.specs.Dealing.{Chain, dealt}
use Rattle.dh_batch.specs.Inside.{Stood}

-- nothing more comes to a desk than is dealt
pub dealt_past : {A : Type 0} (n i : ℕ) (xs : List A) → length xs ≤ i → dealt n i xs ≡ []
dealt_past n i [] h = refl
dealt_past n zero (x ∷ xs) h = absurd (omega arith)
dealt_past n (suc i) (x ∷ xs) h = dealt_past n i xs (omega arith)

-- the next that comes to a desk
pub dealt_at : {A : Type 0} (n i : ℕ) (xs : List A) (d : A) → i < length xs → dealt n i xs ≡ get_or xs i d ∷ dealt n (n - 1) (drop (suc i) xs)
dealt_at n i [] d h = absurd (omega arith)
dealt_at n zero (x ∷ xs) d h = refl
dealt_at n (suc i) (x ∷ xs) d h = dealt_at n i xs d (omega arith)

-- one more file is served
pub chain_push : {F D A : Type 0} (R : F → D → D → A → Type 0) (before between after : D) (fs : List F) (rs : List A) (f : F) (r : A)
    → Chain R before between fs rs → R f between after r → Chain R before after (fs ++ f ∷ []) (rs ++ r ∷ [])
chain_push R before between after [] [] f r c s = (after, subst (λ d. R f d after r) c s, refl)
chain_push R before between after [] (a ∷ rs) f r c s = absurd c
chain_push R before between after (g ∷ fs) [] f r c s = absurd c
chain_push R before between after (g ∷ fs) (a ∷ rs) f r (d, one, rest) s = (d, one, chain_push R d between after fs rs f r rest s)

pub chain_count : {F D A : Type 0} (R : F → D → D → A → Type 0) (before after : D) (fs : List F) (rs : List A) → Chain R before after fs rs → length rs ≡ length fs
chain_count R before after [] [] c = refl
chain_count R before after [] (r ∷ rs) c = absurd c
chain_count R before after (f ∷ fs) [] c = absurd c
chain_count R before after (f ∷ fs) (r ∷ rs) (d, one, rest) = let ih = chain_count R d after fs rs rest in omega (arith, ih)

-- ---- in turn

-- the files of one desk that were served, and those that are left to it of the files that are left
pub record Turn {F D A : Type 0} (R : F → D → D → A → Type 0) (n i at : ℕ) (files left : List F) (before after : D) (done : List A) : Type 0 where
  pub seen : List F
  pub split : dealt n i files ≡ seen ++ dealt n at left
  pub served : Chain R before after seen done

pub no_turn : {F D A : Type 0} (R : F → D → D → A → Type 0) (n i : ℕ) (files : List F) (desk : D) (done : List A) → done ≡ [] → Turn R n i i files files desk desk done
no_turn R n i files desk done none = record { seen = []; split = refl; served = subst (Chain R desk desk []) (sym none) refl }

pub one_turn : {F D A : Type 0} (R : F → D → D → A → Type 0) (n i at next : ℕ) (files left rest : List F) (before between after : D) (done more : List A) (f : F) (r : A)
    → Turn R n i at files left before between done → at < length left → f ≡ get_or left at f → rest ≡ drop (at + 1) left → next ≡ n - 1 → R f between after r → more ≡ done ++ r ∷ []
    → Turn R n i next files rest before after more
one_turn R n i at next files left rest before between after done more f r t lt is behind on replies pushed =
    let here : dealt n at left ≡ f ∷ dealt n next rest =
    dealt_at n at left f lt
    ∙ ap (λ x. x ∷ dealt n (n - 1) (drop (suc at) left)) (sym is)
    ∙ ap (λ xs. f ∷ dealt n (n - 1) xs) (ap (λ k. drop k left) (let e : suc at ≡ at + 1 = omega arith in e) ∙ sym behind)
    ∙ ap (λ k. f ∷ dealt n k rest) (sym on) in
    record {
      seen = t.seen ++ f ∷ [];
      split = t.split ∙ ap (λ xs. t.seen ++ xs) here ∙ sym (append_assoc t.seen (f ∷ []) (dealt n next rest));
      served = subst (Chain R before after (t.seen ++ f ∷ [])) (sym pushed) (chain_push R before between after t.seen done f r t.served replies);
    }

pub last_turn : {F D A : Type 0} (R : F → D → D → A → Type 0) (n i at : ℕ) (files left : List F) (before after : D) (done : List A) → Turn R n i at files left before after done → length left ≤ at
    → Chain R before after (dealt n i files) done
last_turn R n i at files left before after done t past =
    subst (λ fs. Chain R before after fs done) (sym (t.split ∙ ap (λ xs. t.seen ++ xs) (dealt_past n at left past) ∙ append-nil t.seen)) t.served

-- a desk without memory for its replies
pub not_stood : {F D A : Type 0} (R : F → D → D → A → Type 0) (n i : ℕ) (files : List F) (desk : D) (done : List A) → Stood R n i files false desk desk done
not_stood R n i files desk done = record { all = λ e. absurd (false≢true e); none = λ e. refl }
