-- What is recorded is found by its number in an order: no two things have one name.
use Rattle.std.specs.Prelude.{◌≡◌, ◌⊎◌, ◌<◌, ◌≤◌, ◌+◌, ℕ, zero, suc, Bool, true, false, if◌then◌else◌, List, ◌∷◌, ◌++◌, length, map, reverse, take, Option, Some, None, refl, []}
use Rattle.std.proofs.Common.{ap, sym, ◌∙◌, subst, arith, inl, inr, get_or}
use Rattle.std.proofs.lemmas.List.{length-map, get_or-map, map-append, take_all}
use Rattle.dh_syntax.specs.declared.locations.Digest.{Digest}
use Rattle.dh_syntax.specs.declared.locations.Loc.{Loc}
use Rattle.dh_syntax.specs.Expressions.SameTree.{digest_eq, loc_eq}
use Rattle.dh_syntax.specs.Imports.Keys.{loc_rank}
use Rattle.dh_imports.specs.Records.{lookup}
use Rattle.dh_syntax.proofs.SameTree.{digests_tell, locs_tell}
use Rattle.dh_laws.proofs.KeyOrder.{bool-case, true_false, none-some}
use Rattle.dh_record.specs.declared.rows.recorded.Look.{Look}
use Rattle.dh_record.specs.declared.rows.recorded.Text.{Text}
use Rattle.dh_record.specs.Sorting.{Rank, rank_at, rank_of_look, rank_of_text, IsOrder, IsRanked}
use Rattle.dh_record.specs.Rows.{look_of, text_of}
use Rattle.dh_record.proofs.KeyRanks.{one_rank}
use Rattle.dh_record.proofs.RankOrder.{loc_told}
use Rattle.dh_record.proofs.Reading.{later}

-- ---- a list that is looked up with its latest first

module _ {X A B : Type 0} (same : A → A → Bool) (f : X → A × B) (xs : List X) (a : A) (d : X) where
  abbrev is_at : ℕ → Bool
  is_at m = same (f (get_or xs m d)).0 a

  abbrev so_far : ℕ → Option B
  so_far i = lookup same (reverse (map f (take i xs))) a

  one_further : (i : ℕ) → i < length xs → so_far (suc i) ≡ (if is_at i then Some (f (get_or xs i d)).1 else so_far i)
  one_further i l =
      let next : i + 1 ≡ suc i = omega arith in
      subst (λ n. so_far n ≡ (if is_at i then Some (f (get_or xs i d)).1 else so_far i)) next (later same f xs i d a l)

  -- none of these has the name
  nowhere : (i : ℕ) → i ≤ length xs → ((m : ℕ) → m < length xs → is_at m ≡ false) → so_far i ≡ None
  nowhere zero l h = refl
  nowhere (suc i) l h =
      one_further i (omega arith)
      ∙ ap (λ b. if b then Some (f (get_or xs i d)).1 else so_far i) (h i (omega arith))
      ∙ nowhere i (omega arith) h

  -- one of these has it
  somewhere : (i m : ℕ) → i ≤ length xs → m < i → is_at m ≡ true → so_far i ≡ None → ⊥
  somewhere zero m l k e h = omega arith
  somewhere (suc i) m l k e h = go (is_at i) refl (sym (one_further i (omega arith)) ∙ h) (λ p q. somewhere i m (omega arith) p e q)
    where
      split : (m i : ℕ) → m < suc i → (m < i) ⊎ (m ≡ i)
      split m i k = grind arith

      go : (b : Bool) → is_at i ≡ b → (if b then Some (f (get_or xs i d)).1 else so_far i) ≡ None → (m < i → so_far i ≡ None → ⊥) → ⊥
      go true p q r = none-some q refl
      go false p q r =
          elim (split m i k) [
            | inl x ↦ r x q
            | inr x ↦ true_false (ap is_at (sym x) ∙ e) p
          ]

  -- only this one has it
  alone : (n : ℕ) → n < length xs → is_at n ≡ true → ((m : ℕ) → m < length xs → is_at m ≡ true → m ≡ n) → (i : ℕ) → i ≤ length xs → n < i → so_far i ≡ Some (f (get_or xs n d)).1
  alone n l e only zero k h = absurd (omega arith)
  alone n l e only (suc i) k h = one_further i (omega arith) ∙ go (is_at i) refl (λ p. alone n l e only i (omega arith) p)
    where
      split : (n i : ℕ) → n < suc i → (n < i) ⊎ (n ≡ i)
      split n i k = grind arith

      go : (b : Bool) → is_at i ≡ b → (n < i → so_far i ≡ Some (f (get_or xs n d)).1) → (if b then Some (f (get_or xs i d)).1 else so_far i) ≡ Some (f (get_or xs n d)).1
      go true p r = ap (λ m. Some (f (get_or xs m d)).1) (only i (omega arith) p)
      go false p r =
          elim (split n i h) [
            | inl x ↦ r x
            | inr x ↦ true_false (ap is_at (sym x) ∙ e) p
          ]

  whole : (o : Option B) → so_far (length xs) ≡ o → lookup same (reverse (map f xs)) a ≡ o
  whole o h = ap (λ ys. lookup same (reverse (map f ys)) a) (sym (take_all (length xs) xs (omega arith))) ∙ h

-- ---- things with ranks

module _ {X A B : Type 0} (same : A → A → Bool) (f : X → A × B) (rank : X → Rank) (a : A) (x : Rank) (tells : (y : X) → rank y ≡ x → same (f y).0 a ≡ true) (told : (y : X) → same (f y).0 a ≡ true → rank y ≡ x) where
  rank_here : (xs : List X) (m : ℕ) (d : X) → m < length xs → rank_at (map rank xs) m ≡ rank (get_or xs m d)
  rank_here xs m d l = get_or-map rank xs m d [] l

  inside : (xs : List X) (m : ℕ) → m < length xs → m < length (map rank xs)
  inside xs m l = subst (λ n. m < n) (sym (length-map xs rank)) l

  within : (xs : List X) (m : ℕ) → m < length (map rank xs) → m < length xs
  within xs m l = subst (λ n. m < n) (length-map xs rank) l

  pub ranked_none : (xs : List X) → IsRanked (map rank xs) x None → None ≡ lookup same (reverse (map f xs)) a
  ranked_none [] h = refl
  ranked_none (d ∷ ys) h = sym (whole same f (d ∷ ys) a d None (nowhere same f (d ∷ ys) a d (length (d ∷ ys)) (omega arith) other))
    where
      other : (m : ℕ) → m < length (d ∷ ys) → same (f (get_or (d ∷ ys) m d)).0 a ≡ false
      other m l =
          elim (bool-case (same (f (get_or (d ∷ ys) m d)).0 a)) [
            | inl p ↦ absurd (h m (inside (d ∷ ys) m l) (rank_here (d ∷ ys) m d l ∙ told (get_or (d ∷ ys) m d) p))
            | inr p ↦ p
          ]

  pub ranked_some : (xs : List X) (ns : List ℕ) (n : ℕ) (d : X) → IsOrder (map rank xs) ns → IsRanked (map rank xs) x (Some n) → d ≡ get_or xs n d → Some (f d).1 ≡ lookup same (reverse (map f xs)) a
  ranked_some xs ns n d o (l, e) is =
      ap (λ y. Some (f y).1) is
      ∙ sym (whole same f xs a d (Some (f (get_or xs n d)).1) (alone same f xs a d n (within xs n l) here only (length xs) (omega arith) (within xs n l)))
    where
      here : same (f (get_or xs n d)).0 a ≡ true
      here = tells (get_or xs n d) (sym (rank_here xs n d (within xs n l)) ∙ e)

      only : (m : ℕ) → m < length xs → same (f (get_or xs m d)).0 a ≡ true → m ≡ n
      only m k p = one_rank (map rank xs) ns m n o (inside xs m k) l (rank_here xs m d k ∙ told (get_or xs m d) p ∙ sym e)

  pub ranked_new : (xs : List X) → lookup same (reverse (map f xs)) a ≡ None → IsRanked (map rank xs) x None
  ranked_new [] h n l e = omega arith
  ranked_new (d ∷ ys) h n l e =
      let k = within (d ∷ ys) n l in
      somewhere same f (d ∷ ys) a d (length (d ∷ ys)) n (omega arith) k (tells (get_or (d ∷ ys) n d) (sym (rank_here (d ∷ ys) n d k) ∙ e))
      (ap (λ zs. lookup same (reverse (map f zs)) a) (take_all (length (d ∷ ys)) (d ∷ ys) (omega arith)) ∙ h)

-- one more, with its rank in the order
pub order_grown : {X : Type 0} (rank : X → Rank) (xs ys new : List X) (y : X) (ns : List ℕ) → xs ≡ ys → new ≡ ys ++ y ∷ [] → IsOrder (map rank xs ++ rank y ∷ []) ns → IsOrder (map rank new) ns
order_grown rank xs ys new y ns e n o =
    subst (λ (rs : List Rank). IsOrder rs ns) (ap (λ zs. map rank zs ++ rank y ∷ []) e ∙ sym (map-append rank ys (y ∷ [])) ∙ ap (map rank) (sym n)) o

-- ---- texts and looks

module _ (l : Loc) where
  loc_tells : (t : Text) → rank_of_text t ≡ loc_rank l → loc_eq (text_of t).0 l ≡ true
  loc_tells t h = subst (λ m. loc_eq t.loc m ≡ true) (loc_told t.loc l h) (locs_tell.itself t.loc)

  loc_ranked : (t : Text) → loc_eq (text_of t).0 l ≡ true → rank_of_text t ≡ loc_rank l
  loc_ranked t h = ap loc_rank (locs_tell.equal t.loc l h)

  pub text_none : (texts : List Text) → IsRanked (map rank_of_text texts) (loc_rank l) None → None ≡ lookup loc_eq (reverse (map text_of texts)) l
  text_none = ranked_none loc_eq text_of rank_of_text l (loc_rank l) loc_tells loc_ranked

  pub text_some : (texts : List Text) (ns : List ℕ) (n : ℕ) (t : Text) → IsOrder (map rank_of_text texts) ns → IsRanked (map rank_of_text texts) (loc_rank l) (Some n) → t ≡ get_or texts n t → Some (text_of t).1 ≡ lookup loc_eq (reverse (map text_of texts)) l
  text_some = ranked_some loc_eq text_of rank_of_text l (loc_rank l) loc_tells loc_ranked

  -- the location of what is found
  pub text_there : (texts : List Text) (n : ℕ) (t : Text) → IsRanked (map rank_of_text texts) (loc_rank l) (Some n) → t ≡ get_or texts n t → (n < length texts) × (t.loc ≡ l)
  text_there texts n t (k, e) is =
      let inside : n < length texts = subst (λ m. n < m) (length-map texts rank_of_text) k in
      (inside, loc_told t.loc l (ap rank_of_text is ∙ sym (get_or-map rank_of_text texts n t [] inside) ∙ e))

  pub text_new : (texts : List Text) → lookup loc_eq (reverse (map text_of texts)) l ≡ None → IsRanked (map rank_of_text texts) (loc_rank l) None
  text_new = ranked_new loc_eq text_of rank_of_text l (loc_rank l) loc_tells loc_ranked

module _ (d : Digest) where
  digest_tells : (l : Look) → rank_of_look l ≡ d.0 ∷ [] → digest_eq (look_of l).0 d ≡ true
  digest_tells l h = subst (λ e. digest_eq l.digest e ≡ true) (same l.digest d (ap head_bytes h)) (digests_tell.itself l.digest)
    where
      head_bytes : Rank → List ℕ
      head_bytes [] = []
      head_bytes (b ∷ x) = b

      same : (x y : Digest) → x.0 ≡ y.0 → x ≡ y
      same x y p = λ i. record { 0 = p i }

  digest_ranked : (l : Look) → digest_eq (look_of l).0 d ≡ true → rank_of_look l ≡ d.0 ∷ []
  digest_ranked l h = ap (λ (x : Digest). x.0 ∷ []) (digests_tell.equal l.digest d h)

  pub look_none : (looks : List Look) → IsRanked (map rank_of_look looks) (d.0 ∷ []) None → None ≡ lookup digest_eq (reverse (map look_of looks)) d
  look_none = ranked_none digest_eq look_of rank_of_look d (d.0 ∷ []) digest_tells digest_ranked

  pub look_some : (looks : List Look) (ns : List ℕ) (n : ℕ) (l : Look) → IsOrder (map rank_of_look looks) ns → IsRanked (map rank_of_look looks) (d.0 ∷ []) (Some n) → l ≡ get_or looks n l → Some (look_of l).1 ≡ lookup digest_eq (reverse (map look_of looks)) d
  look_some = ranked_some digest_eq look_of rank_of_look d (d.0 ∷ []) digest_tells digest_ranked

  pub look_new : (looks : List Look) → lookup digest_eq (reverse (map look_of looks)) d ≡ None → IsRanked (map rank_of_look looks) (d.0 ∷ []) None
  look_new = ranked_new digest_eq look_of rank_of_look d (d.0 ∷ []) digest_tells digest_ranked
