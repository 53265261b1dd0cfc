-- Keys in the order of their ranks: the number of one.
use Rattle.std.specs.Prelude.{◌≡◌, ◌⊎◌, ◌<◌, ℕ, zero, suc, Bool, true, false, if◌then◌else◌, List, [], ◌∷◌, length, map, Option, Some, None, refl}
use Rattle.std.specs.Option.{option_map}
use Rattle.std.proofs.Common.{ap, sym, ◌∙◌, subst, arith, inl, inr, get_or}
use Rattle.std.proofs.lemmas.List.{length-map, get_or-map}
use Rattle.dh_syntax.specs.declared.locations.Key.{Key}
use Rattle.dh_syntax.specs.Imports.Keys.{key_eq, texts_before}
use Rattle.dh_imports.specs.Machine.{IsAmong}
use Rattle.dh_laws.proofs.KeyOrder.{bool-case, true_false, none-some, key_eq-true, key_eq-itself}
use Rattle.dh_demand.specs.Results.{number_of}
use Rattle.dh_record.specs.declared.rows.recorded.Entrant.{Entrant}
use Rattle.dh_record.specs.Sorting.{Rank, rank_of, rank_of_entrant, rank_at, Ascends, IsOrder, IsRanked}
use Rattle.dh_record.specs.Rows.{nobody, rows_of, key_named}
use Rattle.dh_record.proofs.Numbering.{number_first}
use Rattle.dh_record.proofs.RankOrder.{before_itself, key_told}
use Rattle.dh_record.proofs.Reading.{number_names}
use Rattle.dh_record.proofs.SortedNumbers.{among_at, ascends_at}

abbrev pub ranks_of : List Entrant → List Rank
ranks_of es = map rank_of_entrant es

-- the rank of the key of a number
pub rank_named : (es : List Entrant) (n : ℕ) → n < length es → rank_at (ranks_of es) n ≡ rank_of (key_named es n)
rank_named es n l = get_or-map rank_of_entrant es n nobody [] l

-- no two of these numbers are of things with one rank
pub one_place : (ranks : List Rank) (ns : List ℕ) (m n : ℕ) → Ascends ranks ns → IsAmong m ns → IsAmong n ns → rank_at ranks m ≡ rank_at ranks n → m ≡ n
one_place ranks ns m n up l k e =
    let a = among_at m ns l in
    let b = among_at n ns k in
    elim (three a.0 b.0) [
      | inl h ↦ absurd (clash m n a.0 b.0 a.2 b.2 h b.1 e)
      | inr r ↦ elim r [
        | inl h ↦ absurd (clash n m b.0 a.0 b.2 a.2 h a.1 (sym e))
        | inr h ↦ sym a.2 ∙ ap (λ (i : ℕ). get_or ns i 0) h ∙ b.2
      ]
    ]
  where
    three : (i j : ℕ) → (i < j) ⊎ ((j < i) ⊎ (i ≡ j))
    three i j = grind arith

    clash : (m n i j : ℕ) → get_or ns i 0 ≡ m → get_or ns j 0 ≡ n → i < j → j < length ns → rank_at ranks m ≡ rank_at ranks n → ⊥
    clash m n i j p q h l e =
        true_false
        (subst (λ (y : Rank). texts_before y (rank_at ranks n) ≡ true) e
        (subst (λ (x : ℕ). texts_before (rank_at ranks m) (rank_at ranks x) ≡ true) q
        (subst (λ (x : ℕ). texts_before (rank_at ranks x) (rank_at ranks (get_or ns j 0)) ≡ true) p (ascends_at ranks ns i j up h l))))
        (before_itself (rank_at ranks n))

-- in an order no two things have one rank
pub one_rank : (ranks : List Rank) (ns : List ℕ) (m n : ℕ) → IsOrder ranks ns → m < length ranks → n < length ranks → rank_at ranks m ≡ rank_at ranks n → m ≡ n
one_rank ranks ns m n o l k e = one_place ranks ns m n o.ascends (o.complete m l) (o.complete n k) e

pub none_named : (es : List Entrant) (k : Key) (n : ℕ) → number_of (rows_of es) k ≡ None → n < length es → ¬ (key_named es n ≡ k)
none_named [] k n h l e = omega arith
none_named (x ∷ es) k zero h l e = none-some h (ap (λ b. if b then Some 0 else option_map suc (number_of (rows_of es) k)) (subst (λ (j : Key). key_eq x.key j ≡ true) e (key_eq-itself x.key)))
none_named (x ∷ es) k (suc n) h l e = go (key_eq x.key k) (number_of (rows_of es) k) refl h (λ q. none_named es k n q (omega arith) e)
  where
    go : (b : Bool) (o : Option ℕ) → number_of (rows_of es) k ≡ o → (if b then Some 0 else option_map suc o) ≡ None → (number_of (rows_of es) k ≡ None → ⊥) → ⊥
    go true o p q f = none-some q refl
    go false None p q f = f p
    go false (Some m) p q f = none-some q refl

-- a new key has a rank of its own
pub new_rank : (es : List Entrant) (k : Key) → number_of (rows_of es) k ≡ None → IsRanked (ranks_of es) (rank_of k) None
new_rank es k h n l e =
    let inside : n < length es = subst (λ (m : ℕ). n < m) (length-map es rank_of_entrant) l in
    none_named es k n h inside (key_told (key_named es n) k (sym (rank_named es n inside) ∙ e))

-- what is found by its rank is the number of the key
pub ranked_number : (es : List Entrant) (ns : List ℕ) (k : Key) (r : Option ℕ) → IsOrder (ranks_of es) ns → IsRanked (ranks_of es) (rank_of k) r → r ≡ number_of (rows_of es) k
ranked_number es ns k None o h = go (number_of (rows_of es) k) refl
  where
    go : (r : Option ℕ) → number_of (rows_of es) k ≡ r → None ≡ r
    go None p = refl
    go (Some n) p =
        let x = number_names es k n p in
        absurd (h n (subst (λ (m : ℕ). n < m) (sym (length-map es rank_of_entrant)) x.0) (rank_named es n x.0 ∙ ap rank_of x.1))
ranked_number es ns k (Some n) o (l, e) =
    let inside : n < length es = subst (λ (m : ℕ). n < m) (length-map es rank_of_entrant) l in
    let here : key_named es n ≡ k = key_told (key_named es n) k (sym (rank_named es n inside) ∙ e) in
    number_first es k n nobody inside
    (λ m h d c. other m h d c)
    (subst (λ (j : Key). key_eq (key_named es n) j ≡ true) here (key_eq-itself (key_named es n)))
  where
    other : (m : ℕ) → m < n → (d : Entrant) → m < length es → key_eq (get_or es m d).key k ≡ false
    other m h d c =
        elim (bool-case (key_eq (get_or es m d).key k)) [
          | inl p ↦
              let here : rank_at (ranks_of es) m ≡ rank_of k = get_or-map rank_of_entrant es m d [] c ∙ ap rank_of (key_eq-true (get_or es m d).key k p) in
              let size = length-map es rank_of_entrant in
              let both = one_rank (ranks_of es) ns m n o (omega arith) l (here ∙ sym e) in
              absurd (omega arith)
          | inr p ↦ p
        ]
