-- Steps of the fragment, and where no step leads on.
use Rattle.std.specs.Prelude.{◌≡◌, ℕ, zero, suc, Bool, true, ◌&&◌, is_none, List, [], ◌∷◌, Option, Some, None, option_map, slice_get, slice_set, refl}
use Rattle.std.proofs.Common.{ap, sym, ◌∙◌, subst as along}
use Rattle.dh_syntax.specs.Expressions.Rows.{row_length}
use Rattle.dh_syntax.specs.Expressions.Tree.{Tree, Row, Leaf, Node, end, kid}
use Rattle.dh_syntax.specs.Normalising.Contraction.{Binders}
use Rattle.dh_syntax.specs.Normalising.Heads.{Lang}
use Rattle.dh_syntax.specs.Normalising.Steps.{contract, GivesExactly, StepsAt, IsSettled, op_in_fragment, in_fragment, row_in_fragment}
use Rattle.dh_syntax.specs.Normalising.Trees.{trees, row_parts, replace_row}
use Rattle.dh_confluence.specs.FragmentSteps.{reduct, reduct_of, step_at, step_part, is_settled, row_is_settled}
use Rattle.dh_confluence.proofs.RowsRelated.{some-is, map-some}
use Rattle.dh_confluence.proofs.Confluent.{both-true}
use Rattle.dh_confluence.proofs.FragmentTable.{answer_of, table-given}

module _ {A B : Type 0} where
  own-parts : (r : Row A B) → replace_row r (row_parts r) ≡ r
  own-parts end = refl
  own-parts (kid b e r) = ap (kid b e) (own-parts r)

module _ {A B : Type 0} (binders : Binders A B) (same : Tree A B → Tree A B → Bool) (too_deep : Tree A B → Bool) where
  abbrev L : Lang (Tree A B)
  L = trees binders same too_deep

  put : B → Tree A B → Tree A B → Tree A B
  put = binders.put

  -- ---- steps

  contract-given : (e : Tree A B) → in_fragment e ≡ true → contract L e ≡ answer_of binders (reduct_of binders.put e)
  contract-given (Leaf a) h = refl
  contract-given (Node op r) h = table-given binders (suc (suc (row_length r))) (Node op r) h

  given-only : (o : Option (Tree A B)) (f : Tree A B) → GivesExactly L (answer_of binders o) f → o ≡ Some f
  given-only None f h = absurd h
  given-only (Some e) f h = ap Some (sym h)

  given-gives : (o : Option (Tree A B)) (f : Tree A B) → o ≡ Some f → GivesExactly L (answer_of binders o) f
  given-gives None f h = absurd cc
  given-gives (Some e) f h = sym (some-is e f h)

  -- the part with the number i
  part-replaced : (i : ℕ) (place : List ℕ) (r : Row A B) (d g : Tree A B) → slice_get (row_parts r) i ≡ Some d → step_at binders.put place d ≡ Some g
      → step_part binders.put i place r ≡ Some (replace_row r (slice_set (row_parts r) i g))
  part-replaced i place end d g p q = absurd cc
  part-replaced zero place (kid b e r) d g p q =
      ap (λ x. option_map (λ h. kid b h r) (step_at binders.put place x)) (some-is e d p) ∙ ap (option_map (λ h. kid b h r)) q ∙ ap (λ s. Some (kid b g s)) (sym (own-parts r))
  part-replaced (suc i) place (kid b e r) d g p q = ap (option_map (λ s. kid b e s)) (part-replaced i place r d g p q)

  part-in_fragment : (i : ℕ) (r : Row A B) (d : Tree A B) → slice_get (row_parts r) i ≡ Some d → row_in_fragment r ≡ true → in_fragment d ≡ true
  part-in_fragment i end d p h = absurd cc
  part-in_fragment zero (kid b e r) d p h = ap in_fragment (sym (some-is e d p)) ∙ (both-true (in_fragment e) (row_in_fragment r) h).0
  part-in_fragment (suc i) (kid b e r) d p h = part-in_fragment i r d p (both-true (in_fragment e) (row_in_fragment r) h).1

  abbrev IsPart : ℕ → List ℕ → Row A B → Row A B → Type 0
  IsPart i place r s = (d : Tree A B) × (g : Tree A B) × (slice_get (row_parts r) i ≡ Some d) × (step_at binders.put place d ≡ Some g) × (s ≡ replace_row r (slice_set (row_parts r) i g))

  the-part : (i : ℕ) (place : List ℕ) (r s : Row A B) → step_part binders.put i place r ≡ Some s → IsPart i place r s
  the-part i place end s p = absurd cc
  the-part zero place (kid b e r) s p =
      map-some (λ h. kid b h r) (step_at binders.put place e) s p λ g q k. (e, g, refl, q, sym k ∙ ap (kid b g) (sym (own-parts r)))
  the-part (suc i) place (kid b e r) s p =
      map-some (λ t. kid b e t) (step_part binders.put i place r) s p λ t q k.
      let (d, g, u, v, w) = the-part i place r t q in
      (d, g, u, v, sym k ∙ ap (kid b e) w)

  pub steps-given : (place : List ℕ) (e f : Tree A B) → in_fragment e ≡ true → StepsAt L place e f → step_at binders.put place e ≡ Some f
  steps-given [] e f h s = given-only (reduct_of binders.put e) f (along (λ c. GivesExactly L c f) (contract-given e h) s)
  steps-given (i ∷ place) (Leaf a) f h (d, g, p, s, q) = absurd cc
  steps-given (i ∷ place) (Node op r) f h (d, g, p, s, q) =
      let k = (both-true (op_in_fragment op) (row_in_fragment r) h).1 in
      ap (option_map (λ t. Node op t)) (part-replaced i place r d g p (steps-given place d g (part-in_fragment i r d p k) s)) ∙ ap Some (sym q)

  pub given-steps : (place : List ℕ) (e f : Tree A B) → in_fragment e ≡ true → step_at binders.put place e ≡ Some f → StepsAt L place e f
  given-steps [] e f h p = along (λ c. GivesExactly L c f) (sym (contract-given e h)) (given-gives (reduct_of binders.put e) f p)
  given-steps (i ∷ place) (Leaf a) f h p = absurd cc
  given-steps (i ∷ place) (Node op r) f h p =
      let k = (both-true (op_in_fragment op) (row_in_fragment r) h).1 in
      map-some (λ t. Node op t) (step_part binders.put i place r) f p λ s q w.
      let (d, g, u, v, x) = the-part i place r s q in
      (d, g, u, given-steps place d g (part-in_fragment i r d u k) v, sym w ∙ ap (Node op) x)

-- ---- where no step leads on

module _ {A B : Type 0} (put : B → Tree A B → Tree A B → Tree A B) where
  none-test : (o : Option (Tree A B)) → ((c : Tree A B) → o ≡ Some c → ⊥) → is_none o ≡ true
  none-test None h = refl
  none-test (Some c) h = absurd (h c refl)

  is-none : (o : Option (Tree A B)) → is_none o ≡ true → o ≡ None
  is-none None h = refl
  is-none (Some c) h = absurd cc

  and-both : (a b : Bool) → a ≡ true → b ≡ true → a && b ≡ true
  and-both a b p q = cc

  mutual
    pub settled-none : (place : List ℕ) (e : Tree A B) → is_settled put e ≡ true → step_at put place e ≡ None
    settled-none [] (Leaf a) h = refl
    settled-none [] (Node op r) h = is-none (reduct put op r) (both-true (is_none (reduct put op r)) (row_is_settled put r) h).0
    settled-none (i ∷ place) (Leaf a) h = refl
    settled-none (i ∷ place) (Node op r) h =
        ap (option_map (λ t. Node op t)) (row_settled-none i place r (both-true (is_none (reduct put op r)) (row_is_settled put r) h).1)

    row_settled-none : (i : ℕ) (place : List ℕ) (r : Row A B) → row_is_settled put r ≡ true → step_part put i place r ≡ None
    row_settled-none i place end h = refl
    row_settled-none zero place (kid b e r) h =
        ap (option_map (λ g. kid b g r)) (settled-none place e (both-true (is_settled put e) (row_is_settled put r) h).0)
    row_settled-none (suc i) place (kid b e r) h =
        ap (option_map (λ s. kid b e s)) (row_settled-none i place r (both-true (is_settled put e) (row_is_settled put r) h).1)

  mutual
    pub none-settled : (e : Tree A B) → ((place : List ℕ) (f : Tree A B) → step_at put place e ≡ Some f → ⊥) → is_settled put e ≡ true
    none-settled (Leaf a) h = refl
    none-settled (Node op r) h =
        and-both _ _ (none-test (reduct put op r) (λ c p. h [] c p)) (none-row_settled r (λ i place s p. h (i ∷ place) (Node op s) (ap (option_map (λ t. Node op t)) p)))

    none-row_settled : (r : Row A B) → ((i : ℕ) (place : List ℕ) (s : Row A B) → step_part put i place r ≡ Some s → ⊥) → row_is_settled put r ≡ true
    none-row_settled end h = refl
    none-row_settled (kid b e r) h =
        and-both _ _ (none-settled e (λ place f p. h zero place (kid b f r) (ap (option_map (λ g. kid b g r)) p)))
        (none-row_settled r (λ i place s p. h (suc i) place (kid b e s) (ap (option_map (λ t. kid b e t)) p)))

module _ {A B : Type 0} (binders : Binders A B) (same : Tree A B → Tree A B → Bool) (too_deep : Tree A B → Bool) where
  pub test-settled : (e : Tree A B) → in_fragment e ≡ true → is_settled binders.put e ≡ true → IsSettled (trees binders same too_deep) e
  test-settled e h p f (place, s) =
      let q = sym (settled-none binders.put place e p) ∙ steps-given binders same too_deep place e f h s in
      absurd cc

  pub settled-test : (e : Tree A B) → in_fragment e ≡ true → IsSettled (trees binders same too_deep) e → is_settled binders.put e ≡ true
  settled-test e h p = none-settled binders.put e (λ place f q. p f (place, given-steps binders same too_deep place e f h q))
