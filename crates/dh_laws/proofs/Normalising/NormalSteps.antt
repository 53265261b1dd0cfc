-- A run finds what steps lead to.
use Rattle.std.specs.Prelude.{◌≡◌, ℕ, zero, suc, Bool, true, false, List, [], ◌∷◌, Option, Some, None, refl}
use Rattle.std.proofs.Common.{ap, sym, ◌∙◌, inl, inr, subst as along}
use Rattle.dh_syntax.specs.declared.expressions.Op.{Op}
use Rattle.dh_syntax.specs.Expressions.Numbers.{le}
use Rattle.dh_syntax.specs.Expressions.Rows.{◌+++◌}
use Rattle.dh_syntax.specs.Expressions.Tree.{Tree, Row, Leaf, Node, end, kid}
use Rattle.dh_syntax.specs.Normalising.Contract.{contract_at}
use Rattle.dh_syntax.specs.Normalising.Contraction.{Contraction, Nothing, Gives, TooWide, IfSame, Binders}
use Rattle.dh_syntax.specs.Normalising.Heads.{Lang, Extent, Head, Whole, Answer, Found, Wide, Deep, Over, and_then, counted, either, contracted, answered, headed_at, stages, heading, each, completed, run}
use Rattle.dh_syntax.specs.Normalising.Needs.{Path, at, set, place, most_needs}
use Rattle.dh_syntax.specs.Normalising.Normal.{HasNormalForm, AreEquivalent}
use Rattle.dh_syntax.specs.Normalising.Steps.{contract, GivesExactly, Contracts, Reaches}
use Rattle.dh_syntax.specs.Normalising.Trees.{trees, row_parts, replace_row}
use Rattle.dh_syntax.proofs.Rows.{+++_assoc}
use Rattle.dh_laws.proofs.Contracting.FullPlaces.{most-set}
use Rattle.dh_laws.proofs.Contracting.LaterStages.{Later, table-later}
use Rattle.dh_laws.proofs.Normalising.StepsInside.{stay, go-on, slot-reaches, inside}

-- a sum
abbrev more : ℕ → ℕ → ℕ
more zero n = n
more (suc m) n = suc (more m n)

more-suc : (m n : ℕ) → more (suc m) n ≡ more m (suc n)
more-suc zero n = refl
more-suc (suc m) n = ap suc (more-suc m n)

below-sum : (m n : ℕ) → le m (more m n) ≡ true
below-sum zero n = refl
below-sum (suc m) n = below-sum m n

module _ {A B : Type 0} (binders : Binders A B) (same : Tree A B → Tree A B → Bool) where
  abbrev T : Type 0
  T = Tree A B

  abbrev K : Lang T
  K = trees binders same (λ e. false)

  found-is : (e f : T) (m n : ℕ) → Found e m ≡ Found f n → e ≡ f
  found-is e f m n h = cc

  list-is : (e f : List T) (m n : ℕ) → Found e m ≡ Found f n → e ≡ f
  list-is e f m n h = cc

  reaches-equal : (e f : T) → e ≡ f → Reaches K e f
  reaches-equal e f p = along (λ x. Reaches K e x) p (stay K e)

  -- one step at the root, and then others
  first-step : (e d f : T) → Contracts K e d → Reaches K d f → Reaches K e f
  first-step e d f c (ps, h) = ([] ∷ ps, (d, c, h))

  -- a row that answers at a stage answers so with all places headed
  module _ (e : T) where
    full-gives : (c : Contraction T) (d : T) → c ≡ Gives d → Later c (contract K e) → Contracts K e d
    full-gives c d p (inl q) = absurd (let r = sym p ∙ q in cc)
    full-gives c d p (inr q) = along (λ x. GivesExactly K x d) (sym (q ∙ p)) refl

    full-same : (c : Contraction T) (l r d : T) → c ≡ IfSame l r d → Later c (contract K e) → AreEquivalent K l r → Contracts K e d
    full-same c l r d p (inl q) both = absurd (let s = sym p ∙ q in cc)
    full-same c l r d p (inr q) both = along (λ x. GivesExactly K x d) (sym (q ∙ p)) (both, refl)

  -- `below` is a run of what stands one higher
  module _ (below : Extent → ℕ → T → Answer T)
      (goes : (m : Extent) (u : ℕ) (d g : T) (l : ℕ) → below m u d ≡ Found g l → Reaches K d g)
      (normal : (u : ℕ) (d g : T) (l : ℕ) → below Whole u d ≡ Found g l → HasNormalForm K d g) where
    module _ (again : ℕ → T → Answer T) (heads : (u : ℕ) (d g : T) (l : ℕ) → again u d ≡ Found g l → Reaches K d g) (e f : T) (left : ℕ) where
      after-contraction : (u : ℕ) (d : T) → Contracts K e d → contracted K again u d ≡ Found f left → Reaches K e f
      after-contraction zero d c h = absurd cc
      after-contraction (suc u) d c h = first-step e d f c (heads u d f left h)

      wide-not : (u : ℕ) → counted u (λ l. Wide l) ≡ Found f left → Reaches K e f
      wide-not zero h = absurd cc
      wide-not (suc u) h = absurd cc

      module _ (none : ℕ → Answer T) (rest : (u : ℕ) → none u ≡ Found f left → Reaches K e f) where
        compared : (l r d l' r' : T) (u v m : ℕ) → Later (IfSame l r d) (contract K e) → below Whole u l ≡ Found l' v → below Whole v r ≡ Found r' m
            → (b : Bool) → same l' r' ≡ b → either b (λ n. contracted K again n d) none m ≡ Found f left → Reaches K e f
        compared l r d l' r' u v m late p q true s h =
            after-contraction m d (full-same e (IfSame l r d) l r d refl late (l', r', normal u l l' v p, normal v r r' m q, s)) h
        compared l r d l' r' u v m late p q false s h = rest m h

        second : (l r d l' : T) (u v : ℕ) → Later (IfSame l r d) (contract K e) → below Whole u l ≡ Found l' v → (a : Answer T) → below Whole v r ≡ a
            → and_then a (λ r' n. either (same l' r') (λ n. contracted K again n d) none n) ≡ Found f left → Reaches K e f
        second l r d l' u v late p (Found r' m) q h = compared l r d l' r' u v m late p q (same l' r') refl h
        second l r d l' u v late p (Wide m) q h = absurd cc
        second l r d l' u v late p (Deep m) q h = absurd cc
        second l r d l' u v late p Over q h = absurd cc

        first : (l r d : T) (u : ℕ) → Later (IfSame l r d) (contract K e) → (a : Answer T) → below Whole u l ≡ a
            → and_then a (λ l' v. and_then (below Whole v r) (λ r' n. either (same l' r') (λ n. contracted K again n d) none n)) ≡ Found f left → Reaches K e f
        first l r d u late (Found l' v) p h = second l r d l' u v late p (below Whole v r) refl h
        first l r d u late (Wide m) p h = absurd cc
        first l r d u late (Deep m) p h = absurd cc
        first l r d u late Over p h = absurd cc

        after-row : (u : ℕ) (c : Contraction T) → Later c (contract K e) → answered K below again u c none ≡ Found f left → Reaches K e f
        after-row u Nothing late h = rest u h
        after-row u (Gives d) late h = after-contraction u d (full-gives e (Gives d) d refl late) h
        after-row u TooWide late h = wide-not u h
        after-row u (IfSame l r d) late h = first l r d u late (below Whole u l) refl h

    module _ (again : ℕ → T → Answer T) (heads : (u : ℕ) (d g : T) (l : ℕ) → again u d ≡ Found g l → Reaches K d g) where
      late-stage : (stage : ℕ) (e : T) → le stage (most_needs e) ≡ true → Later (contract_at binders stage e) (contract K e)
      late-stage stage e h = table-later binders stage (most_needs e) h e

      within : (stage most : ℕ) (e : T) → more stage most ≡ most_needs e → le stage (most_needs e) ≡ true
      within stage most e room = along (λ n. le stage n ≡ true) room (below-sum stage most)

      after-stages : (most stage u : ℕ) (e f : T) (left : ℕ) → more stage most ≡ most_needs e → stages K below again most stage u e ≡ Found f left → Reaches K e f
      after-stages zero stage u e f left room h =
          after-row again heads e f left (λ n. Found e n) (λ v q. reaches-equal e f (found-is e f v left q)) u (contract_at binders stage e) (late-stage stage e (within stage zero e room)) h
      after-stages (suc most) stage u e f left room h =
          after-row again heads e f left (λ n. headed_at K below (place stage e) n e (λ d l. stages K below again most (suc stage) l d))
          (λ v q. after-place (place stage e) refl (λ l d r k. after-stages most (suc stage) l d f left r k) v q) u (contract_at binders stage e) (late-stage stage e (within stage (suc most) e room)) h
        where
          after-head : (p : Path) (v : ℕ) → place stage e ≡ Some p → ((l : ℕ) (d : T) → more (suc stage) most ≡ most_needs d → stages K below again most (suc stage) l d ≡ Found f left → Reaches K d f) → (a : Answer T) → below Head v (at p e) ≡ a
              → and_then a (λ d l. stages K below again most (suc stage) l (set p d e)) ≡ Found f left → Reaches K e f
          after-head p v s onward (Found d l) q k =
              go-on K e (set p d e) f (inside binders same (λ e. false) p e d (goes Head v (at p e) d l q))
              (onward l (set p d e) (more-suc stage most ∙ room ∙ sym (most-set stage p d e s)) k)
          after-head p v s onward (Wide l) q k = absurd cc
          after-head p v s onward (Deep l) q k = absurd cc
          after-head p v s onward Over q k = absurd cc

          after-place : (o : Option Path) → place stage e ≡ o → ((l : ℕ) (d : T) → more (suc stage) most ≡ most_needs d → stages K below again most (suc stage) l d ≡ Found f left → Reaches K d f) → (v : ℕ) → headed_at K below o v e (λ d l. stages K below again most (suc stage) l d) ≡ Found f left → Reaches K e f
          after-place None s onward v k = reaches-equal e f (found-is e f v left k)
          after-place (Some p) s onward v k = after-head p v s onward (below Head v (at p e)) refl k

    after-heading : (n u : ℕ) (e f : T) (left : ℕ) → heading K below n u e ≡ Found f left → Reaches K e f
    after-heading zero u e f left h = after-stages (λ l d. Over) (λ l d g m q. absurd cc) (most_needs e) 0 u e f left refl h
    after-heading (suc n) u e f left h =
        after-stages (λ l d. heading K below n l d) (λ l d g m q. after-heading n l d g m q) (most_needs e) 0 u e f left refl h

    -- the parts of a node, behind those that are normal
    after-parts : (op : Op) (pre r : Row A B) (u : ℕ) (ds : List T) (left : ℕ) → each K below u (row_parts r) ≡ Found ds left → Reaches K (Node op (pre +++ r)) (Node op (pre +++ replace_row r ds))
    after-parts op pre end u ds left h = stay K (Node op (pre +++ end))
    after-parts op pre (kid b e r) u ds left h = first-part (below Whole u e) refl (λ d v es l q. after-parts op (pre +++ kid b d end) r v es l q) h
      where
        other-parts : (d : T) (v : ℕ) → below Whole u e ≡ Found d v → ((es : List T) (l : ℕ) → each K below v (row_parts r) ≡ Found es l → Reaches K (Node op ((pre +++ kid b d end) +++ r)) (Node op ((pre +++ kid b d end) +++ replace_row r es))) → (a : Answer (List T)) → each K below v (row_parts r) ≡ a
            → and_then a (λ es l. Found (d ∷ es) l) ≡ Found ds left → Reaches K (Node op (pre +++ kid b e r)) (Node op (pre +++ replace_row (kid b e r) ds))
        other-parts d v p onward (Found es l) q k =
            along (λ xs. Reaches K (Node op (pre +++ kid b e r)) (Node op (pre +++ replace_row (kid b e r) xs))) (list-is (d ∷ es) ds l left k)
            (go-on K (Node op (pre +++ kid b e r)) (Node op (pre +++ kid b d r)) (Node op (pre +++ kid b d (replace_row r es))) (slot-reaches binders same (λ e. false) op pre b r e d (goes Whole u e d v p))
            (along (λ x. Reaches K (Node op x) (Node op (pre +++ kid b d (replace_row r es)))) (+++_assoc pre (kid b d end) r)
            (along (λ x. Reaches K (Node op ((pre +++ kid b d end) +++ r)) (Node op x)) (+++_assoc pre (kid b d end) (replace_row r es)) (onward es l q))))
        other-parts d v p onward (Wide l) q k = absurd cc
        other-parts d v p onward (Deep l) q k = absurd cc
        other-parts d v p onward Over q k = absurd cc

        first-part : (a : Answer T) → below Whole u e ≡ a
            → ((d : T) (v : ℕ) (es : List T) (l : ℕ) → each K below v (row_parts r) ≡ Found es l → Reaches K (Node op ((pre +++ kid b d end) +++ r)) (Node op ((pre +++ kid b d end) +++ replace_row r es)))
            → and_then a (λ d v. and_then (each K below v (row_parts r)) (λ es l. Found (d ∷ es) l)) ≡ Found ds left
            → Reaches K (Node op (pre +++ kid b e r)) (Node op (pre +++ replace_row (kid b e r) ds))
        first-part (Found d v) p onward k = other-parts d v p (onward d v) (each K below v (row_parts r)) refl k
        first-part (Wide l) p onward k = absurd cc
        first-part (Deep l) p onward k = absurd cc
        first-part Over p onward k = absurd cc

    after-head_found : (m : Extent) (u : ℕ) (e f : T) (left : ℕ) → completed K below m u e ≡ Found f left → Reaches K e f
    after-head_found Head u e f left h = reaches-equal e f (found-is e f u left h)
    after-head_found Whole zero e f left h = absurd cc
    after-head_found Whole (suc u) (Leaf a) f left h = reaches-equal (Leaf a) f (found-is (Leaf a) f u left h)
    after-head_found Whole (suc u) (Node op r) f left h = by (each K below u (row_parts r)) refl h
      where
        by : (a : Answer (List T)) → each K below u (row_parts r) ≡ a → and_then a (λ ds l. Found (Node op (replace_row r ds)) l) ≡ Found f left → Reaches K (Node op r) f
        by (Found ds l) q k = along (λ x. Reaches K (Node op r) x) (found-is (Node op (replace_row r ds)) f l left k) (after-parts op end r u ds l q)
        by (Wide l) q k = absurd cc
        by (Deep l) q k = absurd cc
        by Over q k = absurd cc

  -- one more height
  module _ (heights : ℕ) (goes : (m : Extent) (u : ℕ) (d g : T) (l : ℕ) → run K heights m u d ≡ Found g l → Reaches K d g) where
    abbrev lower : Extent → ℕ → T → Answer T
    lower = λ m u d. run K heights m u d

    higher : (m : Extent) (u : ℕ) (e f : T) (left : ℕ) (a : Answer T) → heading K lower u u e ≡ a → and_then a (λ d l. completed K lower m l d) ≡ Found f left → Reaches K e f
    higher m u e f left (Found d l) q k =
        go-on K e d f (after-heading lower goes (λ u d g l p. (u, l, (heights, p))) u u e d l q) (after-head_found lower goes (λ u d g l p. (u, l, (heights, p))) m l d f left k)
    higher m u e f left (Wide l) q k = absurd cc
    higher m u e f left (Deep l) q k = absurd cc
    higher m u e f left Over q k = absurd cc

  after-run : (heights : ℕ) (m : Extent) (u : ℕ) (e f : T) (left : ℕ) → run K heights m u e ≡ Found f left → Reaches K e f
  after-run zero m u e f left h = absurd cc
  after-run (suc heights) m u e f left h = higher heights (λ m u d g l p. after-run heights m u d g l p) m u e f left (heading K (λ m u d. run K heights m u d) u u e) refl h

-- a normal form is reached by steps
module _ {A B : Type 0} (binders : Binders A B) (same : Tree A B → Tree A B → Bool) (too_deep : Tree A B → Bool) where
  pub reaches-normal : (e f : Tree A B) → HasNormalForm (trees binders same too_deep) e f → Reaches (trees binders same too_deep) e f
  reaches-normal e f (u, left, (heights, h)) = after-run binders same heights Whole u e f left h
