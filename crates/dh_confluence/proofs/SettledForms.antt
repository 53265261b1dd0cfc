-- No step of the fragment leads on from a normal form.
use Rattle.std.specs.Prelude.{◌≡◌, ℕ, zero, suc, Bool, true, false, ◌&&◌, is_none, List, [], ◌∷◌, Option, Some, None, option_and_then, refl}
use Rattle.std.proofs.Common.{ap, sym, ◌∙◌, subst as along}
use Rattle.dh_syntax.specs.declared.expressions.Op.{Op}
use Rattle.dh_syntax.specs.declared.expressions.Op.TheVariants as ops
use Rattle.dh_syntax.specs.Expressions.Labels.{field_at}
use Rattle.dh_syntax.specs.Expressions.Tree.{Tree, Row, Leaf, Node, end, kid, Name}
use Rattle.dh_syntax.specs.Expressions.Views.{fields, as_record}
use Rattle.dh_syntax.specs.Normalising.Contraction.{Binders}
use Rattle.dh_syntax.specs.Normalising.Heads.{Lang, Extent, Head, Whole, Answer, Found, Wide, Deep, Over, and_then, heading, each, completed, run}
use Rattle.dh_syntax.specs.Normalising.Steps.{op_in_fragment, in_fragment, row_in_fragment}
use Rattle.dh_syntax.specs.Normalising.Trees.{trees, row_parts, replace_row}
use Rattle.dh_confluence.specs.FragmentSteps.{applied, let_put, reduct, is_settled, row_is_settled}
use Rattle.dh_confluence.proofs.RowsRelated.{chosen-some, Beside, fields-beside}
use Rattle.dh_confluence.proofs.Confluent.{both-true}
use Rattle.dh_confluence.proofs.HeadForms.{heads_first, IsHead, IsHeadFirst, IsGood, stages-good, stages-stay}

-- ---- nodes of one shape

module _ {A B : Type 0} where
  -- as many parts, under the same binders
  abbrev SameRow : Row A B → Row A B → Type 0
  SameRow end s = s ≡ end
  SameRow (kid b d r) s = (e : Tree A B) × (t : Row A B) × SameRow r t × (s ≡ kid b e t)

  -- the same root
  abbrev SameRoot : Tree A B → Tree A B → Type 0
  SameRoot (Leaf a) e = e ≡ Leaf a
  SameRoot (Node op r) e = (s : Row A B) × SameRow r s × (e ≡ Node op s)

  same_row-itself : (r : Row A B) → SameRow r r
  same_row-itself end = refl
  same_row-itself (kid b e r) = (e, r, same_row-itself r, refl)

  same_row-replaced : (r : Row A B) (ds : List (Tree A B)) → SameRow (replace_row r ds) r
  same_row-replaced end ds = refl
  same_row-replaced (kid b e r) [] = same_row-itself (kid b e r)
  same_row-replaced (kid b e r) (d ∷ ds) = (e, r, same_row-replaced r ds, refl)

  -- the first parts have the same root
  abbrev SameFirst : Row A B → Row A B → Type 0
  SameFirst (kid None d r) (kid None e s) = SameRoot d e
  SameFirst r s = Unit {0}

  abbrev Anything : Tree A B → Tree A B → Type 0
  Anything d e = Unit {0}

  beside-same : (r s : Row A B) → SameRow r s → Beside Anything r s
  beside-same end s h = h
  beside-same (kid None d r) s (e, t, h, p) = (e, t, tt, beside-same r t h, p)
  beside-same (kid (Some x) d r) s h = tt

module _ {A B : Type 0} (put : B → Tree A B → Tree A B → Tree A B) where
  abbrev Something : Option (Tree A B) → Type 0
  Something o = (c : Tree A B) × (o ≡ Some c)

  applied-same : (f a g b c : Tree A B) → SameRoot f g → applied put f a ≡ Some c → Something (applied put g b)
  applied-same (Node ops.Lam (kid None t (kid (Some x) d r))) a g b c (s, (t', u, (d', v, h, p), q), w) k =
      along (λ z. Something (applied put z b)) (sym (w ∙ ap (Node ops.Lam) (q ∙ ap (kid None t') p))) (put x b d', refl)
  applied-same (Node op r) a g b c h k = absurd cc
  applied-same (Leaf v) a g b c h k = absurd cc

  selected-same : (x : Name) (d e c : Tree A B) → SameRoot d e → option_and_then (field_at x) (as_record d) ≡ Some c → Something (option_and_then (field_at x) (as_record e))
  selected-same x (Leaf v) e c h p = absurd cc
  selected-same x (Node (ops.Record xs) r) e c (s, h, w) p =
      chosen-some (field_at x) (fields xs r) c p λ fs q k.
      let (gs, u, l) = fields-beside Anything xs r s (beside-same r s h) fs q in
      let (g, v, m) = l x c k in
      along (λ z. Something (option_and_then (field_at x) (as_record z))) (sym w) (g, ap (option_and_then (field_at x)) u ∙ v)
  selected-same x (Node op r) e c h p = absurd cc

  let-same : (r s : Row A B) (c : Tree A B) → SameRow r s → let_put put r ≡ Some c → Something (let_put put s)
  let-same (kid None a (kid (Some x) b end)) s c (a', u, (b', v, h, p), q) k =
      along (λ z. Something (let_put put z)) (sym (q ∙ ap (kid None a') (p ∙ ap (kid (Some x) b') h))) (put x a' b', refl)
  let-same (kid None t (kid None a (kid (Some x) b end))) s c (t', w, (a', u, (b', v, h, p), q), y) k =
      along (λ z. Something (let_put put z)) (sym (y ∙ ap (kid None t') (q ∙ ap (kid None a') (p ∙ ap (kid (Some x) b') h)))) (put x a' b', refl)
  let-same r s c h k = absurd cc

  -- the row of a node looks at its shape and, of some, at that of its first part
  reduct-same : (op : Op) (r s : Row A B) (c : Tree A B) → SameRow r s → (heads_first op ≡ true → SameFirst r s) → reduct put op r ≡ Some c → Something (reduct put op s)
  reduct-same ops.App (kid None f (kid None a r)) s c (g, u, (b, v, h, p), q) k l =
      let w = q ∙ ap (kid None g) p in
      along (λ z. Something (reduct put ops.App z)) (sym w)
      (applied-same f a g b c (along (λ z. SameFirst (kid None f (kid None a r)) z) w (k refl)) l)
  reduct-same ops.App r s c h k l = absurd cc
  reduct-same (ops.Let typed) r s c h k l = let-same r s c h l
  reduct-same ops.Annot (kid None d r) s c (e, t, h, q) k l = along (λ z. Something (reduct put ops.Annot z)) (sym q) (e, refl)
  reduct-same ops.Annot r s c h k l = absurd cc
  reduct-same (ops.Field x) (kid None d r) s c (e, t, h, q) k l =
      along (λ z. Something (reduct put (ops.Field x) z)) (sym q)
      (selected-same x d e c (along (λ z. SameFirst (kid None d r) z) q (k refl)) l)
  reduct-same (ops.Field x) r s c h k l = absurd cc
  reduct-same op r s c h k l = absurd cc

  none-same : (op : Op) (r s : Row A B) → SameRow r s → (heads_first op ≡ true → SameFirst r s) → reduct put op s ≡ None → (o : Option (Tree A B)) → reduct put op r ≡ o → is_none o ≡ true
  none-same op r s h k n None q = refl
  none-same op r s h k n (Some c) q = let (d, p) = reduct-same op r s c h k q in absurd (let z = sym n ∙ p in cc)

-- ---- runs

module _ {A B : Type 0} (binders : Binders A B) (same : Tree A B → Tree A B → Bool)
    (kept : (op : Op) (r : Row A B) (c : Tree A B) → row_in_fragment r ≡ true → reduct binders.put op r ≡ Some c → in_fragment c ≡ true) where
  abbrev K : Lang (Tree A B)
  K = trees binders same (λ e. false)

  abbrev Good : Tree A B → Type 0
  Good e = IsGood binders same kept e

  found-equal : (e f : Tree A B) (m n : ℕ) → Found e m ≡ Found f n → e ≡ f
  found-equal e f m n h = cc

  list-equal : (e f : List (Tree A B)) (m n : ℕ) → Found e m ≡ Found f n → e ≡ f
  list-equal e f m n h = cc

  module _ (below : Extent → ℕ → Tree A B → Answer (Tree A B)) where
    heading-good : ((u : ℕ) (d g : Tree A B) (l : ℕ) → in_fragment d ≡ true → below Head u d ≡ Found g l → Good g)
        → (n u : ℕ) (e f : Tree A B) (l : ℕ) → in_fragment e ≡ true → heading K below n u e ≡ Found f l → Good f
    heading-good goes zero u e f l h p = stages-good binders same kept below (λ left d. Over) goes (λ u d g l h p. absurd cc) u e f l h p
    heading-good goes (suc n) u e f l h p =
        stages-good binders same kept below (λ left d. heading K below n left d) goes (λ u d g l h p. heading-good goes n u d g l h p) u e f l h p

    heading-stays : ((u : ℕ) (d g : Tree A B) (l : ℕ) → Good d → below Head u d ≡ Found g l → g ≡ d)
        → (n u : ℕ) (e f : Tree A B) (l : ℕ) → Good e → heading K below n u e ≡ Found f l → f ≡ e
    heading-stays stays zero u e f l h p = stages-stay binders same kept below (λ left d. Over) stays u e f l h p
    heading-stays stays (suc n) u e f l h p = stages-stay binders same kept below (λ left d. heading K below n left d) stays u e f l h p

    -- ---- the parts of a normal form

    each-found : {P : Type 0} (u : ℕ) (e : Tree A B) (es ds : List (Tree A B)) (l : ℕ) → each K below u (e ∷ es) ≡ Found ds l
        → ((d : Tree A B) (v : ℕ) (gs : List (Tree A B)) → below Whole u e ≡ Found d v → each K below v es ≡ Found gs l → d ∷ gs ≡ ds → P) → P
    each-found {P = P} u e es ds l h k = by (below Whole u e) refl h
      where
        rest : (d : Tree A B) (v : ℕ) → below Whole u e ≡ Found d v → (a : Answer (List (Tree A B))) → each K below v es ≡ a → and_then a (λ gs n. Found (d ∷ gs) n) ≡ Found ds l → P
        rest d v p (Found gs n) q w =
            k d v gs p (q ∙ ap (Found gs) (units-equal (d ∷ gs) ds n l w)) (list-equal (d ∷ gs) ds n l w)
          where
            units-equal : (x y : List (Tree A B)) (m n : ℕ) → Found x m ≡ Found y n → m ≡ n
            units-equal x y m n h = cc
        rest d v p (Wide n) q w = absurd cc
        rest d v p (Deep n) q w = absurd cc
        rest d v p Over q w = absurd cc

        by : (a : Answer (Tree A B)) → below Whole u e ≡ a → and_then a (λ d n. and_then (each K below n es) (λ gs n. Found (d ∷ gs) n)) ≡ Found ds l → P
        by (Found d v) p w = rest d v p (each K below v es) refl w
        by (Wide n) p w = absurd cc
        by (Deep n) p w = absurd cc
        by Over p w = absurd cc

    and-true : (a b : Bool) → a ≡ true → b ≡ true → a && b ≡ true
    and-true a b p q = cc

    parts-settled : ((u : ℕ) (d g : Tree A B) (l : ℕ) → in_fragment d ≡ true → below Whole u d ≡ Found g l → is_settled binders.put g ≡ true)
        → (r : Row A B) (u : ℕ) (ds : List (Tree A B)) (l : ℕ) → row_in_fragment r ≡ true → each K below u (row_parts r) ≡ Found ds l → row_is_settled binders.put (replace_row r ds) ≡ true
    parts-settled wholes end u ds l h p = refl
    parts-settled wholes (kid b e r) u ds l h p =
        let (x, y) = both-true (in_fragment e) (row_in_fragment r) h in
        each-found u e (row_parts r) ds l p λ d v gs q s w.
        along (λ z. row_is_settled binders.put (replace_row (kid b e r) z) ≡ true) w
        (and-true _ _ (wholes u e d v x q) (parts-settled wholes r v gs l y s))

    first-same : ((u : ℕ) (d g : Tree A B) (l : ℕ) → Good d → below Whole u d ≡ Found g l → SameRoot g d)
        → (r : Row A B) (u : ℕ) (ds : List (Tree A B)) (l : ℕ) → row_in_fragment r ≡ true → IsHeadFirst binders same kept true r
        → each K below u (row_parts r) ≡ Found ds l → SameFirst (replace_row r ds) r
    first-same roots end u ds l h k p = tt
    first-same roots (kid (Some x) e r) u [] l h k p = tt
    first-same roots (kid (Some x) e r) u (d ∷ ds) l h k p = tt
    first-same roots (kid None e r) u ds l h k p =
        each-found u e (row_parts r) ds l p λ d v gs q s w.
        along (λ z. SameFirst (replace_row (kid None e r) z) (kid None e r)) w
        (roots u e d v ((both-true (in_fragment e) (row_in_fragment r) h).0, k) q)

    -- the normal form of a head
    completed-same : (u : ℕ) (e f : Tree A B) (l : ℕ) → completed K below Whole u e ≡ Found f l → SameRoot f e
    completed-same zero e f l h = absurd cc
    completed-same (suc u) (Leaf a) f l h = along (λ z. SameRoot z (Leaf a)) (found-equal (Leaf a) f u l h) refl
    completed-same (suc u) (Node op r) f l h = by (each K below u (row_parts r)) h
      where
        by : (a : Answer (List (Tree A B))) → and_then a (λ ds n. Found (Node op (replace_row r ds)) n) ≡ Found f l → SameRoot f (Node op r)
        by (Found ds n) w = along (λ z. SameRoot z (Node op r)) (found-equal (Node op (replace_row r ds)) f n l w) (r, same_row-replaced r ds, refl)
        by (Wide n) w = absurd cc
        by (Deep n) w = absurd cc
        by Over w = absurd cc

    module _ (wholes : (u : ℕ) (d g : Tree A B) (l : ℕ) → in_fragment d ≡ true → below Whole u d ≡ Found g l → is_settled binders.put g ≡ true)
        (roots : (u : ℕ) (d g : Tree A B) (l : ℕ) → Good d → below Whole u d ≡ Found g l → SameRoot g d) where
      node-settled : (op : Op) (r : Row A B) (u : ℕ) (ds : List (Tree A B)) (l : ℕ) → row_in_fragment r ≡ true → IsHead binders same kept (Node op r)
          → each K below u (row_parts r) ≡ Found ds l → is_settled binders.put (Node op (replace_row r ds)) ≡ true
      node-settled op r u ds l h (k, g) p =
          and-true _ _
          (none-same binders.put op (replace_row r ds) r (same_row-replaced r ds) (λ o. first-same roots r u ds l h (along (λ b. IsHeadFirst binders same kept b r) o g) p) k (reduct binders.put op (replace_row r ds)) refl)
          (parts-settled wholes r u ds l h p)

      completed-settled : (u : ℕ) (e f : Tree A B) (l : ℕ) → Good e → completed K below Whole u e ≡ Found f l → is_settled binders.put f ≡ true
      completed-settled zero e f l g h = absurd cc
      completed-settled (suc u) (Leaf a) f l g h = along (λ z. is_settled binders.put z ≡ true) (found-equal (Leaf a) f u l h) refl
      completed-settled (suc u) (Node op r) f l (i, g) h = by (each K below u (row_parts r)) refl h
        where
          by : (a : Answer (List (Tree A B))) → each K below u (row_parts r) ≡ a → and_then a (λ ds n. Found (Node op (replace_row r ds)) n) ≡ Found f l → is_settled binders.put f ≡ true
          by (Found ds n) q w =
              along (λ z. is_settled binders.put z ≡ true) (found-equal (Node op (replace_row r ds)) f n l w)
              (node-settled op r u ds n (both-true (op_in_fragment op) (row_in_fragment r) i).1 g q)
          by (Wide n) q w = absurd cc
          by (Deep n) q w = absurd cc
          by Over q w = absurd cc

  -- what follows a head that is found
  headed : {P : Type 0} (a : Answer (Tree A B)) (next : Tree A B → ℕ → Answer (Tree A B)) (f : Tree A B) (l : ℕ) → and_then a next ≡ Found f l
      → ((d : Tree A B) (v : ℕ) → a ≡ Found d v → next d v ≡ Found f l → P) → P
  headed (Found d v) next f l h k = k d v refl h
  headed (Wide n) next f l h k = absurd cc
  headed (Deep n) next f l h k = absurd cc
  headed Over next f l h k = absurd cc

  abbrev lower : ℕ → Extent → ℕ → Tree A B → Answer (Tree A B)
  lower h = λ m u d. run K h m u d

  head-good : (h u : ℕ) (e f : Tree A B) (l : ℕ) → in_fragment e ≡ true → run K h Head u e ≡ Found f l → Good f
  head-good zero u e f l i p = absurd cc
  head-good (suc h) u e f l i p =
      headed (heading K (lower h) u u e) (λ d v. Found d v) f l p λ d v q w.
      along (λ z. Good z) (found-equal d f v l w) (heading-good (lower h) (λ u d g l i p. head-good h u d g l i p) u u e d v i q)

  head-stays : (h u : ℕ) (e f : Tree A B) (l : ℕ) → Good e → run K h Head u e ≡ Found f l → f ≡ e
  head-stays zero u e f l i p = absurd cc
  head-stays (suc h) u e f l i p =
      headed (heading K (lower h) u u e) (λ d v. Found d v) f l p λ d v q w.
      sym (found-equal d f v l w) ∙ heading-stays (lower h) (λ u d g l i p. head-stays h u d g l i p) u u e d v i q

  whole-same : (h u : ℕ) (e f : Tree A B) (l : ℕ) → Good e → run K h Whole u e ≡ Found f l → SameRoot f e
  whole-same zero u e f l i p = absurd cc
  whole-same (suc h) u e f l i p =
      headed (heading K (lower h) u u e) (λ d v. completed K (lower h) Whole v d) f l p λ d v q w.
      along (λ z. SameRoot f z) (heading-stays (lower h) (λ u d g l i p. head-stays h u d g l i p) u u e d v i q) (completed-same (lower h) v d f l w)

  pub whole-settled : (h u : ℕ) (e f : Tree A B) (l : ℕ) → in_fragment e ≡ true → run K h Whole u e ≡ Found f l → is_settled binders.put f ≡ true
  whole-settled zero u e f l i p = absurd cc
  whole-settled (suc h) u e f l i p =
      headed (heading K (lower h) u u e) (λ d v. completed K (lower h) Whole v d) f l p λ d v q w.
      completed-settled (lower h) (λ u d g l i p. whole-settled h u d g l i p) (λ u d g l i p. whole-same h u d g l i p) v d f l
      (heading-good (lower h) (λ u d g l i p. head-good h u d g l i p) u u e d v i q) w
