-- Steps within a part are steps of the whole.
use Rattle.std.specs.Prelude.{◌≡◌, ℕ, zero, suc, Bool, List, [], ◌∷◌, ◌++◌, map, Option, Some, None, slice_get, slice_set, unwrap_or, refl}
use Rattle.std.proofs.Common.{ap, sym, subst as along}
use Rattle.dh_syntax.specs.declared.expressions.Op.{Op}
use Rattle.dh_syntax.specs.Expressions.Rows.{◌+++◌, row_length}
use Rattle.dh_syntax.specs.Expressions.Tree.{Tree, Row, Leaf, Node, end, kid}
use Rattle.dh_syntax.specs.Normalising.Contraction.{Binders}
use Rattle.dh_syntax.specs.Normalising.Heads.{Lang}
use Rattle.dh_syntax.specs.Normalising.Needs.{Path, at, set, part_at, change_part}
use Rattle.dh_syntax.specs.Normalising.Steps.{ReachesBy, Reaches}
use Rattle.dh_syntax.specs.Normalising.Trees.{trees, row_parts, replace_row}

-- ---- lists of steps

module _ {T : Type 0} (L : Lang T) where
  pub stay : (e : T) → Reaches L e e
  stay e = ([], refl)

  then-by : (ps qs : List (List ℕ)) (e f g : T) → ReachesBy L ps e f → ReachesBy L qs f g → ReachesBy L (ps ++ qs) e g
  then-by [] qs e f g p q = along (λ x. ReachesBy L qs x g) (sym p) q
  then-by (r ∷ ps) qs e f g (d, s, p) q = (d, s, then-by ps qs d f g p q)

  pub go-on : (e f g : T) → Reaches L e f → Reaches L f g → Reaches L e g
  go-on e f g (ps, p) (qs, q) = (ps ++ qs, then-by ps qs e f g p q)

-- ---- parts

module _ {A B : Type 0} where
  abbrev node : Op → Row A B → Tree A B
  node op r = Node op r

  own-parts : (r : Row A B) → replace_row r (row_parts r) ≡ r
  own-parts end = refl
  own-parts (kid b e r) = ap (kid b e) (own-parts r)

  slot-part : (pre : Row A B) (b : Option B) (d : Tree A B) (r : Row A B) → slice_get (row_parts (pre +++ kid b d r)) (row_length pre) ≡ Some d
  slot-part end b d r = refl
  slot-part (kid c e pre) b d r = slot-part pre b d r

  slot-replaced : (pre : Row A B) (b : Option B) (d g : Tree A B) (r : Row A B)
      → replace_row (pre +++ kid b d r) (slice_set (row_parts (pre +++ kid b d r)) (row_length pre) g) ≡ pre +++ kid b g r
  slot-replaced end b d g r = ap (kid b g) (own-parts r)
  slot-replaced (kid c e pre) b d g r = ap (kid c e) (slot-replaced pre b d g r)

  -- a part under no binder stands between others
  part-slot : (i : ℕ) (r : Row A B) (k : Tree A B) → part_at i r ≡ Some k
      → (pre : Row A B) × (q : Row A B) × (r ≡ pre +++ kid None k q) × ((f : Tree A B → Tree A B) → change_part i f r ≡ pre +++ kid None (f k) q)
  part-slot zero (kid None e r) k h = (end, r, is (some-equal e k h), λ f. ap (λ x. kid None (f x) r) (some-equal e k h))
    where
      some-equal : (x y : Tree A B) → Some x ≡ Some y → x ≡ y
      some-equal x y p = cc

      is : e ≡ k → kid None e r ≡ kid None k r
      is p = ap (λ x. kid None x r) p
  part-slot zero (kid (Some x) e r) k h = absurd cc
  part-slot (suc i) (kid b e r) k h =
      let (pre, q, p, c) = part-slot i r k h in
      (kid b e pre, q, ap (kid b e) p, λ f. ap (kid b e) (c f))
  part-slot zero end k h = absurd cc
  part-slot (suc i) end k h = absurd cc

  no-part : (i : ℕ) (r : Row A B) (f : Tree A B → Tree A B) → part_at i r ≡ None → change_part i f r ≡ r
  no-part zero (kid None e r) f h = absurd cc
  no-part zero (kid (Some x) e r) f h = refl
  no-part (suc i) (kid b e r) f h = ap (kid b e) (no-part i r f h)
  no-part zero end f h = refl
  no-part (suc i) end f h = refl

  module _ (binders : Binders A B) (same : Tree A B → Tree A B → Bool) (too_deep : Tree A B → Bool) where
    abbrev L : Lang (Tree A B)
    L = trees binders same too_deep

    slot-by : (op : Op) (pre : Row A B) (b : Option B) (r : Row A B) (ps : List (List ℕ)) (d g : Tree A B) → ReachesBy L ps d g
        → ReachesBy L (map (λ p. row_length pre ∷ p) ps) (Node op (pre +++ kid b d r)) (Node op (pre +++ kid b g r))
    slot-by op pre b r [] d g h = ap (λ x. node op (pre +++ kid b x r)) h
    slot-by op pre b r (p ∷ ps) d g (h, s, q) =
        (Node op (pre +++ kid b h r), (d, h, slot-part pre b d r, s, ap (node op) (sym (slot-replaced pre b d h r))), slot-by op pre b r ps h g q)

    pub slot-reaches : (op : Op) (pre : Row A B) (b : Option B) (r : Row A B) (d g : Tree A B) → Reaches L d g
        → Reaches L (Node op (pre +++ kid b d r)) (Node op (pre +++ kid b g r))
    slot-reaches op pre b r d g (ps, h) = (map (λ p. row_length pre ∷ p) ps, slot-by op pre b r ps d g h)

    -- what is at a place leads on there
    pub inside : (p : Path) (e d : Tree A B) → Reaches L (at p e) d → Reaches L e (set p d e)
    inside [] e d h = h
    inside (i ∷ p) (Leaf a) d h = stay L (Leaf a)
    inside (i ∷ p) (Node op r) d h = by (part_at i r) refl (λ k s. inside p k d s) h
      where
        found : (k : Tree A B) → part_at i r ≡ Some k → Reaches L k (set p d k) → Reaches L (Node op r) (Node op (change_part i (λ x. set p d x) r))
        found k q s =
            let (pre, rest, is, changed) = part-slot i r k q in
            along (λ x. Reaches L x (Node op (change_part i (λ x. set p d x) r))) (ap (node op) (sym is))
            (along (λ x. Reaches L (Node op (pre +++ kid None k rest)) x) (ap (node op) (sym (changed (λ x. set p d x)))) (slot-reaches op pre None rest k (set p d k) s))

        by : (o : Option (Tree A B)) → part_at i r ≡ o → ((k : Tree A B) → Reaches L (at p k) d → Reaches L k (set p d k)) → Reaches L (at p (unwrap_or o (Node op r))) d → Reaches L (Node op r) (Node op (change_part i (λ x. set p d x) r))
        by (Some k) q part s = found k q (part k s)
        by None q part s = along (λ x. Reaches L (Node op r) x) (ap (node op) (sym (no-part i r (λ x. set p d x) q))) (stay L (Node op r))
