-- Where a place is headed, one place more is ready.
use Rattle.std.specs.Prelude.{◌≡◌, ◌⊎◌, true, ℕ, zero, suc, [], ◌∷◌, Some, None, slice_get, refl}
use Rattle.std.proofs.Common.{inl, inr}
use Rattle.dh_syntax.specs.declared.expressions.Op.{Op}
use Rattle.dh_syntax.specs.declared.expressions.Op.TheVariants as ops
use Rattle.dh_syntax.specs.declared.operators.BinOp.{BinOp}
use Rattle.dh_syntax.specs.declared.operators.BinOp.TheVariants as bins
use Rattle.dh_syntax.specs.Normalising.Needs.{part, operator_needs, all_parts, place, part_at, change_part, part_or_self, Path}
use Rattle.dh_syntax.specs.Expressions.Numbers.{le}
use Rattle.dh_syntax.specs.Expressions.Tree.{Tree, Row, Node, end, kid}
use Rattle.dh_laws.specs.Grafts.{Graft, Shown, ShownRow, Ready}

some-equal : {X : Type 0} (x y : X) → Some x ≡ Some y → x ≡ y
some-equal x y h = cc

-- ---- places of nodes that are no applications are parts

one-part : (n q k : ℕ) (p : Path) → slice_get (part n ∷ []) k ≡ Some p → (q : ℕ) × (part q ≡ p)
one-part n q zero p h = (n, some-equal _ _ h)
one-part n q (suc k) p h = absurd cc

two-parts : (n n' k : ℕ) (p : Path) → slice_get (part n ∷ part n' ∷ []) k ≡ Some p → (q : ℕ) × (part q ≡ p)
two-parts n n' zero p h = (n, some-equal _ _ h)
two-parts n n' (suc zero) p h = (n', some-equal _ _ h)
two-parts n n' (suc (suc k)) p h = absurd cc

three-parts : (k : ℕ) (p : Path) → slice_get (part 0 ∷ part 1 ∷ part 2 ∷ []) k ≡ Some p → (q : ℕ) × (part q ≡ p)
three-parts zero p h = (0, some-equal _ _ h)
three-parts (suc zero) p h = (1, some-equal _ _ h)
three-parts (suc (suc zero)) p h = (2, some-equal _ _ h)
three-parts (suc (suc (suc k))) p h = absurd cc

operator-parts : (o : BinOp) (k : ℕ) (p : Path) → slice_get (operator_needs o) k ≡ Some p → (q : ℕ) × (part q ≡ p)
operator-parts bins.TextAppend k p h = absurd cc
operator-parts bins.Fallback k p h = absurd cc
operator-parts bins.Equivalent k p h = absurd cc
operator-parts bins.Complete k p h = absurd cc
operator-parts o k p h = two-parts 0 1 k p h

module _ {A B : Type 0} where
  many-parts : (i k : ℕ) (r : Row A B) (p : Path) → slice_get (all_parts i r) k ≡ Some p → (q : ℕ) × (part q ≡ p)
  many-parts i k end p h = absurd cc
  many-parts i zero (kid b e r) p h = (i, some-equal _ _ h)
  many-parts i (suc k) (kid b e r) p h = many-parts (suc i) k r p h

  pub node-parts : (op : Op) (r : Row A B) (k : ℕ) (p : Path) → (op ≡ ops.App → ⊥) → place k (Node op r) ≡ Some p → (q : ℕ) × (part q ≡ p)
  node-parts ops.App r k p n h = absurd (n refl)
  node-parts ops.If r k p n h = three-parts k p h
  node-parts (ops.Bin o) r k p n h = operator-parts o k p h
  node-parts (ops.Text ps) r k p n h = many-parts 0 k r p h
  node-parts (ops.Merge typed) r k p n h = two-parts 1 0 k p h
  node-parts (ops.ToMap typed) r k p n h = one-part 0 0 k p h
  node-parts (ops.Field x) r k p n h = one-part 0 0 k p h
  node-parts (ops.Project []) r k p n h = absurd cc
  node-parts (ops.Project (x ∷ xs)) r k p n h = one-part 0 0 k p h
  node-parts ops.ProjectType r k p n h = one-part 1 0 k p h
  node-parts (ops.With path) r k p n h = one-part 0 0 k p h
  node-parts op r k p n h = absurd cc

module _ {S A B C D : Type 0} (m : Graft S A B C D) (s : S) where
  -- ---- a part that is looked at and is not there

  missing-two : (o : BinOp) (r : Row A B) (k q : ℕ) → slice_get (part 0 ∷ part 1 ∷ []) k ≡ Some (part q) → part_at q r ≡ None
      → (le 1 k ≡ true → Shown m s (part_or_self 0 (Node (ops.Bin o) r))) → ShownRow m s 2 r
  missing-two o end k q h n y = tt
  missing-two o (kid (Some x) e r) k q h n y = tt
  missing-two o (kid None e end) zero q h n y = absurd (let e = some-equal _ _ h in cc)
  missing-two o (kid None e end) (suc k) q h n y = (y refl, tt)
  missing-two o (kid None e (kid (Some x) f r)) zero q h n y = absurd (let e = some-equal _ _ h in cc)
  missing-two o (kid None e (kid (Some x) f r)) (suc k) q h n y = (y refl, tt)
  missing-two o (kid None e (kid None f r)) zero q h n y = absurd (let e = some-equal _ _ h in cc)
  missing-two o (kid None e (kid None f r)) (suc zero) q h n y = absurd (let e = some-equal _ _ h in cc)
  missing-two o (kid None e (kid None f r)) (suc (suc k)) q h n y = absurd cc

  missing-one : (r : Row A B) (k q : ℕ) → slice_get (part 0 ∷ []) k ≡ Some (part q) → part_at q r ≡ None → ShownRow m s 1 r
  missing-one end k q h n = tt
  missing-one (kid (Some x) e r) k q h n = tt
  missing-one (kid None e r) zero q h n = absurd (let e = some-equal _ _ h in cc)
  missing-one (kid None e r) (suc k) q h n = absurd cc

  missing-shown : (op : Op) (r : Row A B) (k q : ℕ) → (op ≡ ops.App → ⊥) → place k (Node op r) ≡ Some (part q) → part_at q r ≡ None
      → Ready m s k (Node op r) → Shown m s (Node op r)
  missing-shown ops.App r k q a h n y = absurd (a refl)
  missing-shown (ops.Field x) r k q a h n y = missing-one r k q h n
  missing-shown (ops.Bin bins.Prefer) r k q a h n y = missing-two bins.Prefer r k q h n (λ z. y 0 z)
  missing-shown (ops.Bin bins.Combine) r k q a h n y = missing-two bins.Combine r k q h n (λ z. y 0 z)
  missing-shown op r k q a h n y = tt

  some-part : (q : ℕ) (d e : Tree A B) (r : Row A B) → part_at q r ≡ Some e → part_at q (change_part q (λ x. d) r) ≡ Some d
  some-part zero d e (kid None f r) h = refl
  some-part zero d e (kid (Some x) f r) h = absurd cc
  some-part zero d e end h = absurd cc
  some-part (suc q) d e (kid b f r) h = some-part q d e r h
  some-part (suc q) d e end h = absurd cc

  -- ---- a node that is no application

  -- ---- an application

  first-now : (d : Tree A B) (r : Row A B) → Shown m s d → Shown m s (part_or_self 0 (Node ops.App (change_part 0 (λ x. d) r)))
  first-now d end h = tt
  first-now d (kid None e r) h = h
  first-now d (kid (Some x) e r) h = tt

  is_app : (op : Op) → (op ≡ ops.App) ⊎ (op ≡ ops.App → ⊥)
  is_app ops.App = inl refl
  is_app op = inr (λ h. absurd cc)
