-- Codes that stand for one expression.
use Rattle.std.specs.Prelude.{◌≡◌, ◌<◌, ◌≤◌, ◌⊎◌, ◌+◌, ℕ, zero, suc, true, List, [], ◌∷◌, ◌++◌, length, drop, Some, slice_get, refl}
use Rattle.std.proofs.Common.{ap, sym, ◌∙◌, arith, get_or, inl, inr, subst as along}
use Rattle.std.proofs.Math.ListN.{drop_of_length-le}
use Rattle.std.proofs.lemmas.List.{drop_more}
use Rattle.dh_syntax.specs.declared.expressions.Op.{Op}
use Rattle.dh_syntax.specs.Expressions.SameTree.{op_eq}
use Rattle.dh_syntax.specs.Expressions.Tree.{Node, kid}
use Rattle.dh_syntax.specs.Names.Nameless.{Core}
use Rattle.dh_syntax.proofs.SameTree.{ops_tell}
use Rattle.dh_store.specs.declared.codes.CodeKid.{CodeKid}
use Rattle.dh_store.specs.declared.codes.Codes.{Codes}
use Rattle.dh_store.specs.Cells.{code_row}
use Rattle.dh_store.specs.Growth.{count}
use Rattle.dh_types.specs.Shown.{IsNode}
use Rattle.dh_infer.specs.Inside.Scopes.{Models}
use Rattle.dh_infer.specs.Inside.Sharing.{AreShared, IsShareOf}
use Rattle.dh_infer.proofs.Modelled.{models-node}

-- ---- one more

last-or-before : (xs : List ℕ) (y i k : ℕ) → slice_get (xs ++ y ∷ []) i ≡ Some k → (slice_get xs i ≡ Some k) ⊎ ((i ≡ length xs) × (k ≡ y))
last-or-before [] y zero k p = inr (refl, some-once y k p)
  where
    some-once : (a b : ℕ) → Some a ≡ Some b → b ≡ a
    some-once a b q = cc
last-or-before [] y (suc i) k p = absurd cc
last-or-before (x ∷ xs) y zero k p = inl p
last-or-before (x ∷ xs) y (suc i) k p = by (last-or-before xs y i k p)
  where
    by : (slice_get xs i ≡ Some k) ⊎ ((i ≡ length xs) × (k ≡ y)) → (slice_get xs i ≡ Some k) ⊎ ((suc i ≡ suc (length xs)) × (k ≡ y))
    by (inl q) = inl q
    by (inr (e, q)) = inr (ap suc e, q)

pub shared-more : (g : ℕ → Core) (firsts : List ℕ) (n k : ℕ) → n ≡ length firsts → IsShareOf g n k → AreShared g firsts → AreShared g (firsts ++ k ∷ [])
shared-more g firsts n k e s h i j p = by (last-or-before firsts k i j p)
  where
    by : (slice_get firsts i ≡ Some j) ⊎ ((i ≡ length firsts) × (j ≡ k)) → IsShareOf g i j
    by (inl q) = h i j q
    by (inr (l, q)) = along (λ z. IsShareOf g z j) (e ∙ sym l) (along (λ z. IsShareOf g n z) (sym q) s)

pub shares_itself : (g : ℕ → Core) (c : ℕ) → IsShareOf g c c
shares_itself g c = record { older = omega arith; core = refl }

pub none-shared : (g : ℕ → Core) (firsts : List ℕ) → firsts ≡ [] → AreShared g firsts
none-shared g firsts e = along (AreShared g) (sym e) (λ i k p. absurd cc)

-- two codes with the same first one
pub one-first : (g : ℕ → Core) (firsts : List ℕ) (c d j k : ℕ) → slice_get firsts c ≡ Some j → slice_get firsts d ≡ Some k → j ≡ k → AreShared g firsts → g c ≡ g d
one-first g firsts c d j k p q e h = sym (h c j p).core ∙ ap g e ∙ (h d k q).core

-- ---- the parts of two nodes

module _ (g : ℕ → Core) (ks js : List CodeKid) (i : ℕ) (k j : CodeKid) (below : i < length ks) (below' : i < length js) (is : k ≡ get_or ks i k) (is' : j ≡ get_or js i j) where
  pub row-next : k.binder ≡ j.binder → g k.code ≡ g j.code → code_row g (drop (i + 1) ks) ≡ code_row g (drop (i + 1) js) → code_row g (drop i ks) ≡ code_row g (drop i js)
  row-next b c h =
      ap (code_row g) (drop_more ks i k below) ∙ ap (λ (x : CodeKid). code_row g (x ∷ drop (i + 1) ks)) (sym is)
      ∙ ap (λ z. kid z (g k.code) (code_row g (drop (i + 1) ks))) b ∙ ap (λ z. kid j.binder z (code_row g (drop (i + 1) ks))) c ∙ ap (kid j.binder (g j.code)) h
      ∙ ap (λ (x : CodeKid). code_row g (x ∷ drop (i + 1) js)) is' ∙ sym (ap (code_row g) (drop_more js i j below'))

pub rows-end : (g : ℕ → Core) (ks js : List CodeKid) (i : ℕ) → length ks ≤ i → length js ≤ i → code_row g (drop i ks) ≡ code_row g (drop i js)
rows-end g ks js i l l' = ap (code_row g) (drop_of_length-le ks l) ∙ sym (ap (code_row g) (drop_of_length-le js l'))

-- ---- two nodes

pub same-node : (cs : Codes) (g : ℕ → Core) → Models cs g → (c d : ℕ) (op other : Op) (ks js : List CodeKid) → c < count cs → d < count cs → IsNode cs c op ks → IsNode cs d other js
    → op_eq op other ≡ true → code_row g ks ≡ code_row g js → g c ≡ g d
same-node cs g m c d op other ks js l l' n n' e r =
    models-node cs g m c op ks l n ∙ ap (λ o. Node o (code_row g ks)) (ops_tell.equal op other e) ∙ ap (Node other) r ∙ sym (models-node cs g m d other js l' n')
