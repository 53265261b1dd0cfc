-- The arguments of a built-in by their places, and the parts of a row by theirs.
use Rattle.std.specs.Prelude.{◌≡◌, true, ℕ, zero, suc, ◌+◌, List, [], ◌∷◌, Option, Some, None, option_map, slice_get, unwrap_or, refl}
use Rattle.std.proofs.Common.{ap, sym, ◌∙◌, arith, subst as along}
use Rattle.dh_syntax.specs.declared.expressions.Op.{Op}
use Rattle.dh_syntax.specs.declared.expressions.Op.TheVariants as ops
use Rattle.dh_syntax.specs.declared.operators.Builtin.{Builtin}
use Rattle.dh_syntax.specs.Normalising.Needs.{part, part_at, part_or_self, all_parts}
use Rattle.dh_syntax.specs.Expressions.Numbers.{le}
use Rattle.dh_syntax.specs.Expressions.Tree.{Tree, Row, Leaf, Node, end, kid}
use Rattle.dh_syntax.specs.Expressions.Views as views

abbrev pub rev_onto : {X : Type 0} → List X → List X → List X
rev_onto [] acc = acc
rev_onto (a ∷ rs) acc = rev_onto rs (a ∷ acc)

rev_onto-twice : {X : Type 0} (rs acc : List X) → rev_onto (rev_onto rs acc) [] ≡ rev_onto acc rs
rev_onto-twice [] acc = refl
rev_onto-twice (a ∷ rs) acc = rev_onto-twice rs (a ∷ acc)

abbrev pub shifted : ℕ → ℕ → ℕ
shifted zero i = i
shifted (suc k) i = shifted k (suc i)

shifted-sum : (k i : ℕ) → shifted k i ≡ k + i
shifted-sum zero i = omega arith
shifted-sum (suc k) i = shifted-sum k (suc i) ∙ (omega arith)

some-equal : {X : Type 0} (x y : X) → Some x ≡ Some y → x ≡ y
some-equal x y h = cc

module _ {A B : Type 0} where
  -- these are the arguments of an application, the last one first
  abbrev pub Back : List (Tree A B) → Tree A B → Type 0
  Back [] e = Unit {0}
  Back (a ∷ rs) e = (part_or_self 1 e ≡ a) × Back rs (part_or_self 0 e)

  back-before : (acc : List (Tree A B)) (e : Tree A B) (b : Builtin) (args : List (Tree A B)) → views.as_call_before acc e ≡ Some (b, args)
      → (rs : List (Tree A B)) × (args ≡ rev_onto rs acc) × Back rs e
  back-before acc (Node (ops.Builtin b') r) b args h = ([], ap (λ (x : Builtin × List (Tree A B)). x.1) (sym (some-equal _ _ h)), tt)
  back-before acc (Node ops.App (kid None f (kid None a r))) b args h =
      let k = back-before (a ∷ acc) f b args h in
      (a ∷ k.0, k.1, (refl, k.2))
  back-before acc (Node op r) b args h = absurd cc
  back-before acc (Leaf a) b args h = absurd cc

  pub call-back : (e : Tree A B) (b : Builtin) (args : List (Tree A B)) → views.as_call e ≡ Some (b, args) → Back (rev_onto args []) e
  call-back e b args h =
      let k = back-before [] e b args h in
      along (λ rs. Back rs e) (sym (rev_onto-twice k.0 []) ∙ ap (λ xs. rev_onto xs []) (sym k.1)) k.2

  -- ---- parts

  pub one-at : (op : Op) (r : Row A B) (p : Tree A B) → views.first_part r ≡ Some p → part_or_self 0 (Node op r) ≡ p
  one-at op (kid None e r) p h = some-equal _ _ h
  one-at op end p h = absurd cc
  one-at op (kid (Some x) e r) p h = absurd cc

  pub two-at : (op : Op) (r : Row A B) (p : Tree A B × Tree A B) → views.first_two r ≡ Some p
      → (part_or_self 0 (Node op r) ≡ p.0) × (part_or_self 1 (Node op r) ≡ p.1)
  two-at op (kid None e (kid None f r)) p h = let q = some-equal _ _ h in (ap (λ x. x.0) q, ap (λ x. x.1) q)
  two-at op end p h = absurd cc
  two-at op (kid (Some x) e r) p h = absurd cc
  two-at op (kid None e end) p h = absurd cc
  two-at op (kid None e (kid (Some x) f r)) p h = absurd cc

  pub three-at : (op : Op) (r : Row A B) (p : Tree A B × Tree A B × Tree A B) → views.first_three r ≡ Some p
      → (part_or_self 0 (Node op r) ≡ p.0) × (part_or_self 1 (Node op r) ≡ p.1) × (part_or_self 2 (Node op r) ≡ p.2)
  three-at op (kid None e (kid None f (kid None g r))) p h = let q = some-equal _ _ h in (ap (λ x. x.0) q, ap (λ x. x.1) q, ap (λ x. x.2) q)
  three-at op end p h = absurd cc
  three-at op (kid (Some x) e r) p h = absurd cc
  three-at op (kid None e end) p h = absurd cc
  three-at op (kid None e (kid (Some x) f r)) p h = absurd cc
  three-at op (kid None e (kid None f end)) p h = absurd cc
  three-at op (kid None e (kid None f (kid (Some x) g r))) p h = absurd cc

  all_parts-get : (k i : ℕ) (r : Row A B) (d : Tree A B) → part_at k r ≡ Some d → slice_get (all_parts i r) k ≡ Some (part (shifted k i))
  all_parts-get zero i (kid None e r) d h = refl
  all_parts-get zero i (kid (Some x) e r) d h = absurd cc
  all_parts-get zero i end d h = absurd cc
  all_parts-get (suc k) i (kid b e r) d h = all_parts-get k (suc i) r d h
  all_parts-get (suc k) i end d h = absurd cc

  pub all_parts-at : (k : ℕ) (r : Row A B) (d : Tree A B) → part_at k r ≡ Some d → slice_get (all_parts 0 r) k ≡ Some (part k)
  all_parts-at k r d h = all_parts-get k 0 r d h ∙ ap (λ n. Some (part n)) (shifted-sum k 0 ∙ (omega arith))

  pub part-known : (k : ℕ) (op : Op) (r : Row A B) (d : Tree A B) → part_at k r ≡ Some d → part_or_self k (Node op r) ≡ d
  part-known k op r d h = ap (λ o. unwrap_or o (Node op r)) h

  pub cons-bodies : (e : Tree A B) (o : Option (List (Tree A B))) (es : List (Tree A B)) → option_map (λ xs. e ∷ xs) o ≡ Some es
      → (ds : List (Tree A B)) × (o ≡ Some ds) × (es ≡ e ∷ ds)
  cons-bodies e (Some ds) es h = (ds, refl, sym (some-equal _ _ h))
  cons-bodies e None es h = absurd cc

pub le-less : (k n : ℕ) → le (suc k) n ≡ true → le k n ≡ true
le-less zero n h = refl
le-less (suc k) zero h = absurd cc
le-less (suc k) (suc n) h = le-less k n h
