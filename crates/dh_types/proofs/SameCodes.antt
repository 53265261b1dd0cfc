-- Comparing the parts of two nodes, one by one.
use Rattle.std.specs.Prelude.{◌≡◌, ◌<◌, ℕ, zero, suc, true, false, ◌&&◌, nat_eq, List, [], ◌∷◌, length, refl}
use Rattle.std.proofs.Common.{sym, ◌∙◌, ap, arith, get_or, subst as along}
use Rattle.std.proofs.Math.Bool.{and-false}
use Rattle.dh_syntax.specs.declared.expressions.Op.{Op}
use Rattle.dh_syntax.specs.Expressions.SameTree.{op_eq, option_eq}
use Rattle.dh_syntax.specs.Expressions.Tree.{Leaf, Node}
use Rattle.dh_syntax.specs.Names.Nameless as ref
use Rattle.dh_syntax.specs.Names.Nameless.{Core}
use Rattle.dh_syntax.specs.Normalising.NamelessRuns.{nameless_eq, nameless_row_eq}
use Rattle.dh_syntax.proofs.NativeTests.{eq-native}
use Rattle.dh_laws.proofs.Normalising.NamelessTests.{core_test}
use Rattle.dh_store.specs.declared.codes.CodeKid.{CodeKid}
use Rattle.dh_store.specs.Cells.{code_row, AreKidsBelow}

pub same-itself : (c d : Core) → c ≡ d → true ≡ nameless_eq c d
same-itself c d e = sym (ap (nameless_eq c) (sym e) ∙ (core_test c c).1 refl)

pub same-nodes : (c d : Core) (o p : Op) (f : ℕ → Core) (ks js : List CodeKid) → c ≡ Node o (code_row f ks) → d ≡ Node p (code_row f js) → nameless_eq c d ≡ (op_eq o p && nameless_row_eq (code_row f ks) (code_row f js))
same-nodes c d o p f ks js e h = ap (λ x. nameless_eq x d) e ∙ ap (nameless_eq (Node o (code_row f ks))) h

pub same-bound : (c d : Core) (i j : ℕ) → c ≡ Leaf (ref.Bound i) → d ≡ Leaf (ref.Bound j) → nat_eq i j ≡ nameless_eq c d
same-bound c d i j e h = sym (eq-native i j) ∙ sym (ap (λ x. nameless_eq x d) e ∙ ap (nameless_eq (Leaf (ref.Bound i))) h)

module _ (f : ℕ → Core) where
  pub counts-differ : (ks js : List CodeKid) → (length ks ≡ length js → ⊥) → nameless_row_eq (code_row f ks) (code_row f js) ≡ false
  counts-differ [] [] h = absurd (h refl)
  counts-differ [] (j ∷ js) h = refl
  counts-differ (k ∷ ks) [] h = refl
  counts-differ (k ∷ ks) (j ∷ js) h =
      ap (λ b. option_eq (λ x y. true) k.binder j.binder && nameless_eq (f k.code) (f j.code) && b) (counts-differ ks js (λ e. h (omega arith)))
      ∙ and-false (option_eq (λ x y. true) k.binder j.binder && nameless_eq (f k.code) (f j.code))

  pub other-counts : (c d : Core) (o p : Op) (ks js : List CodeKid) → c ≡ Node o (code_row f ks) → d ≡ Node p (code_row f js) → (length ks ≡ length js → ⊥) → false ≡ nameless_eq c d
  other-counts c d o p ks js e h n = sym (same-nodes c d o p f ks js e h ∙ ap (λ b. op_eq o p && b) (counts-differ ks js n) ∙ and-false (op_eq o p))

-- a part is older than its node
pub kid-below : (n : ℕ) (ks : List CodeKid) (i : ℕ) (d : CodeKid) → AreKidsBelow n ks → i < length ks → (get_or ks i d).code < n
kid-below n [] i d b h = absurd (omega arith)
kid-below n (k ∷ ks) zero d b h = b.0
kid-below n (k ∷ ks) (suc i) d b h = kid-below n ks i d b.1 (omega arith)

pub kid-older : (n t : ℕ) (ks : List CodeKid) (i : ℕ) (d : CodeKid) → AreKidsBelow n ks → i < length ks → n ≡ t → (get_or ks i d).code < t
kid-older n t ks i d b h e = let p = kid-below n ks i d b h in omega arith

pub kid-at : (n : ℕ) (ks : List CodeKid) (i : ℕ) (d : CodeKid) → AreKidsBelow n ks → i < length ks → d ≡ get_or ks i d → d.code < n
kid-at n ks i d b h e = along (λ (k : CodeKid). k.code < n) (sym e) (kid-below n ks i d b h)
