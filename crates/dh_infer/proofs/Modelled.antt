-- What codes stand for, by a function that gives what they stand for.
use Rattle.std.specs.Prelude.{◌≡◌, ◌<◌, ◌==◌, ℕ, zero, suc, true, false, List, [], ◌∷◌, length, Some, None, slice_get}
use Rattle.std.proofs.Common.{ap, sym, ◌∙◌, arith}
use Rattle.dh_syntax.specs.declared.expressions.Op.{Op}
use Rattle.std.proofs.lemmas.Bool.Decides.{nat_tests}
use Rattle.dh_syntax.specs.Expressions.Tree.{Leaf, Node, Name}
use Rattle.dh_syntax.specs.Names.Nameless as ref
use Rattle.dh_syntax.specs.Names.Nameless.{Core}
use Rattle.dh_store.specs.declared.codes.Code.TheVariants as codes
use Rattle.dh_store.specs.declared.codes.CodeKid.{CodeKid}
use Rattle.dh_store.specs.declared.codes.Codes.{Codes}
use Rattle.dh_store.specs.Cells.{code_core, code_row, AreCoded, AreKidsBelow}
use Rattle.dh_store.specs.Growth.{count}
use Rattle.dh_store.proofs.Coding.{code-Bound, code-Free, code_row-agree}
use Rattle.dh_types.specs.Growing.{Grows}
use Rattle.dh_types.specs.Shown.{IsNode}
use Rattle.dh_infer.specs.Inside.OpenTyping.{level}
use Rattle.dh_infer.specs.Inside.Scopes.{Models}

pub models-itself : (cs : Codes) → Models cs (code_core cs)
models-itself cs c l = λ i. code_core cs c

pub models-row : (cs : Codes) (g : ℕ → Core) → Models cs g → (ks : List CodeKid) → AreKidsBelow (count cs) ks → code_row (code_core cs) ks ≡ code_row g ks
models-row cs g m ks b = code_row-agree (code_core cs) g (count cs) ks (λ c l. sym (m c l)) b

pub models-node : (cs : Codes) (g : ℕ → Core) → Models cs g → (k : ℕ) (op : Op) (ks : List CodeKid) → k < count cs → IsNode cs k op ks → g k ≡ Node op (code_row g ks)
models-node cs g m k op ks l n = m k l ∙ n.core ∙ ap (Node op) (models-row cs g m ks n.there)

pub models-before : (old new : Codes) (g : ℕ → Core) → Grows old new → Models new g → Models old g
models-before old new g h m c l = m c (let p = h.more in omega arith) ∙ h.cores c l

-- ---- variables

none-there : {X : Type 0} (xs : List X) (i : ℕ) → slice_get xs i ≡ None → i < length xs → ⊥
none-there [] i h l = omega arith
none-there (x ∷ xs) zero h l = absurd cc
none-there (x ∷ xs) (suc i) h l = none-there xs i h (omega arith)

pub absent : (cs : Codes) (k : ℕ) → slice_get cs.codes.items k ≡ None → k < count cs → ⊥
absent cs k h l = none-there cs.codes.items k h l

module _ (cs : Codes) (coded : AreCoded cs) (k : ℕ) (there : k < count cs) (g : ℕ → Core) (m : Models cs g) where
  pub bound-variable : (i : ℕ) → slice_get cs.codes.items k ≡ Some (codes.Bound i) → g k ≡ Leaf (ref.Bound i)
  bound-variable i h = m k there ∙ code-Bound cs coded k i h

  pub numbered-variable : (x : Name) (n : ℕ) → slice_get cs.codes.items k ≡ Some (codes.Free x n) → (length x == 0) ≡ true → g k ≡ Leaf (level n)
  numbered-variable [] n h p = m k there ∙ code-Free cs coded k [] n h
  numbered-variable (b ∷ x) n h p = absurd (grind (arith, nat_tests))

  pub named-variable : (x : Name) (n : ℕ) → slice_get cs.codes.items k ≡ Some (codes.Free x n) → (length x == 0) ≡ false
      → (b : ℕ) × (y : Name) × (l : ℕ) × (g k ≡ Leaf (ref.Free (b ∷ y) l))
  named-variable [] n h p = absurd cc
  named-variable (b ∷ x) n h p = (b, x, n, m k there ∙ code-Free cs coded k (b ∷ x) n h)
