-- What codes are.
use Rattle.std.specs.Prelude.{◌≡◌, ◌≤◌, ℕ, zero, suc, List, [], ◌∷◌, length, Some, None, slice_get, refl, Option, IsTrue}
use Rattle.std.proofs.Common.{sym, ◌∙◌, arith, subst as along}
use Rattle.std.proofs.lemmas.Option.{slice_get_within, get_or_from_slice_get}
use Rattle.dh_syntax.specs.declared.expressions.Op.{Op}
use Rattle.dh_syntax.specs.Expressions.Arity.{fits}
use Rattle.dh_syntax.specs.Expressions.Tree as tree
use Rattle.dh_syntax.specs.Expressions.Tree.{Name}
use Rattle.dh_syntax.specs.Names.Nameless as ref
use Rattle.dh_syntax.specs.Names.Nameless.{Core}
use Rattle.dh_store.specs.declared.codes.Code.{Code}
use Rattle.dh_store.specs.declared.codes.Code.TheVariants as codes
use Rattle.dh_store.specs.declared.codes.CodeKid.{CodeKid}
use Rattle.dh_store.specs.declared.codes.Codes.{Codes}
use Rattle.dh_store.specs.Cells.{nothing, core_at, outside, code_value, code_cores, code_core, IsCoded, AreCoded}
use Rattle.dh_store.proofs.Coding.{code-Bound, code-Free, code-Node, kids-fit, kids-there}
use Rattle.dh_store.proofs.Tables.{length-table}
use Rattle.dh_types.specs.Shown.{IsLeaf, IsNode}
use Rattle.dh_types.proofs.ClosedParts.{closed-node}

pub leaf-is : (e f : Core) → e ≡ f → IsLeaf f → IsLeaf e
leaf-is e f p l = (l.0, p ∙ l.1)

past-end : (es : List Core) (i : ℕ) → length es ≤ i → core_at es i ≡ nothing
past-end [] i h = refl
past-end (e ∷ es) zero h = absurd (omega arith)
past-end (e ∷ es) (suc i) h = past-end es i (omega arith)

none-past : (cs : List Code) (i : ℕ) → slice_get cs i ≡ None → length cs ≤ i
none-past [] i h = omega arith
none-past (c ∷ cs) zero h = absurd cc
none-past (c ∷ cs) (suc i) h = let p = none-past cs i h in omega arith

module _ (cs : Codes) (coded : AreCoded cs) (k : ℕ) where
  pub node-shown : (op : Op) (ks : List CodeKid) → slice_get cs.codes.items k ≡ Some (codes.Node op ks) → IsNode cs k op ks
  node-shown op ks h = record {
    core = code-Node cs coded k op ks h;
    older = (along (IsCoded k) (get_or_from_slice_get cs.codes.items k _ (codes.Bound 0) h) (coded.each k (slice_get_within cs.codes.items k _ h))).0;
    there = kids-there cs coded k op ks h;
    fits = λ f. kids-fit cs coded k op ks f h;
    closed = closed-node (code_core cs k) op (code_core cs) ks (code-Node cs coded k op ks h);
  }

  pub absent-nothing : slice_get cs.codes.items k ≡ None → code_core cs k ≡ nothing
  unfolding code_core
  absent-nothing h = past-end (code_cores cs.codes.items) k (let p = length-table code_value [] cs.codes.items in let q = none-past cs.codes.items k h in omega arith)

  -- what is no node is a variable
  pub absent-leaf : slice_get cs.codes.items k ≡ None → IsLeaf (code_core cs k)
  absent-leaf h = (ref.Bound 0, absent-nothing h)

  pub bound-leaf : (i : ℕ) → slice_get cs.codes.items k ≡ Some (codes.Bound i) → IsLeaf (code_core cs k)
  bound-leaf i h = (ref.Bound i, code-Bound cs coded k i h)

  pub free-leaf : (x : Name) (n : ℕ) → slice_get cs.codes.items k ≡ Some (codes.Free x n) → IsLeaf (code_core cs k)
  free-leaf x n h = (outside x n, code-Free cs coded k x n h)

-- an expression whose root has the parts of its operator
abbrev pub IsFitting : Core → Type 0
IsFitting (tree.Leaf r) = Unit {0}
IsFitting (tree.Node op r) = IsTrue (fits op r)

module _ (cs : Codes) (coded : AreCoded cs) (k : ℕ) where
  fitting-form : (o : Option Code) → slice_get cs.codes.items k ≡ o → IsFitting (code_core cs k)
  fitting-form None h = along IsFitting (sym (absent-nothing cs coded k h)) tt
  fitting-form (Some (codes.Bound i)) h = along IsFitting (sym (code-Bound cs coded k i h)) tt
  fitting-form (Some (codes.Free x n)) h = along IsFitting (sym (code-Free cs coded k x n h)) tt
  fitting-form (Some (codes.Node op ks)) h = along IsFitting (sym (code-Node cs coded k op ks h)) (kids-fit cs coded k op ks (code_core cs) h)

  -- each code has the parts of its operator
  pub code-fitting : IsFitting (code_core cs k)
  code-fitting = fitting-form (slice_get cs.codes.items k) refl
