-- What a letter in front of names changes in codes.
use Rattle.std.specs.Prelude.{◌≡◌, ℕ, zero, suc, true, false, List, ◌∷◌, Option, Some, None, slice_get, IsTrue, refl}
use Rattle.std.proofs.Common.{ap, sym, ◌∙◌, subst as along}
use Rattle.dh_syntax.specs.declared.expressions.Op.{Op}
use Rattle.dh_syntax.specs.Expressions.Arity.{fits}
use Rattle.dh_syntax.specs.Expressions.Tree.{Row, Leaf, Node, end, kid, Name}
use Rattle.dh_syntax.specs.Names.Moves.{moved_row}
use Rattle.dh_syntax.specs.Names.Nameless.{Ref, Bound, Free, Core, past}
use Rattle.dh_store.specs.declared.codes.Code.TheVariants as codes
use Rattle.dh_store.specs.declared.codes.CodeKid.{CodeKid}
use Rattle.dh_store.specs.declared.codes.Codes.{Codes}
use Rattle.dh_store.specs.Cells.{code_core, AreCoded}
use Rattle.dh_store.proofs.Fitting.{binders, fits-same}
use Rattle.dh_norm.specs.Loaded.{AreLoaded}
use Rattle.dh_norm.specs.References.{Apart, lower, renamer, opened, start}
use Rattle.dh_norm.proofs.Loading.{loaded-Bound, loaded-Free, loaded-Node, opened-start}
use Rattle.dh_terms.specs.declared.cores.Core.TheVariants as core_forms
use Rattle.dh_terms.specs.declared.cores.CoreKid.{CoreKid}
use Rattle.dh_terms.specs.Cores.{nameless, nameless_row}
use Rattle.dh_terms.proofs.CoreTrees.{nameless-Bound, nameless-Free, nameless-Node}
use Rattle.dh_infer.specs.Inside.Lettered.{with_letter, lettering, lettered, lettered_row}

-- ---- a binder changes nothing of it

abbrev pub Same : Apart → Apart → Type 0
Same t u = (r : Ref) → t.fun r ≡ u.fun r

same-below : (t u : Apart) → Same t u → Same (lower t) (lower u)
same-below t u h (Bound zero) = refl
same-below t u h (Bound (suc i)) = ap past (h (Bound i))
same-below t u h (Free x n) = ap past (h (Free x n))

mutual
  pub opened-agree : (t u : Apart) (e : Core) → Same t u → opened t e ≡ opened u e
  opened-agree t u (Leaf r) h = ap Leaf (h r)
  opened-agree t u (Node op r) h = ap (Node op) (opened-agree_row t u r h)

  opened-agree_row : (t u : Apart) (r : Row Ref Name) → Same t u → moved_row renamer t r ≡ moved_row renamer u r
  opened-agree_row t u end h = refl
  opened-agree_row t u (kid None e r) h = let p = opened-agree t u e h in let q = opened-agree_row t u r h in cc
  opened-agree_row t u (kid (Some y) e r) h = let p = opened-agree (lower t) (lower u) e (same-below t u h) in let q = opened-agree_row t u r h in cc

lettering-below : Same (lower lettering) lettering
lettering-below (Bound zero) = refl
lettering-below (Bound (suc i)) = refl
lettering-below (Free x n) = refl

pub lettered-below : (e : Core) → opened (lower lettering) e ≡ lettered e
lettered-below e = opened-agree (lower lettering) lettering e lettering-below

pub lettered-kid : (b : Option Name) (e : Core) (r : Row Ref Name) → lettered_row (kid b e r) ≡ kid b (lettered e) (lettered_row r)
lettered-kid None e r = refl
lettered-kid (Some x) e r = ap (λ d. kid (Some x) d (lettered_row r)) (lettered-below e)

-- what has letters is what its codes stand for
mutual
  pub lettered-start : (e : Core) → opened start (lettered e) ≡ lettered e
  lettered-start (Leaf (Bound i)) = refl
  lettered-start (Leaf (Free x n)) = refl
  lettered-start (Node op r) = ap (Node op) (lettered_row-start r)

  lettered_row-start : (r : Row Ref Name) → moved_row renamer start (lettered_row r) ≡ lettered_row r
  lettered_row-start end = refl
  lettered_row-start (kid None e r) = let p = lettered-start e in let q = lettered_row-start r in cc
  lettered_row-start (kid (Some x) e r) =
      let p = opened-start (opened (lower lettering) e) ∙ ap (opened start) (lettered-below e) ∙ lettered-start e ∙ sym (lettered-below e) in
      let q = lettered_row-start r in
      cc

-- ---- parts are as they were

lettered-binders : (r : Row Ref Name) → binders (lettered_row r) ≡ binders r
lettered-binders end = refl
lettered-binders (kid None e r) = ap (λ bs. false ∷ bs) (lettered-binders r)
lettered-binders (kid (Some x) e r) = ap (λ bs. true ∷ bs) (lettered-binders r)

pub lettered-fits : (op : Op) (r : Row Ref Name) → IsTrue (fits op r) → IsTrue (fits op (lettered_row r))
lettered-fits op r h = along IsTrue (sym (fits-same (lettered_row r) r (lettered-binders r) op)) h

-- ---- an expression of the program

pub letters-Bound : (d : Core) (i : ℕ) → d ≡ Leaf (Bound i) → Leaf (Bound i) ≡ lettered d
letters-Bound d i p = ap lettered (sym p)

pub letters-Free : (d : Core) (x : Name) (n : ℕ) → d ≡ Leaf (Free x n) → Leaf (Free (with_letter x) n) ≡ lettered d
letters-Free d x n p = ap lettered (sym p)

pub letters-Node : (d : Core) (op : Op) (r : Row Ref Name) → d ≡ Node op r → lettered d ≡ Node op (lettered_row r)
letters-Node d op r p = ap lettered p

-- ---- codes that are made back into an expression

module _ (cs : Codes) (coded : AreCoded cs) (k : ℕ) where
  pub unlettered-Bound : (i : ℕ) → slice_get cs.codes.items k ≡ Some (codes.Bound i) → code_core cs k ≡ opened start (lettered (nameless (core_forms.Bound i)))
  unlettered-Bound i q = loaded-Bound cs coded k i q ∙ ap (λ d. opened start (lettered d)) (sym (nameless-Bound i))

  pub unlettered-Free : (x y : Name) (n : ℕ) → x ≡ with_letter y → slice_get cs.codes.items k ≡ Some (codes.Free x n) → code_core cs k ≡ opened start (lettered (nameless (core_forms.Free y n)))
  unlettered-Free x y n e q = loaded-Free cs coded k x n q ∙ ap (λ z. opened start (Leaf (Free z n))) e ∙ ap (λ d. opened start (lettered d)) (sym (nameless-Free y n))

  pub unlettered-Node : (op o : Op) (ks : List CodeKid) (js : List CoreKid) → o ≡ op → slice_get cs.codes.items k ≡ Some (codes.Node op ks) → AreLoaded cs ks (lettered_row (nameless_row js))
      → code_core cs k ≡ opened start (lettered (nameless (core_forms.Node o js)))
  unlettered-Node op o ks js e q l =
      loaded-Node cs coded k op ks (lettered_row (nameless_row js)) q l ∙ ap (λ d. opened start (lettered d)) (sym (nameless-Node op js))
      ∙ ap (λ o. opened start (lettered (nameless (core_forms.Node o js)))) (sym e)
