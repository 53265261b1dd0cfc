-- Codes that were changed, as more are made.
use Rattle.std.specs.Prelude.{◌≡◌, ◌<◌, ◌&&◌, ℕ, Bool, true, false, nat_eq, List, Some, Result, Ok, Err, IfOk, IsTrue, OnOk, slice_get, if◌then◌else◌, refl}
use Rattle.std.proofs.Common.{ap, sym, ◌∙◌, arith, subst as along}
use Rattle.std.proofs.lemmas.Bool.{false≢true}
use Rattle.dh_syntax.specs.declared.expressions.Op.{Op}
use Rattle.dh_syntax.specs.Expressions.Arity.{fits}
use Rattle.dh_syntax.specs.Expressions.Tree.{Leaf, Node, Name}
use Rattle.dh_syntax.specs.Names.Nameless as ref
use Rattle.dh_syntax.specs.Names.Nameless.{Ref, Core}
use Rattle.dh_syntax.proofs.NativeTests.{eq-native}
use Rattle.dh_syntax.proofs.Numbers.{eq-true}
use Rattle.dh_store.specs.declared.codes.Code.{Code}
use Rattle.dh_store.specs.declared.codes.Code.TheVariants as codes
use Rattle.dh_store.specs.declared.codes.CodeKid.{CodeKid}
use Rattle.dh_store.specs.declared.codes.Codes.{Codes}
use Rattle.dh_store.specs.Cells.{code_core, code_row, nothing, outside, AreCoded, AreKidsBelow}
use Rattle.dh_store.specs.Growth.{count}
use Rattle.dh_store.proofs.Coding.{code-Bound, code-Free, code-Node, code-there}
use Rattle.dh_types.specs.declared.changes.Change.{Change}
use Rattle.dh_types.specs.declared.changes.Change.TheVariants as changes
use Rattle.dh_types.specs.declared.changes.Plan.{Plan}
use Rattle.dh_types.specs.declared.changes.Plan.TheVariants as plans
use Rattle.dh_types.specs.declared.memos.Memo.{Memo}
use Rattle.dh_types.specs.Growing.{Grows, Stands}
use Rattle.dh_types.specs.Memos.{entry}
use Rattle.dh_types.specs.Inside.Changes.{changed, changed_row, leaf_by, put_ref, AreChanged, IsChangeBelow, IsPlan}
use Rattle.dh_types.proofs.Grown.{stands-later, stands-with}

-- ---- what is to be made of a code

pub node-made : (cs : Codes) (change : Change) (level : ℕ) (op op' : Op) (ks js : List CodeKid) → op' ≡ op → code_row (code_core cs) js ≡ changed_row (leaf_by (code_core cs) change) level (code_row (code_core cs) ks) → AreKidsBelow (count cs) js
    → code_row (λ c. nothing) js ≡ code_row (λ c. nothing) ks → IsTrue (fits op (code_row (λ c. nothing) ks)) → IsPlan cs change level (Node op (code_row (code_core cs) ks)) (plans.Rebuild op' js)
node-made cs change level op op' ks js e row below shape fit =
    (ap (Node op) (sym row) ∙ ap (λ o. Node o (code_row (code_core cs) js)) (sym e), below, ap (λ o. fits o (code_row (λ c. nothing) js)) e ∙ ap (fits op) shape ∙ fit)

module _ (cs : Codes) (coded : AreCoded cs) (change : Change) (level id : ℕ) where
  pub plan-along : {E : Type 0} (e : Core) (r : Result Plan E) → code_core cs id ≡ e → IfOk r (λ p. IsPlan cs change level e p) → IfOk r (λ p. IsPlan cs change level (code_core cs id) p)
  plan-along e (Ok p) q h = along (λ d. IsPlan cs change level d p) (sym q) h
  plan-along e (Err x) q h = tt

  pub node-plan : {E : Type 0} (op : Op) (ks : List CodeKid) (r : Result Plan E) → slice_get cs.codes.items id ≡ Some (codes.Node op ks) → IfOk r (λ p. IsPlan cs change level (Node op (code_row (code_core cs) ks)) p)
      → IfOk r (λ p. IsPlan cs change level (code_core cs id) p)
  node-plan op ks r h p = plan-along _ r (code-Node cs coded id op ks h) p

  pub bound-plan : (i : ℕ) (p : Plan) → slice_get cs.codes.items id ≡ Some (codes.Bound i) → IsPlan cs change level (Leaf (ref.Bound i)) p → IsPlan cs change level (code_core cs id) p
  bound-plan i p h q = along (λ d. IsPlan cs change level d p) (sym (code-Bound cs coded id i h)) q

  pub free-plan : (x : Name) (n : ℕ) (p : Plan) → slice_get cs.codes.items id ≡ Some (codes.Free x n) → IsPlan cs change level (Leaf (outside x n)) p → IsPlan cs change level (code_core cs id) p
  free-plan x n p h q = along (λ d. IsPlan cs change level d p) (sym (code-Free cs coded id x n h)) q

  pub on-there : {X E : Type 0} (code : Code) (r : Result X E) → slice_get cs.codes.items id ≡ Some code → OnOk r (id < count cs)
  on-there code (Ok x) h = code-there cs coded id code h
  on-there code (Err x) h = tt

-- ---- one more code is changed

leaf-later : (old new : Codes) (change : Change) → Grows old new → IsChangeBelow (count old) change → leaf_by (code_core new) change ≡ leaf_by (code_core old) change
leaf-later old new (changes.Binds n) g b = refl
leaf-later old new (changes.Puts c) g b = ap (λ a k r. put_ref a k r) (g.cores c b)

pub changed-later : (old new : Codes) (change : Change) (k c : ℕ) → Grows old new → IsChangeBelow (count old) change → c < count old
    → changed (leaf_by (code_core new) change) k (code_core new c) ≡ changed (leaf_by (code_core old) change) k (code_core old c)
changed-later old new change k c g b h =
    ap (λ f. changed f k (code_core new c)) (leaf-later old new change g b) ∙ ap (changed (leaf_by (code_core old) change) k) (g.cores c h)

pub same-number : (m n : ℕ) → nat_eq m n ≡ true → m ≡ n
same-number m n h = eq-true m n (eq-native m n ∙ h)

pub both-true : (a b : Bool) → (a && b) ≡ true → (a ≡ true) × (b ≡ true)
both-true true true h = (refl, refl)
both-true true false h = absurd (false≢true h)
both-true false b h = absurd (false≢true h)

some-once : (x y : ℕ) → Some x ≡ Some y → x ≡ y
some-once x y e = cc

module _ (old new : Codes) (change : Change) (m m' : Memo ℕ) (id level found : ℕ) (grows : Grows old new) (below : IsChangeBelow (count old) change) (so_far : AreChanged old change m) (there : id < count old)
    (stands : Stands new found (changed (leaf_by (code_core old) change) level (code_core old id)))
    (puts : (c k : ℕ) → entry m' c k ≡ (if nat_eq id c && nat_eq level k then Some found else entry m c k)) where
  Holds : ℕ → ℕ → ℕ → Type 0
  Holds c k d = (c < count new) × Stands new d (changed (leaf_by (code_core new) change) k (code_core new c))

  known : (c k d : ℕ) → c < count old → Stands new d (changed (leaf_by (code_core old) change) k (code_core old c)) → Holds c k d
  unfolding Holds
  known c k d h s = ((let p = grows.more in omega arith), stands-with new d _ _ (sym (changed-later old new change k c grows below h)) s)

  case : (c k d : ℕ) (b : Bool) → (nat_eq id c && nat_eq level k) ≡ b → (if b then Some found else entry m c k) ≡ Some d → Holds c k d
  case c k d true e h =
      let i = both-true _ _ e in
      along (λ z. Holds z k d) (same-number id c i.0)
      (along (λ z. Holds id z d) (same-number level k i.1) (along (Holds id level) (some-once found d h) (known id level found there stands)))
  case c k d false e h = known c k d (so_far.below c k d h) (stands-later old new d _ grows (so_far.made c k d h))

  entries : (c k d : ℕ) → entry m' c k ≡ Some d → Holds c k d
  entries c k d h = case c k d (nat_eq id c && nat_eq level k) refl (sym (puts c k) ∙ h)

  kept-one : AreChanged new change m'
  unfolding Holds
  kept-one = record { below = λ c k d h. (entries c k d h).0; made = λ c k d h. (entries c k d h).1 }

pub kept-more : {E : Type 0} (old new : Codes) (change : Change) (m m' : Memo ℕ) (id level found : ℕ) (r : Result (Unit {0}) E) → Grows old new → IsChangeBelow (count old) change → AreChanged old change m → id < count old
    → Stands new found (changed (leaf_by (code_core old) change) level (code_core old id))
    → OnOk r ((c k : ℕ) → entry m' c k ≡ (if nat_eq id c && nat_eq level k then Some found else entry m c k)) → OnOk r (AreChanged new change m')
kept-more old new change m m' id level found (Ok u) g b s t h p = kept-one old new change m m' id level found g b s t h p
kept-more old new change m m' id level found (Err x) g b s t h p = tt

-- ---- what was found for the whole

pub changed-whole : (old new : Codes) (change : Change) (m : Memo ℕ) (id d : ℕ) → Grows old new → IsChangeBelow (count old) change → id < count old → AreChanged new change m → entry m id 0 ≡ Some d
    → Stands new d (changed (leaf_by (code_core old) change) 0 (code_core old id))
changed-whole old new change m id d g b h s e = stands-with new d _ _ (changed-later old new change 0 id g b h) (s.made id 0 d e)

pub whole-changed : {E : Type 0} (old new : Codes) (change : Change) (m : Memo ℕ) (id : ℕ) (r : Result ℕ E) → Grows old new → IsChangeBelow (count old) change → id < count old → AreChanged new change m → IfOk r (λ d. entry m id 0 ≡ Some d)
    → IfOk r (λ d. Stands new d (changed (leaf_by (code_core old) change) 0 (code_core old id)))
whole-changed old new change m id (Ok d) g b h s e = changed-whole old new change m id d g b h s e
whole-changed old new change m id (Err x) g b h s e = tt

pub below-later : (old new : Codes) (change : Change) → Grows old new → IsChangeBelow (count old) change → IsChangeBelow (count new) change
below-later old new (changes.Binds n) g b = tt
below-later old new (changes.Puts c) g b = let p = g.more in omega arith
