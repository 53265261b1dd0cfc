-- The values of parts, one after the other.
use Rattle.std.specs.Prelude.{◌≡◌, ◌<◌, ◌≤◌, ℕ, zero, suc, ◌+◌, List, [], ◌∷◌, ◌++◌, drop, length, map, Result, Ok, Err, refl}
use Rattle.std.specs.Result.{IsErrAnd}
use Rattle.std.proofs.Common.{sym, ◌∙◌, ap, subst, get_or, arith}
use Rattle.std.proofs.lemmas.List.{drop_more, map-append}
use Rattle.serde_json.specs.Data.{Data, Items, no_items, item, array, object, Members, no_members, put}
use Rattle.serde_json.specs.View.{view, items_of, items_view}
use Rattle.serde_json.specs.declared.value.Value.{Value}
use Rattle.dh_syntax.specs.declared.expressions.Kid.{Kid}
use Rattle.dh_syntax.specs.Expressions.Arity.{AreWellFormed, IsWellFormed}
use Rattle.dh_syntax.specs.Expressions.Bridge.{term, row_of}
use Rattle.dh_syntax.specs.Expressions.Tree.{Name}
use Rattle.dh_syntax.proofs.Bridge.{row_of-cons}
use Rattle.dh_syntax.proofs.Rows.{row_of-drop_item, row_of-drop_all}
use Rattle.dh_json.specs.declared.faults.JsonFault.{JsonFault}
use Rattle.dh_json.specs.declared.faults.JsonFault.TheVariants as faults
use Rattle.dh_json.specs.Inside.{IsAbove}
use Rattle.dh_json.specs.JsonFaults.{IsAnswer, IsNoValue}
use Rattle.dh_json.specs.JsonValue.{Answer, answer_map, by_case, elements, from_part, json, jsons, members, part_at, Elements, Fields}

abbrev pub joined : List Data → Items → Items
joined [] is = is
joined (d ∷ ds) is = item d (joined ds is)

pub joined-push : (ds : List Data) (d : Data) (is : Items) → joined (ds ++ d ∷ []) is ≡ joined ds (item d is)
joined-push [] d is = refl
joined-push (e ∷ ds) d is = ap (item e) (joined-push ds d is)

-- the answer of one part, by the kid that stands there
pub part_is : (ks : List Kid) (i j : ℕ) (k : Kid) → i < length ks → k ≡ get_or ks i k → part_at j i (jsons (row_of ks)) ≡ from_part j (json (term k.body))
part_is [] i j k p e = absurd (omega arith)
part_is (h ∷ ks) zero j k p e = ap (λ r. part_at j 0 (jsons r)) (row_of-cons h ks) ∙ ap (λ x. from_part j (json (term x.body))) (sym e)
part_is (h ∷ ks) (suc i) j k p e = ap (λ r. part_at j (suc i) (jsons r)) (row_of-cons h ks) ∙ part_is ks i j k (omega arith) e

pub formed_at : (ks : List Kid) (i : ℕ) (k : Kid) → i < length ks → k ≡ get_or ks i k → AreWellFormed (row_of ks) → IsWellFormed (term k.body)
formed_at [] i k p e h = absurd (omega arith)
formed_at (j ∷ ks) zero k p e h = subst (λ x. IsWellFormed (term x.body)) (sym e) (subst AreWellFormed (row_of-cons j ks) h).0
formed_at (j ∷ ks) (suc i) k p e h = formed_at ks i k (omega arith) e (subst AreWellFormed (row_of-cons j ks) h).1

-- ---- one part

pub part_value : (a b : Answer) (v : Value) (i : ℕ) → b ≡ from_part i a → a ≡ Ok (view v) → b ≡ Ok (view v)
part_value a b v i h k = h ∙ ap (from_part i) k

above_at : (a b : Answer) (i : ℕ) (f g : JsonFault) → b ≡ from_part i a → IsNoValue a f → IsAbove i f g → IsNoValue b g
above_at a b i (faults.NoValue p) (faults.NoValue q) h k l = h ∙ ap (from_part i) k ∙ ap Err (sym l)
above_at a b i (faults.NoValue p) faults.Memory h k l = tt
above_at a b i faults.Memory (faults.NoValue q) h k l = elim l [ ]
above_at a b i faults.Memory faults.Memory h k l = tt

pub part_fault : (a b : Answer) (i : ℕ) (f g : JsonFault) → b ≡ from_part i a → IsNoValue a f → IsAbove i f g → IsNoValue b g
part_fault a b i f g h k l = above_at a b i f g h k l

-- ---- one answer, seen from the node above

abbrev IsValueOf : Answer → Type 0
IsValueOf (Ok x) = Unit {0}
IsValueOf (Err p) = ⊥

abbrev path_of : Answer → List ℕ
path_of (Ok x) = []
path_of (Err p) = p

pub from_ok : (a : Answer) (d : Data) (i : ℕ) → from_part i a ≡ Ok d → a ≡ Ok d
from_ok (Ok e) d i h = h
from_ok (Err p) d i h = absurd (subst IsValueOf (sym h) tt)

-- ---- elements

module _ (i : ℕ) (a : Answer) (rest : List Answer) where
  pub element_value : (d : Data) → from_part i a ≡ Ok d → elements i (a ∷ rest) ≡ answer_map (item d) (elements (suc i) rest)
  element_value d h = ap (λ x. elements i (x ∷ rest)) (from_ok a d i h)

  member_value : (d : Data) (x : Name) (xs : List Name) (ms : Members) → from_part i a ≡ Ok d → members i (x ∷ xs) ms (a ∷ rest) ≡ members (suc i) xs (put x d ms) rest
  member_value d x xs ms h = ap (λ y. members i (x ∷ xs) ms (y ∷ rest)) (from_ok a d i h)

pub element_fault : (i : ℕ) (a : Answer) (rest : List Answer) (q : List ℕ) → from_part i a ≡ Err q → elements i (a ∷ rest) ≡ Err q
element_fault i (Ok d) rest q h = absurd (subst IsValueOf h tt)
element_fault i (Err p) rest q h = ap (λ b. Err (path_of b)) h

member_fault : (i : ℕ) (a : Answer) (rest : List Answer) (x : Name) (xs : List Name) (ms : Members) (q : List ℕ) → from_part i a ≡ Err q → members i (x ∷ xs) ms (a ∷ rest) ≡ Err q
member_fault i (Ok d) rest x xs ms q h = absurd (subst IsValueOf h tt)
member_fault i (Err p) rest x xs ms q h = ap (λ b. Err (path_of b)) h

pub map_twice : {A B C : Type 0} (f : B → C) (g : A → B) (h : A → C) → ((x : A) → f (g x) ≡ h x) → (r : Result A (List ℕ)) → answer_map f (answer_map g r) ≡ answer_map h r
map_twice f g h e (Ok x) = ap Ok (e x)
map_twice f g h e (Err p) = refl

joined-items : (ds : List Data) → joined ds no_items ≡ items_of ds
joined-items [] = refl
joined-items (d ∷ ds) = ap (item d) (joined-items ds)

-- the answers of the parts from one on
abbrev pub later : List Kid → ℕ → List Answer
later ks i = jsons (row_of (drop i ks))

pub later_is : (ks : List Kid) (i : ℕ) (k : Kid) → i < length ks → k ≡ get_or ks i k → later ks i ≡ json (term k.body) ∷ later ks (i + 1)
later_is ks i k p e = ap jsons (row_of-drop_item ks i k p e)

module _ (ks : List Kid) (i : ℕ) (k : Kid) (p : i < length ks) (e : k ≡ get_or ks i k) where
  pub elements_more : (vs : List Value) (v : Value) → elements 0 (jsons (row_of ks)) ≡ answer_map (joined (map view vs)) (elements i (later ks i)) → part_at i i (jsons (row_of ks)) ≡ Ok (view v)
      → elements 0 (jsons (row_of ks)) ≡ answer_map (joined (map view (vs ++ v ∷ []))) (elements (i + 1) (later ks (i + 1)))
  elements_more vs v h k' =
      h ∙ ap (λ as'. answer_map (joined (map view vs)) (elements i as')) (later_is ks i k p e)
      ∙ ap (answer_map (joined (map view vs))) (element_value i (json (term k.body)) (later ks (i + 1)) (view v) (sym (part_is ks i i k p e) ∙ k'))
      ∙ map_twice (joined (map view vs)) (item (view v)) (joined (map view vs ++ view v ∷ [])) (λ x. sym (joined-push (map view vs) (view v) x)) (elements (suc i) (later ks (i + 1)))
      ∙ ap (λ ds. answer_map (joined ds) (elements (suc i) (later ks (i + 1)))) (sym (map-append view vs (v ∷ [])))
      ∙ ap (λ n. answer_map (joined (map view (vs ++ v ∷ []))) (elements n (later ks (i + 1)))) (let s : suc i ≡ i + 1 = omega arith in s)

  elements_path : (vs : List Value) (q : List ℕ) → elements 0 (jsons (row_of ks)) ≡ answer_map (joined (map view vs)) (elements i (later ks i)) → part_at i i (jsons (row_of ks)) ≡ Err q → by_case Elements (jsons (row_of ks)) ≡ Err q
  elements_path vs q h l =
      ap (answer_map array)
      (h ∙ ap (λ as'. answer_map (joined (map view vs)) (elements i as')) (later_is ks i k p e)
      ∙ ap (answer_map (joined (map view vs))) (element_fault i (json (term k.body)) (later ks (i + 1)) q (sym (part_is ks i i k p e) ∙ l)))

  pub elements_fault : (vs : List Value) (f : JsonFault) → elements 0 (jsons (row_of ks)) ≡ answer_map (joined (map view vs)) (elements i (later ks i)) → IsNoValue (part_at i i (jsons (row_of ks))) f → IsNoValue (by_case Elements (jsons (row_of ks))) f
  elements_fault vs (faults.NoValue q) h l = elements_path vs q h l
  elements_fault vs faults.Memory h l = tt

pub elements_end : (ks : List Kid) (i : ℕ) (vs : List Value) (v : Value) → length ks ≤ i → view v ≡ array (items_view vs) → elements 0 (jsons (row_of ks)) ≡ answer_map (joined (map view vs)) (elements i (later ks i)) → by_case Elements (jsons (row_of ks)) ≡ Ok (view v)
elements_end ks i vs v p a h =
    ap (answer_map array) (h ∙ ap (λ as'. answer_map (joined (map view vs)) (elements i as')) (ap jsons (row_of-drop_all ks i p)))
    ∙ ap (λ is. Ok (array is)) (joined-items (map view vs)) ∙ ap Ok (sym a)

-- ---- members

module _ (xs : List Name) (ks : List Kid) (i : ℕ) (k : Kid) (x : Name) (p : i < length ks) (e : k ≡ get_or ks i k) (q : i < length xs) (f : x ≡ get_or xs i x) where
  pub labels_is : drop i xs ≡ x ∷ drop (i + 1) xs
  labels_is = drop_more xs i x q ∙ ap (λ y. y ∷ drop (i + 1) xs) (sym f)

  unfolded : (ms : Members) → members i (drop i xs) ms (later ks i) ≡ members i (x ∷ drop (i + 1) xs) ms (json (term k.body) ∷ later ks (i + 1))
  unfolded ms = ap (λ ys. members i ys ms (later ks i)) labels_is ∙ ap (members i (x ∷ drop (i + 1) xs) ms) (later_is ks i k p e)

  pub members_more : (ms ms' : Members) (d : Data) → members 0 xs no_members (jsons (row_of ks)) ≡ members i (drop i xs) ms (later ks i) → part_at i i (jsons (row_of ks)) ≡ Ok d → ms' ≡ put x d ms
      → members 0 xs no_members (jsons (row_of ks)) ≡ members (i + 1) (drop (i + 1) xs) ms' (later ks (i + 1))
  members_more ms ms' d h l m =
      h ∙ unfolded ms ∙ member_value i (json (term k.body)) (later ks (i + 1)) d x (drop (i + 1) xs) ms (sym (part_is ks i i k p e) ∙ l)
      ∙ ap (λ y. members (suc i) (drop (i + 1) xs) y (later ks (i + 1))) (sym m) ∙ ap (λ n. members n (drop (i + 1) xs) ms' (later ks (i + 1))) (let s : suc i ≡ i + 1 = omega arith in s)

  members_path : (ms : Members) (t : List ℕ) → members 0 xs no_members (jsons (row_of ks)) ≡ members i (drop i xs) ms (later ks i) → part_at i i (jsons (row_of ks)) ≡ Err t → by_case (Fields xs) (jsons (row_of ks)) ≡ Err t
  members_path ms t h l =
      ap (answer_map object) (h ∙ unfolded ms ∙ member_fault i (json (term k.body)) (later ks (i + 1)) x (drop (i + 1) xs) ms t (sym (part_is ks i i k p e) ∙ l))

  pub members_fault : (ms : Members) (g : JsonFault) → members 0 xs no_members (jsons (row_of ks)) ≡ members i (drop i xs) ms (later ks i) → IsNoValue (part_at i i (jsons (row_of ks))) g → IsNoValue (by_case (Fields xs) (jsons (row_of ks))) g
  members_fault ms (faults.NoValue t) h l = members_path ms t h l
  members_fault ms faults.Memory h l = tt

members_stop : (i : ℕ) (xs : List Name) (ms : Members) → members i xs ms [] ≡ Ok ms
members_stop i [] ms = refl
members_stop i (x ∷ xs) ms = refl

pub members_end : (xs : List Name) (ks : List Kid) (i : ℕ) (ms : Members) (v : Value) → length ks ≤ i → view v ≡ object ms → members 0 xs no_members (jsons (row_of ks)) ≡ members i (drop i xs) ms (later ks i) → by_case (Fields xs) (jsons (row_of ks)) ≡ Ok (view v)
members_end xs ks i ms v p a h =
    ap (answer_map object) (h ∙ ap (members i (drop i xs) ms) (ap jsons (row_of-drop_all ks i p)) ∙ members_stop i (drop i xs) ms) ∙ ap Ok (sym a)

-- an error that is handed on
pub handed_on : (r : Result Value JsonFault) (f : JsonFault) (a : Answer) → IsErrAnd r (λ g. g ≡ f) → IsNoValue a f → IsAnswer a r
handed_on (Ok v) f a h k = elim h [ ]
handed_on (Err g) f a h k = subst (IsNoValue a) (sym h) k
