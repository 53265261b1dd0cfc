-- The tokens of a value, part by part.
use Rattle.std.specs.Prelude.{◌≡◌, ◌<◌, ◌≤◌, ◌&&◌, ℕ, suc, ◌+◌, ℤ, pos, negsuc, Bool, true, false, List, [], ◌∷◌, ◌++◌, drop, length, Result, Ok, Err, IsTrue, OnOk, refl, ⊤}
use Rattle.std.specs.Fmt.{signed_decimal}
use Rattle.std.specs.Result.{IsErrAnd}
use Rattle.std.proofs.Common.{sym, ◌∙◌, ap, subst, get_or, arith, append_assoc, nat_cmp, Ordering, Less, Equal, Greater, is_lt}
use Rattle.std.proofs.lemmas.Bool.{false≢true}
use Rattle.std.proofs.lemmas.Cmp.{nat_list_cmp_total}
use Rattle.std.specs.Cmp.Lexicographic.{slice_cmp}
use Rattle.std.specs.Ordering.{match_ordering, ordering_reverse}
use Rattle.json.specs.Token.{Token, begin_array, end_array, begin_object, end_object, key}
use Rattle.json.specs.Tree.{json_tokens, items_tokens, members_tokens}
use Rattle.serde_json.specs.Data.{Data, Items, no_items, item, array, object, Members, no_members, member, put}
use Rattle.serde_json.specs.Find.{of_integer}
use Rattle.serde_json.specs.Written.{number_text, outline, items_outline, members_outline}
use Rattle.dh_syntax.specs.declared.expressions.Kid.{Kid}
use Rattle.dh_syntax.specs.Expressions.Bridge.{term, row_of}
use Rattle.dh_syntax.specs.Expressions.Order.{ascending, before}
use Rattle.dh_syntax.specs.Expressions.Tree.{Name}
use Rattle.dh_syntax.proofs.Order.{before-slice_cmp, before-transitive}
use Rattle.dh_syntax.proofs.Rows.{row_of-drop_all}
use Rattle.dh_json.specs.declared.faults.JsonFault.{JsonFault}
use Rattle.dh_json.specs.declared.faults.JsonFault.TheVariants as faults
use Rattle.dh_json.specs.declared.forms.Form.{Form}
use Rattle.dh_json.specs.Inside.{IsWritten, case_shown}
use Rattle.dh_json.specs.JsonFaults.{IsNoValue}
use Rattle.dh_json.specs.JsonValue.{Answer, Whole, answer_map, by_case, elements, from_part, json, jsons, members, part_at, Fields}
use Rattle.dh_json.proofs.Walking.{element_fault, element_value, from_ok, labels_is, later, later_is, map_twice, part_is}

-- an integer's digits
pub integer_text : (z : ℤ) → number_text (of_integer z) ≡ signed_decimal z
integer_text (pos n) = refl
integer_text (negsuc n) = refl

-- ---- the members of ascending labels have their order

-- the members behind those that stand there
abbrev appended : Members → Members → Members
appended no_members ns = ns
appended (member k d ms) ns = member k d (appended ms ns)

appended-nil : (ms : Members) → appended ms no_members ≡ ms
appended-nil no_members = refl
appended-nil (member k d ms) = ap (member k d) (appended-nil ms)

appended_twice : (ms : Members) (x : Name) (d : Data) (ns : Members) → appended (appended ms (member x d no_members)) ns ≡ appended ms (member x d ns)
appended_twice no_members x d ns = refl
appended_twice (member k e ms) x d ns = ap (member k e) (appended_twice ms x d ns)

-- every key comes before the label
abbrev AllBefore : Members → Name → Type 0
AllBefore no_members x = ⊤
AllBefore (member k d ms) x = (before k x ≡ true) × AllBefore ms x

less_is : (o : Ordering) → is_lt o ≡ true → o ≡ Less
less_is Less h = refl
less_is Equal h = absurd (false≢true h)
less_is Greater h = absurd (false≢true h)

greater : (k x : Name) → before k x ≡ true → slice_cmp nat_cmp x k ≡ Greater
greater k x h = nat_list_cmp_total.antisymm x k ∙ ap ordering_reverse (less_is (slice_cmp nat_cmp k x) (sym (before-slice_cmp k x) ∙ h))

put_last : (ms : Members) (x : Name) (d : Data) → AllBefore ms x → put x d ms ≡ appended ms (member x d no_members)
put_last no_members x d h = refl
put_last (member k e ms) x d h =
    ap (λ o. match_ordering o (member x d (member k e ms)) (member k d ms) (member k e (put x d ms))) (greater k x h.0) ∙ ap (member k e) (put_last ms x d h.1)

all_before : (ms : Members) (x y : Name) (d : Data) → before x y ≡ true → AllBefore ms x → AllBefore (appended ms (member x d no_members)) y
all_before no_members x y d b h = (b, tt)
all_before (member k e ms) x y d b h = (before-transitive k x y h.0 b, all_before ms x y d b h.1)

-- every key comes before the labels that follow
abbrev Follow : Members → List Name → Type 0
Follow ms [] = ⊤
Follow ms (x ∷ xs) = AllBefore ms x

both_first : (a b : Bool) → (a && b) ≡ true → a ≡ true
both_first true b h = refl
both_first false b h = h

both_second : (a b : Bool) → (a && b) ≡ true → b ≡ true
both_second true b h = h
both_second false b h = absurd (false≢true h)

follow : (ms : Members) (x : Name) (d : Data) (xs : List Name) → IsTrue (ascending (x ∷ xs)) → AllBefore ms x → Follow (appended ms (member x d no_members)) xs
follow ms x d [] a h = tt
follow ms x d (y ∷ ys) a h = all_before ms x y d (both_first (before x y) (ascending (y ∷ ys)) a) h

rest_ascends : (x : Name) (xs : List Name) → IsTrue (ascending (x ∷ xs)) → IsTrue (ascending xs)
rest_ascends x [] a = refl
rest_ascends x (y ∷ ys) a = both_second (before x y) (ascending (y ∷ ys)) a

-- the values of parts under their labels, as they come
abbrev pub in_order : ℕ → List Name → List Answer → Result Members (List ℕ)
in_order i [] as' = Ok no_members
in_order i (x ∷ xs) [] = Ok no_members
in_order i (x ∷ xs) (Ok d ∷ as') = answer_map (member x d) (in_order (suc i) xs as')
in_order i (x ∷ xs) (Err p ∷ as') = Err (i ∷ p)

members_follow : (i : ℕ) (xs : List Name) (ms : Members) (as' : List Answer) → IsTrue (ascending xs) → Follow ms xs → members i xs ms as' ≡ answer_map (appended ms) (in_order i xs as')
members_follow i [] ms as' a h = ap Ok (sym (appended-nil ms))
members_follow i (x ∷ xs) ms [] a h = ap Ok (sym (appended-nil ms))
members_follow i (x ∷ xs) ms (Err p ∷ as') a h = refl
members_follow i (x ∷ xs) ms (Ok d ∷ as') a h =
    ap (λ ns. members (suc i) xs ns as') (put_last ms x d h)
    ∙ members_follow (suc i) xs (appended ms (member x d no_members)) as' (rest_ascends x xs a) (follow ms x d xs a h)
    ∙ sym (map_twice (appended ms) (member x d) (appended (appended ms (member x d no_members))) (λ ns. sym (appended_twice ms x d ns)) (in_order (suc i) xs as'))

map_same : {A : Type 0} (f : A → A) (r : Result A (List ℕ)) → ((x : A) → f x ≡ x) → answer_map f r ≡ r
map_same f (Ok x) h = ap Ok (h x)
map_same f (Err p) h = refl

pub members_in_order : (xs : List Name) (as' : List Answer) → IsTrue (ascending xs) → members 0 xs no_members as' ≡ in_order 0 xs as'
members_in_order xs as' a = members_follow 0 xs no_members as' a (none_follow xs) ∙ map_same (appended no_members) (in_order 0 xs as') (λ ms. refl)
  where
    none_follow : (ys : List Name) → Follow no_members ys
    none_follow [] = tt
    none_follow (y ∷ ys) = tt

-- ---- one node

-- what an answer says where it is Ok
pub opened : {E : Type 0} {P : Type 0} (r : Result (Unit {0}) E) (u : Unit {0}) → r ≡ Ok u → OnOk r P → P
opened {E} {P} r u e h = subst (λ x. OnOk x P) e h

-- a node whose value is whole
pub whole_written : (f g : Form) (d : Data) (as' : List Answer) (old new : List Token) → f ≡ g → case_shown g ≡ Whole d → new ≡ old ++ json_tokens (outline d) → (x : Data) × (by_case (case_shown f) as' ≡ Ok x) × (new ≡ old ++ json_tokens (outline x))
whole_written f g d as' old new h k l = (d, ap (λ y. by_case (case_shown y) as') h ∙ ap (λ c. by_case c as') k, l)

-- the value of a part
pub part_written : (a b : Answer) (i : ℕ) (old new : List Token) → b ≡ from_part i a → (d : Data) × (a ≡ Ok d) × (new ≡ old ++ json_tokens (outline d)) → (d : Data) × (b ≡ Ok d) × (new ≡ old ++ json_tokens (outline d))
part_written a b i old new h w = (w.0, h ∙ ap (from_part i) w.1, w.2)

-- ---- an error that is handed on

pub fault_above : (a b : Answer) (f : JsonFault) → ((q : List ℕ) → a ≡ Err q → b ≡ Err q) → IsNoValue a f → IsNoValue b f
fault_above a b (faults.NoValue q) h k = h q k
fault_above a b faults.Memory h k = tt

pub written_fault : (r : Result (Unit {0}) JsonFault) (f : JsonFault) (a : Answer) (old new : List Token) → IsErrAnd r (λ g. g ≡ f) → IsNoValue a f → IsWritten a old new r
written_fault (Ok u) f a old new h k = elim h [ ]
written_fault (Err g) f a old new h k = subst (IsNoValue a) (sym h) k

-- ---- elements

-- these are the values that are left, and their tokens with the closing bracket lead to the new ones
abbrev pub EndsItems : Result Items (List ℕ) → List Token → List Token → Type 0
EndsItems x old new = (is : Items) × (x ≡ Ok is) × (new ≡ old ++ items_tokens (items_outline is))

pub items_end : (ks : List Kid) (i : ℕ) (old new : List Token) → length ks ≤ i → new ≡ old ++ end_array ∷ [] → EndsItems (elements i (later ks i)) old new
items_end ks i old new h e = (no_items, ap (λ r. elements i (jsons r)) (row_of-drop_all ks i h), e)

pub array_written : (x : Result Items (List ℕ)) (old start new : List Token) → start ≡ old ++ begin_array ∷ [] → EndsItems x start new → (d : Data) × (answer_map array x ≡ Ok d) × (new ≡ old ++ json_tokens (outline d))
array_written x old start new h w = (array w.0, ap (answer_map array) w.1, w.2 ∙ ap (λ ts. ts ++ items_tokens (items_outline w.0)) h ∙ append_assoc old (begin_array ∷ []) (items_tokens (items_outline w.0)))

module _ (ks : List Kid) (i : ℕ) (k : Kid) (p : i < length ks) (e : k ≡ get_or ks i k) where
  pub items_more : (d : Data) (old mid end : List Token) → part_at i i (jsons (row_of ks)) ≡ Ok d → mid ≡ old ++ json_tokens (outline d) → EndsItems (elements (i + 1) (later ks (i + 1))) mid end → EndsItems (elements i (later ks i)) old end
  items_more d old mid end h m w =
      let s : suc i ≡ i + 1 = omega arith in (
        item d w.0,
        ap (elements i) (later_is ks i k p e) ∙ element_value i (json (term k.body)) (later ks (i + 1)) d (sym (part_is ks i i k p e) ∙ h)
            ∙ ap (λ n. answer_map (item d) (elements n (later ks (i + 1)))) s ∙ ap (answer_map (item d)) w.1,
        w.2 ∙ ap (λ ts. ts ++ items_tokens (items_outline w.0)) m ∙ append_assoc old (json_tokens (outline d)) (items_tokens (items_outline w.0)),
      )

  pub items_fault : (q : List ℕ) → part_at i i (jsons (row_of ks)) ≡ Err q → elements i (later ks i) ≡ Err q
  items_fault q h = ap (elements i) (later_is ks i k p e) ∙ element_fault i (json (term k.body)) (later ks (i + 1)) q (sym (part_is ks i i k p e) ∙ h)

  pub items_later : (d : Data) (q : List ℕ) → part_at i i (jsons (row_of ks)) ≡ Ok d → elements (i + 1) (later ks (i + 1)) ≡ Err q → elements i (later ks i) ≡ Err q
  items_later d q h l =
      let s : suc i ≡ i + 1 = omega arith in
      ap (elements i) (later_is ks i k p e) ∙ element_value i (json (term k.body)) (later ks (i + 1)) d (sym (part_is ks i i k p e) ∙ h)
      ∙ ap (λ n. answer_map (item d) (elements n (later ks (i + 1)))) s ∙ ap (answer_map (item d)) l

-- ---- members

abbrev pub EndsMembers : Result Members (List ℕ) → List Token → List Token → Type 0
EndsMembers x old new = (ms : Members) × (x ≡ Ok ms) × (new ≡ old ++ members_tokens (members_outline ms))

in_order_stop : (i : ℕ) (xs : List Name) → in_order i xs [] ≡ Ok no_members
in_order_stop i [] = refl
in_order_stop i (x ∷ xs) = refl

pub members_end : (xs : List Name) (ks : List Kid) (i : ℕ) (old new : List Token) → length ks ≤ i → new ≡ old ++ end_object ∷ [] → EndsMembers (in_order i (drop i xs) (later ks i)) old new
members_end xs ks i old new h e = (no_members, ap (λ r. in_order i (drop i xs) (jsons r)) (row_of-drop_all ks i h) ∙ in_order_stop i (drop i xs), e)

pub object_written : (xs : List Name) (as' : List Answer) (old start new : List Token) → IsTrue (ascending xs) → start ≡ old ++ begin_object ∷ [] → EndsMembers (in_order 0 xs as') start new → (d : Data) × (by_case (Fields xs) as' ≡ Ok d) × (new ≡ old ++ json_tokens (outline d))
object_written xs as' old start new a h w =
    (object w.0, ap (answer_map object) (members_in_order xs as' a ∙ w.1), w.2 ∙ ap (λ ts. ts ++ members_tokens (members_outline w.0)) h ∙ append_assoc old (begin_object ∷ []) (members_tokens (members_outline w.0)))

pub object_fault : (xs : List Name) (as' : List Answer) (q : List ℕ) → IsTrue (ascending xs) → in_order 0 xs as' ≡ Err q → by_case (Fields xs) as' ≡ Err q
object_fault xs as' q a h = ap (answer_map object) (members_in_order xs as' a ∙ h)

in_order_value : (i : ℕ) (a : Answer) (rest : List Answer) (d : Data) (x : Name) (xs : List Name) → from_part i a ≡ Ok d → in_order i (x ∷ xs) (a ∷ rest) ≡ answer_map (member x d) (in_order (suc i) xs rest)
in_order_value i a rest d x xs h = ap (λ y. in_order i (x ∷ xs) (y ∷ rest)) (from_ok a d i h)

abbrev IsNone : Answer → Type 0
IsNone (Ok d) = ⊥
IsNone (Err p) = ⊤

abbrev path_of : Answer → List ℕ
path_of (Ok d) = []
path_of (Err p) = p

in_order_fault : (i : ℕ) (a : Answer) (rest : List Answer) (x : Name) (xs : List Name) (q : List ℕ) → from_part i a ≡ Err q → in_order i (x ∷ xs) (a ∷ rest) ≡ Err q
in_order_fault i (Ok d) rest x xs q h = absurd (subst IsNone (sym h) tt)
in_order_fault i (Err p) rest x xs q h = ap (λ b. Err (path_of b)) h

module _ (xs : List Name) (ks : List Kid) (i : ℕ) (k : Kid) (x : Name) (p : i < length ks) (e : k ≡ get_or ks i k) (q : i < length xs) (f : x ≡ get_or xs i x) where
  in_order_is : in_order i (drop i xs) (later ks i) ≡ in_order i (x ∷ drop (i + 1) xs) (json (term k.body) ∷ later ks (i + 1))
  in_order_is = ap (λ ys. in_order i ys (later ks i)) (labels_is xs ks i k x p e q f) ∙ ap (in_order i (x ∷ drop (i + 1) xs)) (later_is ks i k p e)

  pub members_more : (d : Data) (old named mid end : List Token) → part_at i i (jsons (row_of ks)) ≡ Ok d → named ≡ old ++ key x ∷ [] → mid ≡ named ++ json_tokens (outline d)
      → EndsMembers (in_order (i + 1) (drop (i + 1) xs) (later ks (i + 1))) mid end → EndsMembers (in_order i (drop i xs) (later ks i)) old end
  members_more d old named mid end h n m w =
      let s : suc i ≡ i + 1 = omega arith in
      let ms = members_tokens (members_outline w.0) in (
        member x d w.0,
        in_order_is ∙ in_order_value i (json (term k.body)) (later ks (i + 1)) d x (drop (i + 1) xs) (sym (part_is ks i i k p e) ∙ h)
            ∙ ap (λ j. answer_map (member x d) (in_order j (drop (i + 1) xs) (later ks (i + 1)))) s ∙ ap (answer_map (member x d)) w.1,
        w.2 ∙ ap (λ ts. ts ++ ms) (m ∙ ap (λ ts. ts ++ json_tokens (outline d)) n)
            ∙ append_assoc (old ++ key x ∷ []) (json_tokens (outline d)) ms ∙ append_assoc old (key x ∷ []) (json_tokens (outline d) ++ ms),
      )

  pub members_fault : (t : List ℕ) → part_at i i (jsons (row_of ks)) ≡ Err t → in_order i (drop i xs) (later ks i) ≡ Err t
  members_fault t h = in_order_is ∙ in_order_fault i (json (term k.body)) (later ks (i + 1)) x (drop (i + 1) xs) t (sym (part_is ks i i k p e) ∙ h)

  pub members_later : (d : Data) (t : List ℕ) → part_at i i (jsons (row_of ks)) ≡ Ok d → in_order (i + 1) (drop (i + 1) xs) (later ks (i + 1)) ≡ Err t → in_order i (drop i xs) (later ks i) ≡ Err t
  members_later d t h l =
      let s : suc i ≡ i + 1 = omega arith in
      in_order_is ∙ in_order_value i (json (term k.body)) (later ks (i + 1)) d x (drop (i + 1) xs) (sym (part_is ks i i k p e) ∙ h)
      ∙ ap (λ j. answer_map (member x d) (in_order j (drop (i + 1) xs) (later ks (i + 1)))) s ∙ ap (answer_map (member x d)) l
