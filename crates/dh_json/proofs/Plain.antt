-- JSON values of expressions hold no float.
use Rattle.std.specs.Prelude.{◌≡◌, ◌^◌, ◌||◌, ℕ, zero, suc, ℤ, pos, negsuc, nat_lt, Bool, true, false, if◌then◌else◌, List, [], ◌∷◌, Option, Some, None, Result, Ok, Err, IfOk, refl, ⊤}
use Rattle.std.proofs.Common.{◌∙◌, ap, subst, Ordering, Less, Equal, Greater, nat_cmp}
use Rattle.std.proofs.lemmas.Bool.{true≢false}
use Rattle.std.specs.Cmp.Lexicographic.{slice_cmp}
use Rattle.std.specs.Ordering.{match_ordering}
use Rattle.serde_json.specs.Data.{Data, Items, item, Members, no_members, member, put, array, object, number, unsigned, negative}
use Rattle.serde_json.specs.Written.{has_float, items_have_float, members_have_float}
use Rattle.dh_syntax.specs.declared.expressions.Alt.{Alt}
use Rattle.dh_syntax.specs.declared.expressions.Op.{Op}
use Rattle.dh_syntax.specs.declared.expressions.Op.TheVariants as ops
use Rattle.dh_syntax.specs.Expressions.Tree.{Row, Leaf, Node, Var, Name, Term, kid, end}
use Rattle.dh_syntax.specs.Expressions.Views.{as_alternative, as_union, first_part, is_none}
use Rattle.dh_json.specs.JsonValue.{Answer, Case, Whole, Elements, Fields, Part, NoCase, alternative, answer_map, application_in, applied, by_case, case_of, elements, empty_alternative, integer, json, jsons, members, natural, part_at, selection, selection_in, text_case, typed_alternative, whole}

abbrev IsPlain : Answer → Type 0
IsPlain (Ok d) = has_float d ≡ false
IsPlain (Err p) = ⊤

abbrev ArePlain : List Answer → Type 0
ArePlain [] = ⊤
ArePlain (a ∷ as') = IsPlain a × ArePlain as'

abbrev IsPlainCase : Case → Type 0
IsPlainCase (Whole d) = has_float d ≡ false
IsPlainCase Elements = ⊤
IsPlainCase (Fields xs) = ⊤
IsPlainCase (Part i) = ⊤
IsPlainCase NoCase = ⊤

abbrev IsPlainOption : Option Data → Type 0
IsPlainOption (Some d) = has_float d ≡ false
IsPlainOption None = ⊤

plain_whole : (o : Option Data) → IsPlainOption o → IsPlainCase (whole o)
plain_whole None h = tt
plain_whole (Some d) h = h

plain_if : (b : Bool) (d : Data) → has_float d ≡ false → IsPlainOption (if b then Some d else None)
plain_if true d h = h
plain_if false d h = tt

plain_integer : (z : ℤ) → IsPlainOption (integer z)
plain_integer (pos n) = plain_if (nat_lt n (2 ^ 64)) (number (unsigned n)) refl
plain_integer (negsuc n) = plain_if (nat_lt n (2 ^ 63)) (number (negative (negsuc n))) refl

plain_text : (ps : List (List ℕ)) → IsPlainCase (text_case ps)
plain_text [] = tt
plain_text (p ∷ []) = refl
plain_text (p ∷ q ∷ ps) = tt

plain_empty : (x : Name) (o : Option Bool) → IsPlainCase (empty_alternative x o)
plain_empty x None = tt
plain_empty x (Some true) = tt
plain_empty x (Some false) = refl

plain_selection : (x : Name) (o : Option (List Alt)) → IsPlainCase (selection x o)
plain_selection x None = tt
plain_selection x (Some alts) = plain_empty x (alternative x alts)

plain_selection_in : (x : Name) (o : Option Term) → IsPlainCase (selection_in x o)
plain_selection_in x None = tt
plain_selection_in x (Some u) = plain_selection x (as_union u)

plain_typed : (o : Option Bool) → IsPlainCase (typed_alternative o)
plain_typed None = tt
plain_typed (Some true) = tt
plain_typed (Some false) = tt

plain_applied : (o : Option (Name × List Alt)) → IsPlainCase (applied o)
plain_applied None = tt
plain_applied (Some a) = plain_typed (alternative a.0 a.1)

plain_test : (b : Bool) (c d : Case) → IsPlainCase c → IsPlainCase d → IsPlainCase (if b then c else d)
plain_test true c d h k = h
plain_test false c d h k = k

plain_application : (o : Option Term) → IsPlainCase (application_in o)
plain_application None = tt
plain_application (Some f) = plain_test (is_none f) _ _ refl (plain_applied (as_alternative f))

plain_case : (op : Op) (r : Row Var Name) → IsPlainCase (case_of op r)
plain_case (ops.Builtin b) r = tt
plain_case (ops.Bool b) r = refl
plain_case (ops.Nat n) r = plain_whole (natural n) (plain_if (nat_lt n (2 ^ 64)) (number (unsigned n)) refl)
plain_case (ops.Int z) r = plain_whole (integer z) (plain_integer z)
plain_case (ops.Text ps) r = plain_text ps
plain_case (ops.Import i) r = tt
plain_case ops.Lam r = tt
plain_case ops.Pi r = tt
plain_case (ops.Let b) r = tt
plain_case ops.App r = plain_application (first_part r)
plain_case ops.If r = tt
plain_case (ops.Bin o) r = tt
plain_case ops.EmptyList r = refl
plain_case ops.List r = tt
plain_case ops.Some r = tt
plain_case (ops.Merge b) r = tt
plain_case (ops.RecordType xs) r = tt
plain_case (ops.Record xs) r = tt
plain_case (ops.Field x) r = plain_selection_in x (first_part r)
plain_case (ops.Project xs) r = tt
plain_case ops.ProjectType r = tt
plain_case (ops.Union alts) r = tt
plain_case ops.Assert r = tt
plain_case ops.Annot r = tt
plain_case (ops.ToMap b) r = tt
plain_case (ops.With xs) r = tt

plain_elements : (i : ℕ) (as' : List Answer) → ArePlain as' → IfOk (elements i as') (λ is. items_have_float is ≡ false)
plain_elements i [] h = refl
plain_elements i (Ok d ∷ as') h = put_on (elements (suc i) as') (plain_elements (suc i) as' h.1)
  where
    put_on : (r : Result Items (List ℕ)) → IfOk r (λ is. items_have_float is ≡ false) → IfOk (answer_map (item d) r) (λ is. items_have_float is ≡ false)
    put_on (Ok is) k = ap (λ b. b || items_have_float is) h.0 ∙ k
    put_on (Err p) k = tt
plain_elements i (Err p ∷ as') h = tt

either : (a b : Bool) → a ≡ false → b ≡ false → (a || b) ≡ false
either a b h k = ap (λ c. c || b) h ∙ k

left_of : (a b : Bool) → (a || b) ≡ false → a ≡ false
left_of false b h = refl
left_of true b h = h

right_of : (a b : Bool) → (a || b) ≡ false → b ≡ false
right_of false b h = h
right_of true b h = absurd (true≢false h)

by_order : (o : Ordering) (a b c : Members) → members_have_float a ≡ false → members_have_float b ≡ false → members_have_float c ≡ false → members_have_float (match_ordering o a b c) ≡ false
by_order Less a b c h k l = h
by_order Equal a b c h k l = k
by_order Greater a b c h k l = l

plain_put : (k : Name) (d : Data) (ms : Members) → has_float d ≡ false → members_have_float ms ≡ false → members_have_float (put k d ms) ≡ false
plain_put k d no_members h l = either (has_float d) false h refl
plain_put k d (member x e ms) h l =
    let first = left_of (has_float e) (members_have_float ms) l in
    let rest = right_of (has_float e) (members_have_float ms) l in
    by_order (slice_cmp nat_cmp k x) (member k d (member x e ms)) (member x d ms) (member x e (put k d ms)) (either (has_float d) (has_float e || members_have_float ms) h l) (either (has_float d) (members_have_float ms) h rest)
    (either (has_float e) (members_have_float (put k d ms)) first (plain_put k d ms h rest))

plain_members : (i : ℕ) (xs : List Name) (ms : Members) (as' : List Answer) → members_have_float ms ≡ false → ArePlain as' → IfOk (members i xs ms as') (λ ns. members_have_float ns ≡ false)
plain_members i [] ms as' h k = h
plain_members i (x ∷ xs) ms [] h k = h
plain_members i (x ∷ xs) ms (Ok d ∷ as') h k = plain_members (suc i) xs (put x d ms) as' (plain_put x d ms k.0 h) k.1
plain_members i (x ∷ xs) ms (Err p ∷ as') h k = tt

plain_part : (i n : ℕ) (as' : List Answer) → ArePlain as' → IsPlain (part_at i n as')
plain_part i n [] h = tt
plain_part i zero (Ok d ∷ as') h = h.0
plain_part i zero (Err p ∷ as') h = tt
plain_part i (suc n) (a ∷ as') h = plain_part i n as' h.1

plain_array : (r : Result Items (List ℕ)) → IfOk r (λ is. items_have_float is ≡ false) → IsPlain (answer_map array r)
plain_array (Ok is) h = h
plain_array (Err p) h = tt

plain_object : (r : Result Members (List ℕ)) → IfOk r (λ ms. members_have_float ms ≡ false) → IsPlain (answer_map object r)
plain_object (Ok ms) h = h
plain_object (Err p) h = tt

plain_by_case : (c : Case) (as' : List Answer) → IsPlainCase c → ArePlain as' → IsPlain (by_case c as')
plain_by_case (Whole d) as' h k = h
plain_by_case Elements as' h k = plain_array (elements 0 as') (plain_elements 0 as' k)
plain_by_case (Fields xs) as' h k = plain_object (members 0 xs no_members as') (plain_members 0 xs no_members as' refl k)
plain_by_case (Part i) as' h k = plain_part i i as' k
plain_by_case NoCase as' h k = tt

mutual
  plain : (e : Term) → IsPlain (json e)
  plain (Leaf v) = tt
  plain (Node op r) = plain_by_case (case_of op r) (jsons r) (plain_case op r) (plains r)

  plains : (r : Row Var Name) → ArePlain (jsons r)
  plains end = tt
  plains (kid b e r) = (plain e, plains r)

-- a JSON value holds no float
pub no_float : (e : Term) (d : Data) → json e ≡ Ok d → has_float d ≡ false
no_float e d h = subst IsPlain h (plain e)
