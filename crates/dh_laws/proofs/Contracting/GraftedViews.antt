-- Forms and views of grafted expressions: what is grafted has the same form, with grafted parts.
use Rattle.std.specs.Prelude.{◌≡◌, ℕ, suc, List, [], ◌∷◌, Option, Some, None, option_map, refl}
use Rattle.std.proofs.Common.{ap, ◌∙◌, subst as along}
use Rattle.dh_syntax.specs.declared.expressions.Op.TheVariants as ops
use Rattle.dh_syntax.specs.declared.operators.BinOp.TheVariants as bins
use Rattle.dh_syntax.specs.declared.operators.Builtin.{Builtin}
use Rattle.dh_syntax.specs.declared.operators.Builtin.TheVariants as builtins
use Rattle.dh_syntax.specs.Expressions.Forms as form
use Rattle.dh_syntax.specs.Expressions.Forms.{Fields, TextParts, plain_row, labels_of, values_of}
use Rattle.dh_laws.specs.Grafts.{Graft, grafted, grafted_row, Shown, ShownRow}
use Rattle.dh_syntax.specs.Expressions.Tree.{Tree, Row, Leaf, Node, end, kid, Name}
use Rattle.dh_syntax.specs.Expressions.Views as views

option_map-twice : {X Y Z W : Type 0} (f : Y → Z) (g : X → Y) (f' : W → Z) (g' : X → W) → ((x : X) → f (g x) ≡ f' (g' x))
    → (o : Option X) → option_map f (option_map g o) ≡ option_map f' (option_map g' o)
option_map-twice f g f' g' h None = refl
option_map-twice f g f' g' h (Some x) = ap Some (h x)

module _ {S A B C D : Type 0} (m : Graft S A B C D) (s : S) where
  -- ---- parts

  abbrev pub grafted_list : List (Tree A B) → List (Tree C D)
  grafted_list [] = []
  grafted_list (e ∷ es) = grafted m s e ∷ grafted_list es

  abbrev pub grafted_fields : Fields A B → Fields C D
  grafted_fields [] = []
  grafted_fields (f ∷ fs) = (f.0, grafted m s f.1) ∷ grafted_fields fs

  abbrev pub grafted_two : Tree A B × Tree A B → Tree C D × Tree C D
  grafted_two p = (grafted m s p.0, grafted m s p.1)

  abbrev pub grafted_three : Tree A B × Tree A B × Tree A B → Tree C D × Tree C D × Tree C D
  grafted_three p = (grafted m s p.0, grafted m s p.1, grafted m s p.2)

  abbrev pub grafted_texts : TextParts A B → TextParts C D
  grafted_texts p = (p.0, grafted_list p.1)

  abbrev pub grafted_call : Builtin × List (Tree A B) → Builtin × List (Tree C D)
  grafted_call p = (p.0, grafted_list p.1)

  abbrev pub grafted_lambda : B × Tree A B → D × Tree C D
  grafted_lambda p = (m.binder p.0, grafted m (m.enter s p.0) p.1)

  pub plain_row-grafted : (es : List (Tree A B)) → grafted_row m s (plain_row es) ≡ plain_row (grafted_list es)
  plain_row-grafted [] = refl
  plain_row-grafted (e ∷ es) = ap (kid None (grafted m s e)) (plain_row-grafted es)

  pub labels_of-grafted : (fs : Fields A B) → labels_of (grafted_fields fs) ≡ labels_of fs
  labels_of-grafted [] = refl
  labels_of-grafted (f ∷ fs) = ap (λ xs. f.0 ∷ xs) (labels_of-grafted fs)

  pub values_of-grafted : (fs : Fields A B) → grafted_row m s (plain_row (values_of fs)) ≡ plain_row (values_of (grafted_fields fs))
  values_of-grafted [] = refl
  values_of-grafted (f ∷ fs) = ap (kid None (grafted m s f.1)) (values_of-grafted fs)

  -- ---- forms

  pub list-grafted : (es : List (Tree A B)) → form.list (grafted_list es) ≡ grafted m s (form.list es)
  list-grafted es = let p = plain_row-grafted es in cc

  pub text-grafted : (ps : List (List ℕ)) (es : List (Tree A B)) → form.text ps (grafted_list es) ≡ grafted m s (form.text ps es)
  text-grafted ps es = let p = plain_row-grafted es in cc

  pub record_literal-grafted : (fs : Fields A B) → form.record_literal (grafted_fields fs) ≡ grafted m s (form.record_literal fs)
  record_literal-grafted fs = let p = labels_of-grafted fs in let q = values_of-grafted fs in cc

  pub record_type-grafted : (fs : Fields A B) → form.record_type (grafted_fields fs) ≡ grafted m s (form.record_type fs)
  record_type-grafted fs = let p = labels_of-grafted fs in let q = values_of-grafted fs in cc

  pub list_of-grafted : (t : Tree A B) (es : List (Tree A B)) → form.list_of (grafted m s t) (grafted_list es) ≡ grafted m s (form.list_of t es)
  list_of-grafted t [] = refl
  list_of-grafted t (e ∷ es) = list-grafted (e ∷ es)

  -- ---- views of parts

  pub bodies-grafted : (r : Row A B) → views.bodies (grafted_row m s r) ≡ option_map grafted_list (views.bodies r)
  bodies-grafted end = refl
  bodies-grafted (kid None e r) =
      ap (option_map (λ es. grafted m s e ∷ es)) (bodies-grafted r)
      ∙ option_map-twice (λ es. grafted m s e ∷ es) grafted_list grafted_list (λ es. e ∷ es) (λ es. refl) (views.bodies r)
  bodies-grafted (kid (Some x) e r) = refl

  pub first_part-grafted : (r : Row A B) → views.first_part (grafted_row m s r) ≡ option_map (grafted m s) (views.first_part r)
  first_part-grafted end = refl
  first_part-grafted (kid None e r) = refl
  first_part-grafted (kid (Some x) e r) = refl

  pub first_two-grafted : (r : Row A B) → views.first_two (grafted_row m s r) ≡ option_map grafted_two (views.first_two r)
  first_two-grafted end = refl
  first_two-grafted (kid (Some x) e r) = refl
  first_two-grafted (kid None e end) = refl
  first_two-grafted (kid None e (kid None f r)) = refl
  first_two-grafted (kid None e (kid (Some x) f r)) = refl

  pub first_three-grafted : (r : Row A B) → views.first_three (grafted_row m s r) ≡ option_map grafted_three (views.first_three r)
  first_three-grafted end = refl
  first_three-grafted (kid (Some x) e r) = refl
  first_three-grafted (kid None e end) = refl
  first_three-grafted (kid None e (kid (Some x) f r)) = refl
  first_three-grafted (kid None e (kid None f end)) = refl
  first_three-grafted (kid None e (kid None f (kid None g r))) = refl
  first_three-grafted (kid None e (kid None f (kid (Some x) g r))) = refl

  fields-grafted : (xs : List Name) (r : Row A B) → views.fields xs (grafted_row m s r) ≡ option_map grafted_fields (views.fields xs r)
  fields-grafted [] end = refl
  fields-grafted [] (kid b e r) = refl
  fields-grafted (x ∷ xs) end = refl
  fields-grafted (x ∷ xs) (kid None e r) =
      ap (option_map (λ fs. (x, grafted m s e) ∷ fs)) (fields-grafted xs r)
      ∙ option_map-twice (λ fs. (x, grafted m s e) ∷ fs) grafted_fields grafted_fields (λ fs. (x, e) ∷ fs) (λ fs. refl) (views.fields xs r)
  fields-grafted (x ∷ xs) (kid (Some y) e r) = refl

  -- ---- literals

  pub is_true-grafted : (e : Tree A B) → Shown m s e → views.is_true (grafted m s e) ≡ views.is_true e
  is_true-grafted (Node (ops.Bool b) r) h = refl
  is_true-grafted (Node op r) h = refl
  is_true-grafted (Leaf a) h = ap views.is_true h.1

  pub is_false-grafted : (e : Tree A B) → Shown m s e → views.is_false (grafted m s e) ≡ views.is_false e
  is_false-grafted (Node (ops.Bool b) r) h = refl
  is_false-grafted (Node op r) h = refl
  is_false-grafted (Leaf a) h = ap views.is_false h.1

  pub as_natural-grafted : (e : Tree A B) → Shown m s e → views.as_natural (grafted m s e) ≡ views.as_natural e
  as_natural-grafted (Node (ops.Nat n) r) h = refl
  as_natural-grafted (Node op r) h = refl
  as_natural-grafted (Leaf a) h = ap views.as_natural h.1

  pub is_literal-grafted : (n : ℕ) (e : Tree A B) → Shown m s e → views.is_literal n (grafted m s e) ≡ views.is_literal n e
  is_literal-grafted n (Node (ops.Nat k) r) h = refl
  is_literal-grafted n (Node op r) h = refl
  is_literal-grafted n (Leaf a) h = ap (views.is_literal n) h.1

  pub as_integer-grafted : (e : Tree A B) → Shown m s e → views.as_integer (grafted m s e) ≡ views.as_integer e
  as_integer-grafted (Node (ops.Int z) r) h = refl
  as_integer-grafted (Node op r) h = refl
  as_integer-grafted (Leaf a) h = ap views.as_integer h.1

  pub as_text-grafted : (e : Tree A B) → Shown m s e → views.as_text (grafted m s e) ≡ option_map grafted_texts (views.as_text e)
  as_text-grafted (Node (ops.Text ps) r) h =
      ap (option_map (λ es. (ps, es))) (bodies-grafted r)
      ∙ option_map-twice (λ es. (ps, es)) grafted_list grafted_texts (λ es. (ps, es)) (λ es. refl) (views.bodies r)
  as_text-grafted (Node op r) h = refl
  as_text-grafted (Leaf a) h = ap views.as_text h.1

  pub as_plain_text-grafted : (e : Tree A B) → Shown m s e → views.as_plain_text (grafted m s e) ≡ views.as_plain_text e
  as_plain_text-grafted (Node (ops.Text (p ∷ [])) r) h = refl
  as_plain_text-grafted (Node op r) h = refl
  as_plain_text-grafted (Leaf a) h = ap views.as_plain_text h.1

  -- ---- lists and optional values

  pub as_list-grafted : (e : Tree A B) → Shown m s e → views.as_list (grafted m s e) ≡ option_map grafted_list (views.as_list e)
  as_list-grafted (Node ops.EmptyList r) h = refl
  as_list-grafted (Node ops.List r) h = bodies-grafted r
  as_list-grafted (Node op r) h = refl
  as_list-grafted (Leaf a) h = ap views.as_list h.1

  pub is_empty_list-grafted : (e : Tree A B) → Shown m s e → views.is_empty_list (grafted m s e) ≡ views.is_empty_list e
  is_empty_list-grafted (Node ops.EmptyList r) h = refl
  is_empty_list-grafted (Node op r) h = refl
  is_empty_list-grafted (Leaf a) h = ap views.is_empty_list h.1

  pub is_none-grafted : (e : Tree A B) → Shown m s e → views.is_none (grafted m s e) ≡ views.is_none e
  is_none-grafted (Node (ops.Builtin builtins.None) r) h = refl
  is_none-grafted (Node op r) h = refl
  is_none-grafted (Leaf a) h = ap views.is_none h.1

  pub as_some-grafted : (e : Tree A B) → Shown m s e → views.as_some (grafted m s e) ≡ option_map (grafted m s) (views.as_some e)
  as_some-grafted (Node ops.Some r) h = first_part-grafted r
  as_some-grafted (Node op r) h = refl
  as_some-grafted (Leaf a) h = ap views.as_some h.1

  -- ---- records and unions

  pub as_record-grafted : (e : Tree A B) → Shown m s e → views.as_record (grafted m s e) ≡ option_map grafted_fields (views.as_record e)
  as_record-grafted (Node (ops.Record xs) r) h = fields-grafted xs r
  as_record-grafted (Node op r) h = refl
  as_record-grafted (Leaf a) h = ap views.as_record h.1

  pub is_empty_record-grafted : (e : Tree A B) → Shown m s e → views.is_empty_record (grafted m s e) ≡ views.is_empty_record e
  is_empty_record-grafted (Node (ops.Record []) r) h = refl
  is_empty_record-grafted (Node op r) h = refl
  is_empty_record-grafted (Leaf a) h = ap views.is_empty_record h.1

  pub as_record_type-grafted : (e : Tree A B) → Shown m s e → views.as_record_type (grafted m s e) ≡ option_map grafted_fields (views.as_record_type e)
  as_record_type-grafted (Node (ops.RecordType xs) r) h = fields-grafted xs r
  as_record_type-grafted (Node op r) h = refl
  as_record_type-grafted (Leaf a) h = ap views.as_record_type h.1

  pub is_empty_record_type-grafted : (e : Tree A B) → Shown m s e → views.is_empty_record_type (grafted m s e) ≡ views.is_empty_record_type e
  is_empty_record_type-grafted (Node (ops.RecordType []) r) h = refl
  is_empty_record_type-grafted (Node op r) h = refl
  is_empty_record_type-grafted (Leaf a) h = ap views.is_empty_record_type h.1

  as_union-grafted : (e : Tree A B) → Shown m s e → views.as_union (grafted m s e) ≡ views.as_union e
  as_union-grafted (Node (ops.Union alts) r) h = refl
  as_union-grafted (Node op r) h = refl
  as_union-grafted (Leaf a) h = ap views.as_union h.1

  pub as_alternative-grafted : (e : Tree A B) → Shown m s e → views.as_alternative (grafted m s e) ≡ views.as_alternative e
  as_alternative-grafted (Node (ops.Field x) (kid None u r)) h = ap (option_map (λ alts. (x, alts))) (as_union-grafted u h.0)
  as_alternative-grafted (Node op r) h = refl
  as_alternative-grafted (Leaf a) h = ap views.as_alternative h.1

  pub as_projection-grafted : (e : Tree A B) → Shown m s e → views.as_projection (grafted m s e) ≡ option_map (grafted m s) (views.as_projection e)
  as_projection-grafted (Node (ops.Project xs) r) h = first_part-grafted r
  as_projection-grafted (Node op r) h = refl
  as_projection-grafted (Leaf a) h = ap views.as_projection h.1

  pub as_prefer-grafted : (e : Tree A B) → Shown m s e → views.as_prefer (grafted m s e) ≡ option_map grafted_two (views.as_prefer e)
  as_prefer-grafted (Node (ops.Bin bins.Prefer) r) h = first_two-grafted r
  as_prefer-grafted (Node op r) h = refl
  as_prefer-grafted (Leaf a) h = ap views.as_prefer h.1

  pub as_combine-grafted : (e : Tree A B) → Shown m s e → views.as_combine (grafted m s e) ≡ option_map grafted_two (views.as_combine e)
  as_combine-grafted (Node (ops.Bin bins.Combine) r) h = first_two-grafted r
  as_combine-grafted (Node op r) h = refl
  as_combine-grafted (Leaf a) h = ap views.as_combine h.1

  -- ---- functions

  pub as_lambda-grafted : (e : Tree A B) → Shown m s e → views.as_lambda (grafted m s e) ≡ option_map grafted_lambda (views.as_lambda e)
  as_lambda-grafted (Node ops.Lam (kid None t (kid (Some x) b r))) h = refl
  as_lambda-grafted (Node op r) h = refl
  as_lambda-grafted (Leaf a) h = ap views.as_lambda h.1

  pub as_app-grafted : (e : Tree A B) → Shown m s e → views.as_app (grafted m s e) ≡ option_map grafted_two (views.as_app e)
  as_app-grafted (Node ops.App r) h = first_two-grafted r
  as_app-grafted (Node op r) h = refl
  as_app-grafted (Leaf a) h = ap views.as_app h.1

  as_call_before-grafted : (args : List (Tree A B)) (e : Tree A B) → Shown m s e
      → views.as_call_before (grafted_list args) (grafted m s e) ≡ option_map grafted_call (views.as_call_before args e)
  as_call_before-grafted args (Node (ops.Builtin b) r) h = refl
  as_call_before-grafted args (Node ops.App (kid None f (kid None a r))) h = as_call_before-grafted (a ∷ args) f h.0
  as_call_before-grafted args (Node op r) h = refl
  as_call_before-grafted args (Leaf a) h = ap (views.as_call_before (grafted_list args)) h.1

  pub as_call-grafted : (e : Tree A B) → Shown m s e → views.as_call (grafted m s e) ≡ option_map grafted_call (views.as_call e)
  as_call-grafted e h = as_call_before-grafted [] e h

  -- ---- what is shown of a view's parts

  some-equal : {X : Type 0} (x y : X) → Some x ≡ Some y → x ≡ y
  some-equal x y h = cc

  pub two-shown : (n : ℕ) (r : Row A B) (p : Tree A B × Tree A B) → views.first_two r ≡ Some p → ShownRow m s (suc (suc n)) r → Shown m s p.0 × Shown m s p.1
  two-shown n (kid None e (kid None f r)) p h k = along (λ x. Shown m s x.0 × Shown m s x.1) (some-equal _ _ h) (k.0, k.1.0)
  two-shown n end p h k = absurd cc
  two-shown n (kid (Some x) e r) p h k = absurd cc
  two-shown n (kid None e end) p h k = absurd cc
  two-shown n (kid None e (kid (Some x) f r)) p h k = absurd cc

  pub prefer-shown : (e : Tree A B) (p : Tree A B × Tree A B) → views.as_prefer e ≡ Some p → Shown m s e → Shown m s p.0 × Shown m s p.1
  prefer-shown (Node (ops.Bin bins.Prefer) r) p h k = two-shown 0 r p h k
  prefer-shown (Node op r) p h k = absurd cc
  prefer-shown (Leaf a) p h k = absurd cc

  pub combine-shown : (e : Tree A B) (p : Tree A B × Tree A B) → views.as_combine e ≡ Some p → Shown m s e → Shown m s p.0 × Shown m s p.1
  combine-shown (Node (ops.Bin bins.Combine) r) p h k = two-shown 0 r p h k
  combine-shown (Node op r) p h k = absurd cc
  combine-shown (Leaf a) p h k = absurd cc

  app_first-shown : (r : Row A B) (p : Tree A B × Tree A B) → views.first_two r ≡ Some p → ShownRow m s 1 r → Shown m s p.0
  app_first-shown (kid None e (kid None f r)) p h k = along (λ x. Shown m s x.0) (some-equal _ _ h) k.0
  app_first-shown end p h k = absurd cc
  app_first-shown (kid (Some x) e r) p h k = absurd cc
  app_first-shown (kid None e end) p h k = absurd cc
  app_first-shown (kid None e (kid (Some x) f r)) p h k = absurd cc

  pub app-shown : (e : Tree A B) (p : Tree A B × Tree A B) → views.as_app e ≡ Some p → Shown m s e → Shown m s p.0
  app-shown (Node ops.App r) p h k = app_first-shown r p h k
  app-shown (Node op r) p h k = absurd cc
  app-shown (Leaf a) p h k = absurd cc
