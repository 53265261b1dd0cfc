-- Nodes that are well formed, can be spelled and have values in range.
use Rattle.std.proofs.Common.{arith, ◌≡◌, ℕ, suc, Bool, true, false, List, [], ◌∷◌, ◌++◌, length, refl, sym, ◌∙◌, ap, cond, map}
use Rattle.std.specs.Prelude.{IsTrue, ⊤, Option, Some, None}
use Rattle.std.specs.List.{list_all}
use Rattle.dh_syntax.specs.declared.expressions.Op.{Op}
use Rattle.dh_syntax.specs.declared.expressions.Op.TheVariants as ops
use Rattle.dh_syntax.specs.declared.operators.BinOp.TheVariants as binary
use Rattle.dh_syntax.specs.declared.tokens.TextForm.{TextForm}
use Rattle.dh_syntax.specs.declared.tokens.TextForm.TheVariants as forms
use Rattle.dh_syntax.specs.Expressions.Arity.{IsWellFormed, AreWellFormed, fits, plain, some_plain, between, has_some, alt_labels, typed_count}
use Rattle.dh_syntax.specs.Text.Literals.{cut_pieces, indented_by}
use Rattle.dh_syntax.specs.Text.Meaning.{put, names, values, parts, let_term, record_term, joined, alternatives_of, types_of, text_pieces}
use Rattle.dh_syntax.specs.Expressions.Numbers.{bytes_eq}
use Rattle.dh_syntax.proofs.Numbers.{bytes_eq-itself}
use Rattle.dh_syntax.specs.Expressions.Order.{before, ascending}
use Rattle.dh_syntax.proofs.Order.{before-total}
use Rattle.dh_syntax.specs.Expressions.Spellable.{is_label, names_spellable, row_spellable, op_spellable, binder_spellable}
use Rattle.dh_syntax.specs.Expressions.Tree.{Row, Node, end, kid, Name, Var, Term}
use Rattle.dh_syntax.specs.Expressions.Values.{op_in_range, every, every_part}
use Rattle.dh_grammar.proofs.Maps.Cutting.{by_bool}
use Rattle.dh_grammar.proofs.TruthValues.{both, left_of, right_of}

pub record Fair (e : Term) : Type 0 where
  pub well : IsWellFormed e
  pub named : IsTrue (names_spellable e)
  pub valued : IsTrue (every op_in_range e)

pub record FairRow (r : Row Var Name) : Type 0 where
  pub well : AreWellFormed r
  pub named : IsTrue (row_spellable r)
  pub valued : IsTrue (every_part op_in_range r)

pub fair_end : FairRow end
fair_end = record { well = tt; named = refl; valued = refl }

pub fair_kid : (b : Option Name) (e : Term) (r : Row Var Name) → IsTrue (binder_spellable b) → Fair e → FairRow r → FairRow (kid b e r)
fair_kid b e r h f k =
    let fn = f.named in let fv = f.valued in let kn = k.named in let kv = k.valued in
    record { well = (f.well, k.well); named = rw (h, fn, kn) refl; valued = rw (fv, kv) refl }

pub fair_part : (e : Term) (r : Row Var Name) → Fair e → FairRow r → FairRow (kid None e r)
fair_part e r f k = fair_kid None e r refl f k

pub fair_node : (op : Op) (r : Row Var Name) → IsTrue (fits op r) → IsTrue (op_spellable op) → IsTrue (op_in_range op) → FairRow r → Fair (Node op r)
fair_node op r a b c k =
    let kn = k.named in let kv = k.valued in
    record { well = (a, k.well); named = rw (b, kn) refl; valued = rw (c, kv) refl }

pub fair_one : (op : Op) (e : Term) → IsTrue (fits op (parts (e ∷ []))) → IsTrue (op_spellable op) → IsTrue (op_in_range op) → Fair e → Fair (Node op (parts (e ∷ [])))
fair_one op e a b c f = fair_node op (parts (e ∷ [])) a b c (fair_part e end f fair_end)

pub fair_two : (op : Op) (e d : Term) → IsTrue (fits op (parts (e ∷ d ∷ []))) → IsTrue (op_spellable op) → IsTrue (op_in_range op) → Fair e → Fair d → Fair (Node op (parts (e ∷ d ∷ [])))
fair_two op e d a b c f g = fair_node op (parts (e ∷ d ∷ [])) a b c (fair_part e _ f (fair_part d end g fair_end))

pub fair_three : (op : Op) (e d x : Term) → IsTrue (fits op (parts (e ∷ d ∷ x ∷ []))) → IsTrue (op_spellable op) → IsTrue (op_in_range op) → Fair e → Fair d → Fair x → Fair (Node op (parts (e ∷ d ∷ x ∷ [])))
fair_three op e d x a b c f g h = fair_node op (parts (e ∷ d ∷ x ∷ [])) a b c (fair_part e _ f (fair_part d _ g (fair_part x end h fair_end)))

-- ---- lists of parts

abbrev pub AllFair : List Term → Type 0
AllFair [] = ⊤
AllFair (e ∷ es) = Fair e × AllFair es

pub all_last : (es : List Term) (e : Term) → AllFair es → Fair e → AllFair (es ++ e ∷ [])
all_last [] e h f = (f, tt)
all_last (d ∷ es) e h f = (h.0, all_last es e h.1 f)

pub fair_parts : (es : List Term) → AllFair es → FairRow (parts es)
fair_parts [] h = fair_end
fair_parts (e ∷ es) h = fair_part e (parts es) h.0 (fair_parts es h.1)

pub plain_parts : (es : List Term) → IsTrue (plain (length es) (parts es))
plain_parts [] = refl
plain_parts (e ∷ es) = plain_parts es

pub some_parts : (es : List Term) → IsTrue (has_some es) → IsTrue (some_plain (parts es))
some_parts [] h = cc
some_parts (e ∷ []) h = refl
some_parts (e ∷ d ∷ es) h = some_parts (d ∷ es) refl

pub some_last : {A : Type 0} (xs : List A) (y : A) → IsTrue (has_some (xs ++ y ∷ []))
some_last [] y = refl
some_last (x ∷ xs) y = refl

pub length_last : {A : Type 0} (xs : List A) (y : A) → length (xs ++ y ∷ []) ≡ suc (length xs)
length_last [] y = refl
length_last (x ∷ xs) y = ap suc (length_last xs y)

length_map : {A B : Type 0} (f : A → B) (xs : List A) → length (map f xs) ≡ length xs
length_map f [] = refl
length_map f (x ∷ xs) = ap suc (length_map f xs)

cut_length : (n : ℕ) (ps : List (List ℕ)) → length (cut_pieces n ps) ≡ length ps
cut_length n [] = refl
cut_length n (p ∷ ps) = ap suc (length_map _ ps)

pieces_length : (f : TextForm) (ps : List (List ℕ)) → length (text_pieces f ps) ≡ length ps
pieces_length forms.DoubleQuoted ps = refl
pieces_length forms.MultiLine ps = cut_length (indented_by ps) ps

between_length : (ps : List (List ℕ)) (n : ℕ) (r : Row Var Name) → length ps ≡ suc n → IsTrue (plain n r) → IsTrue (between ps r)
between_length [] n r e h = absurd (omega arith)
between_length (p ∷ ps) n r e h = let k : length ps ≡ n = omega arith in ap (λ m. plain m r) k ∙ h

pub fair_text : (f : TextForm) (ps : List (List ℕ)) (es : List Term) → length ps ≡ suc (length es) → AllFair es → Fair (Node (ops.Text (text_pieces f ps)) (parts es))
fair_text f ps es e h = fair_node (ops.Text (text_pieces f ps)) (parts es) (between_length (text_pieces f ps) (length es) (parts es) (pieces_length f ps ∙ e) (plain_parts es)) refl refl (fair_parts es h)

-- ---- labels in order

abbrev pub AllOf : {X : Type 0} → (X → Type 0) → List (Name × X) → Type 0
AllOf P [] = ⊤
AllOf P (e ∷ es) = P e.1 × AllOf P es

pub record Fairly {X : Type 0} (P : X → Type 0) (es : List (Name × X)) : Type 0 where
  pub order : IsTrue (ascending (names es))
  pub labels : IsTrue (list_all is_label (names es))
  pub all : AllOf P es

abbrev above : Name → List Name → Bool
above x [] = true
above x (y ∷ ys) = before x y

ascending_more : (x : Name) (xs : List Name) → IsTrue (above x xs) → IsTrue (ascending xs) → IsTrue (ascending (x ∷ xs))
ascending_more x [] a h = refl
ascending_more x (y ∷ ys) a h = both (before x y) (ascending (y ∷ ys)) a h

ascending_first : (x : Name) (xs : List Name) → IsTrue (ascending (x ∷ xs)) → IsTrue (above x xs)
ascending_first x [] h = refl
ascending_first x (y ∷ ys) h = left_of (before x y) (ascending (y ∷ ys)) h

ascending_rest : (x : Name) (xs : List Name) → IsTrue (ascending (x ∷ xs)) → IsTrue (ascending xs)
ascending_rest x [] h = refl
ascending_rest x (y ∷ ys) h = right_of (before x y) (ascending (y ∷ ys)) h

comes_after : (x y : Name) → bytes_eq x y ≡ false → before x y ≡ false → IsTrue (before y x)
comes_after x y e b =
    by_bool (before y x) (λ t. t)
    (λ f. let g = before-total x y b f in let i = bytes_eq-itself x in absurd (let j = sym i ∙ ap (bytes_eq x) g ∙ e in cc))

by_cond : {A : Type 0} (P : A → Type 0) (b : Bool) (x y : A) → (b ≡ true → P x) → (b ≡ false → P y) → P (cond b x y)
by_cond P true x y f g = f refl
by_cond P false x y f g = g refl

above_put : {X : Type 0} (j : X → X → X) (x : Name) (p : Name × X) (es : List (Name × X)) → IsTrue (above x (names es)) → IsTrue (before x p.0) → IsTrue (above x (names (put j p es)))
above_put j x p [] a b = b
above_put j x p (e ∷ es) a b =
    by_cond (λ r. IsTrue (above x (names r))) (bytes_eq p.0 e.0) ((e.0, j e.1 p.1) ∷ es) (cond (before p.0 e.0) (p ∷ e ∷ es) (e ∷ put j p es))
    (λ h. a) (λ h. by_cond (λ r. IsTrue (above x (names r))) (before p.0 e.0) (p ∷ e ∷ es) (e ∷ put j p es) (λ g. b) (λ g. a))

pub put_fairly : {X : Type 0} (P : X → Type 0) (j : X → X → X) → ((a b : X) → P a → P b → P (j a b)) → (p : Name × X) (es : List (Name × X)) → IsTrue (is_label p.0) → P p.1 → Fairly P es → Fairly P (put j p es)
put_fairly P j k p [] l h f = record { order = refl; labels = both (is_label p.0) true l refl; all = (h, tt) }
put_fairly P j k p (e ∷ es) l h f =
    let le = left_of (is_label e.0) (list_all is_label (names es)) f.labels in
    let lr = right_of (is_label e.0) (list_all is_label (names es)) f.labels in
    by_cond (Fairly P) (bytes_eq p.0 e.0) ((e.0, j e.1 p.1) ∷ es) (cond (before p.0 e.0) (p ∷ e ∷ es) (e ∷ put j p es))
    (λ q. record { order = f.order; labels = f.labels; all = (k e.1 p.1 f.all.0 h, f.all.1) })
    (λ q. by_cond (Fairly P) (before p.0 e.0) (p ∷ e ∷ es) (e ∷ put j p es)
    (λ b. record { order = both (before p.0 e.0) (ascending (names (e ∷ es))) b f.order; labels = both (is_label p.0) (list_all is_label (names (e ∷ es))) l f.labels; all = (h, f.all) })
    (λ b. let rest = put_fairly P j k p es l h (record { order = ascending_rest e.0 (names es) f.order; labels = lr; all = f.all.1 }) in
    record {
      order = ascending_more e.0 (names (put j p es)) (above_put j e.0 p es (ascending_first e.0 (names es) f.order) (comes_after p.0 e.0 q b)) rest.order;
      labels = both (is_label e.0) (list_all is_label (names (put j p es))) le rest.labels;
      all = (f.all.0, rest.all);
    }))

pub none_fairly : {X : Type 0} (P : X → Type 0) → Fairly P []
none_fairly P = record { order = refl; labels = refl; all = tt }

-- ---- nodes with labels

values_fair : (es : List (Name × Term)) → AllOf Fair es → AllFair (values es)
values_fair [] h = tt
values_fair (e ∷ es) h = (h.0, values_fair es h.1)

values_plain : (es : List (Name × Term)) → IsTrue (plain (length (names es)) (parts (values es)))
values_plain [] = refl
values_plain (e ∷ es) = values_plain es

pub fair_record : (es : List (Name × Term)) → Fairly Fair es → Fair (record_term es)
fair_record es f =
    fair_node (ops.Record (names es)) (parts (values es)) (both (ascending (names es)) (plain (length (names es)) (parts (values es))) f.order (values_plain es)) f.labels refl
    (fair_parts (values es) (values_fair es f.all))

pub fair_record_type : (es : List (Name × Term)) → Fairly Fair es → Fair (Node (ops.RecordType (names es)) (parts (values es)))
fair_record_type es f =
    fair_node (ops.RecordType (names es)) (parts (values es)) (both (ascending (names es)) (plain (length (names es)) (parts (values es))) f.order (values_plain es)) f.labels refl
    (fair_parts (values es) (values_fair es f.all))

pub fair_joined : (a b : Term) → Fair a → Fair b → Fair (joined a b)
fair_joined a b f g = fair_two (ops.Bin binary.Combine) a b refl refl refl f g

abbrev pub FairNote : Option Term → Type 0
FairNote None = ⊤
FairNote (Some a) = Fair a

alt_names : (es : List (Name × Option Term)) → alt_labels (alternatives_of es) ≡ names es
alt_names [] = refl
alt_names (e ∷ es) = ap (λ xs. e.0 ∷ xs) (alt_names es)

types_plain : (es : List (Name × Option Term)) → IsTrue (plain (typed_count (alternatives_of es)) (types_of es))
types_plain [] = refl
types_plain ((x, None) ∷ es) = types_plain es
types_plain ((x, Some a) ∷ es) = types_plain es

types_fair : (es : List (Name × Option Term)) → AllOf FairNote es → FairRow (types_of es)
types_fair [] h = fair_end
types_fair ((x, None) ∷ es) h = types_fair es h.1
types_fair ((x, Some a) ∷ es) h = fair_part a (types_of es) h.0 (types_fair es h.1)

pub fair_union : (es : List (Name × Option Term)) → Fairly FairNote es → Fair (Node (ops.Union (alternatives_of es)) (types_of es))
fair_union es f =
    fair_node (ops.Union (alternatives_of es)) (types_of es)
    (both (ascending (alt_labels (alternatives_of es))) (plain (typed_count (alternatives_of es)) (types_of es)) (ap ascending (alt_names es) ∙ f.order) (types_plain es))
    (ap (list_all is_label) (alt_names es) ∙ f.labels) refl (types_fair es f.all)

pub fair_let : (x : Name) (a : Option Term) (v e : Term) → IsTrue (is_label x) → FairNote a → Fair v → Fair e → Fair (let_term x a v e)
fair_let x None v e l n f g = fair_node (ops.Let false) _ refl refl refl (fair_part v _ f (fair_kid (Some x) e end l g fair_end))
fair_let x (Some a) v e l n f g = fair_node (ops.Let true) _ refl refl refl (fair_part a _ n (fair_part v _ f (fair_kid (Some x) e end l g fair_end)))
