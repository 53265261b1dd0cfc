-- The machine with stubs makes of what the machine over expressions makes the same, cut.
use Rattle.std.proofs.Common.{◌≡◌, ℕ, suc, ◌≤◌, ◌<◌, max, Bool, true, false, List, [], ◌∷◌, ◌++◌, refl, sym, ◌∙◌, ap, arith, leb-true, leb-false}
use Rattle.std.specs.Prelude.{nat_le, ◌==◌, Option, Some, None, codes, cond, map}
use Rattle.dh_syntax.specs.declared.expressions.Op.{Op}
use Rattle.dh_syntax.specs.declared.expressions.Op.TheVariants as ops
use Rattle.dh_syntax.specs.declared.operators.BinOp.TheVariants as binary
use Rattle.dh_syntax.specs.Text.Derivation.{NameToken, name_label, key_label, Keys, one_key, more_keys, labels}
use Rattle.dh_syntax.specs.Text.Derived.{among}
use Rattle.dh_syntax.specs.Text.Meaning.{put, insert, names, values, parts, alternatives_of, types_of, part_if, let_term, record_term}
use Rattle.dh_syntax.specs.Text.Meaning as meanings
use Rattle.dh_syntax.specs.Expressions.Nesting.{nesting, parts_nesting}
use Rattle.dh_syntax.specs.Expressions.Numbers.{bytes_eq}
use Rattle.dh_syntax.specs.Expressions.Order.{before}
use Rattle.dh_syntax.specs.Limits.{most_nesting}
use Rattle.dh_syntax.specs.Expressions.Tree.{Row, Leaf, Node, end, kid, Name, Var, Term}
use Rattle.dh_grammar.specs.Inside.Mapping.{Carries}
use Rattle.dh_grammar.specs.Making.{option_map}
use Rattle.dh_syntax.specs.Expressions.Levels.{level_of}
use Rattle.dh_grammar.specs.Stubs.{at as code_at, Part, Parts, stub, kept, deepest, row, node, unbound, let_part, around, note_on, noted_if, record_part, joined, dotted, alternatives_in, types_in, stubs}
use Rattle.dh_grammar.specs.Inside.Cut.{cut, cut_tree, cut_binding, labelled, cutting}
use Rattle.dh_grammar.specs.Inside.Terms.{Operand, Binding, term_sorts, terms}
use Rattle.dh_grammar.specs.Making.{so_far}
use Rattle.dh_grammar.specs.Stubs.{and_part}
use Rattle.dh_grammar.specs.Inside.Terms as code
use Rattle.dh_grammar.proofs.TruthValues.{by_test}

abbrev pub whole : Term → ℕ → Part
whole e n = record { expression = e; nests = n }

pub kept_few : (e : Term) (n : ℕ) → n ≤ most_nesting → kept e n ≡ whole e n
kept_few e n h = by_test (λ p. p ≡ whole e n) (nat_le n most_nesting) (whole e n) stub (λ b. refl) (λ b. absurd (let g = leb-false n most_nesting b in omega arith))

pub kept_many : (e : Term) (n : ℕ) → most_nesting < n → kept e n ≡ stub
kept_many e n h = by_test (λ p. p ≡ stub) (nat_le n most_nesting) (whole e n) stub (λ b. absurd (let g = leb-true n most_nesting b in omega arith)) (λ b. refl)

-- either the expression is kept or not
pub data Cut (e : Term) : Type 0 where
  few : nesting e ≤ most_nesting → cut e ≡ whole e (nesting e) → Cut e
  many : most_nesting < nesting e → cut e ≡ stub → Cut e

pub by_bool : {A : Type 0} (b : Bool) → (b ≡ true → A) → (b ≡ false → A) → A
by_bool true f g = f refl
by_bool false f g = g refl

pub is_cut : (e : Term) → Cut e
is_cut e =
    by_bool (nat_le (nesting e) most_nesting)
    (λ b. let h = leb-true (nesting e) most_nesting b in few h (kept_few e (nesting e) h))
    (λ b. let h = leb-false (nesting e) most_nesting b in let g : most_nesting < nesting e = omega arith in many g (kept_many e (nesting e) g))

-- ---- parts

data Matches (r : Row Var Name) (ps : Parts) : Type 0 where
  all_kept : parts_nesting r ≤ most_nesting → row ps ≡ r → deepest ps ≡ parts_nesting r → Matches r ps
  not_all : most_nesting < parts_nesting r → most_nesting < deepest ps → Matches r ps

no_parts : Matches end []
no_parts = all_kept (omega arith) refl refl

part_few : (b : Option Name) (e : Term) (p : Part) (r : Row Var Name) (ps : Parts) → p ≡ whole e (nesting e) → nesting e ≤ most_nesting → Matches r ps → Matches (kid b e r) ((b, p) ∷ ps)
part_few b e p r ps k h (not_all g i) = not_all (omega arith) (omega arith)
part_few b e p r ps k h (all_kept g i j) =
    let ke : p.expression ≡ e = ap (λ p. p.expression) k in
    let kn : p.nests ≡ nesting e = ap (λ p. p.nests) k in
    by_bool (nat_le (suc (nesting e)) most_nesting)
    (λ l. let m = leb-true (suc (nesting e)) most_nesting l in all_kept (omega arith) (ap (λ x. kid b x (row ps)) ke ∙ ap (kid b e) i) (ap (λ n. max (suc n) (deepest ps)) kn ∙ ap (max (suc (nesting e))) j))
    (λ l. let m = leb-false (suc (nesting e)) most_nesting l in not_all (omega arith) (omega arith))

part_many : (b : Option Name) (e : Term) (p : Part) (r : Row Var Name) (ps : Parts) → p ≡ stub → most_nesting < nesting e → Matches (kid b e r) ((b, p) ∷ ps)
part_many b e p r ps k h = let kn : p.nests ≡ suc most_nesting = ap (λ p. p.nests) k in not_all (omega arith) (omega arith)

part_by : (b : Option Name) (e : Term) (r : Row Var Name) (ps : Parts) → Cut e → Matches r ps → Matches (kid b e r) ((b, cut e) ∷ ps)
part_by b e r ps (few h k) m = part_few b e (cut e) r ps k h m
part_by b e r ps (many h k) m = part_many b e (cut e) r ps k h

part : (b : Option Name) (e : Term) (r : Row Var Name) (ps : Parts) → Matches r ps → Matches (kid b e r) ((b, cut e) ∷ ps)
part b e r ps m = part_by b e r ps (is_cut e) m

node_cut : (op : Op) (r : Row Var Name) (ps : Parts) → Matches r ps → cut (Node op r) ≡ node op ps
node_cut op r ps (all_kept h i j) = ap (λ r. kept (Node op r) (parts_nesting r)) (sym i) ∙ ap (kept (Node op (row ps))) (ap parts_nesting i ∙ sym j)
node_cut op r ps (not_all h i) = kept_many (Node op r) (parts_nesting r) h ∙ sym (kept_many (Node op (row ps)) (deepest ps) i)

one_cut : (op : Op) (a : Term) → cut (Node op (parts (a ∷ []))) ≡ node op ((None, cut a) ∷ [])
one_cut op a = node_cut op _ _ (part None a _ _ no_parts)

bound_cut : (op : Op) (a : Term) (b : Option Name) (e : Term) → cut (Node op (kid None a (kid b e end))) ≡ node op ((None, cut a) ∷ (b, cut e) ∷ [])
bound_cut op a b e = node_cut op _ _ (part None a _ _ (part b e _ _ no_parts))

two_cut : (op : Op) (a b : Term) → cut (Node op (parts (a ∷ b ∷ []))) ≡ node op ((None, cut a) ∷ (None, cut b) ∷ [])
two_cut op a b = bound_cut op a None b

three_cut : (op : Op) (a b : Term) (x : Option Name) (c : Term) → cut (Node op (kid None a (kid None b (kid x c end)))) ≡ node op ((None, cut a) ∷ (None, cut b) ∷ (x, cut c) ∷ [])
three_cut op a b x c = node_cut op _ _ (part None a _ _ (part None b _ _ (part x c _ _ no_parts)))

all_parts : (es : List Term) → Matches (parts es) (unbound (map cut es))
all_parts [] = no_parts
all_parts (e ∷ es) = part None e (parts es) (unbound (map cut es)) (all_parts es)

many_cut : (op : Op) (es : List Term) → cut (Node op (parts es)) ≡ node op (unbound (map cut es))
many_cut op es = node_cut op (parts es) (unbound (map cut es)) (all_parts es)

-- ---- labels

pub names_labelled : {X Y : Type 0} (f : X → Y) (es : List (Name × X)) → names (map (labelled f) es) ≡ names es
names_labelled f [] = refl
names_labelled f (e ∷ es) = ap (λ xs. e.0 ∷ xs) (names_labelled f es)

values_labelled : {X Y : Type 0} (f : X → Y) (es : List (Name × X)) → values (map (labelled f) es) ≡ map f (values es)
values_labelled f [] = refl
values_labelled f (e ∷ es) = ap (λ xs. f e.1 ∷ xs) (values_labelled f es)

same_cond : {A B : Type 0} (g : A → B) (b : Bool) (x y : A) (v w : B) → g x ≡ v → g y ≡ w → g (cond b x y) ≡ cond b v w
same_cond g true x y v w d e = d
same_cond g false x y v w d e = e

pub put_labelled : {X Y : Type 0} (f : X → Y) (j : X → X → X) (k : Y → Y → Y) → ((a b : X) → f (j a b) ≡ k (f a) (f b)) → (p : Name × X) (es : List (Name × X)) → map (labelled f) (put j p es) ≡ put k (labelled f p) (map (labelled f) es)
put_labelled f j k h p [] = refl
put_labelled f j k h p (e ∷ es) =
    same_cond (map (labelled f)) (bytes_eq p.0 e.0) _ _ _ _
    (ap (λ y. (e.0, y) ∷ map (labelled f) es) (h e.1 p.1))
    (same_cond (map (labelled f)) (before p.0 e.0) (p ∷ e ∷ es) (e ∷ put j p es) _ _ refl (ap (λ ys. labelled f e ∷ ys) (put_labelled f j k h p es)))

record_cut : (es : List (Name × Term)) → cut (record_term es) ≡ record_part (map (labelled cut) es)
record_cut es =
    many_cut (ops.Record (names es)) (values es)
    ∙ ap (λ ps. node (ops.Record (names es)) (unbound ps)) (sym (values_labelled cut es))
    ∙ ap (λ xs. node (ops.Record xs) (unbound (values (map (labelled cut) es)))) (sym (names_labelled cut es))

record_type_cut : (es : List (Name × Term)) → cut (Node (ops.RecordType (names es)) (parts (values es))) ≡ node (ops.RecordType (names (map (labelled cut) es))) (unbound (values (map (labelled cut) es)))
record_type_cut es =
    many_cut (ops.RecordType (names es)) (values es)
    ∙ ap (λ ps. node (ops.RecordType (names es)) (unbound ps)) (sym (values_labelled cut es))
    ∙ ap (λ xs. node (ops.RecordType xs) (unbound (values (map (labelled cut) es)))) (sym (names_labelled cut es))

joined_cut : (a b : Term) → cut (meanings.joined a b) ≡ joined (cut a) (cut b)
joined_cut a b = two_cut (ops.Bin binary.Combine) a b

dotted_cut : (ks : Keys) (v : Term) → labelled cut (meanings.dotted ks v) ≡ dotted ks (cut v)
dotted_cut (one_key k) v = refl
dotted_cut (more_keys ks k) v = dotted_cut ks (record_term ((key_label k, v) ∷ [])) ∙ ap (dotted ks) (record_cut ((key_label k, v) ∷ []))

-- ---- unions

alternatives_cut : (es : List (Name × Option Term)) → alternatives_of es ≡ alternatives_in (map (labelled (option_map cut)) es)
alternatives_cut [] = refl
alternatives_cut ((x, None) ∷ es) = ap (λ as'. record { label = x; typed = false } ∷ as') (alternatives_cut es)
alternatives_cut ((x, Some a) ∷ es) = ap (λ as'. record { label = x; typed = true } ∷ as') (alternatives_cut es)

types_cut : (es : List (Name × Option Term)) → Matches (types_of es) (types_in (map (labelled (option_map cut)) es))
types_cut [] = no_parts
types_cut ((x, None) ∷ es) = types_cut es
types_cut ((x, Some a) ∷ es) = part None a (types_of es) (types_in (map (labelled (option_map cut)) es)) (types_cut es)

union_cut : (es : List (Name × Option Term)) → cut (Node (ops.Union (alternatives_of es)) (types_of es)) ≡ node (ops.Union (alternatives_in (map (labelled (option_map cut)) es))) (types_in (map (labelled (option_map cut)) es))
union_cut es = node_cut (ops.Union (alternatives_of es)) (types_of es) (types_in (map (labelled (option_map cut)) es)) (types_cut es) ∙ ap (λ as'. node (ops.Union as') (types_in (map (labelled (option_map cut)) es))) (alternatives_cut es)

-- ---- lets

let_cut : (x : Name) (a : Option Term) (v e : Term) → cut (let_term x a v e) ≡ let_part x (option_map cut a) (cut v) (cut e)
let_cut x None v e = bound_cut (ops.Let false) v (Some x) e
let_cut x (Some a) v e = three_cut (ops.Let true) a v (Some x) e

around_cut : (bs : List Binding) (e : Term) → cut (code.around bs e) ≡ around (map cut_binding bs) (cut e)
around_cut [] e = refl
around_cut (b ∷ bs) e = let_cut b.name b.annotation b.value (code.around bs e) ∙ ap (let_part b.name (option_map cut b.annotation) (cut b.value)) (around_cut bs e)

map_append : {A B : Type 0} (f : A → B) (xs ys : List A) → map f (xs ++ ys) ≡ map f xs ++ map f ys
map_append f [] ys = refl
map_append f (x ∷ xs) ys = ap (λ zs. f x ∷ zs) (map_append f xs ys)

add_let_cut : (bs : Option (List Binding)) (w : NameToken) (a : Option Term) (x : Operand) → map cut_binding (terms.add_let bs w a x) ≡ stubs.add_let (option_map (map cut_binding) bs) w (option_map cut a) (cut_tree x)
add_let_cut None w a x = refl
add_let_cut (Some bs) w a x = map_append cut_binding bs _

add_item_cut : (es : Option (List Term)) (x : Operand) → map cut (terms.add_item es x) ≡ stubs.add_item (option_map (map cut) es) (cut_tree x)
add_item_cut None x = refl
add_item_cut (Some es) x = map_append cut es _

insert_labelled : {X Y : Type 0} (f : X → Y) (p : Name × X) (es : Option (List (Name × X))) → map (labelled f) (insert p (so_far es)) ≡ insert (labelled f p) (so_far (option_map (map (labelled f)) es))
insert_labelled f p None = refl
insert_labelled f p (Some es) = put_labelled f (λ a b. a) (λ a b. a) (λ a b. refl) p es

add_entry_cut : (es : Option (List (Name × Term))) (e : Name × Term) → map (labelled cut) (put meanings.joined e (so_far es)) ≡ put joined (labelled cut e) (so_far (option_map (map (labelled cut)) es))
add_entry_cut None e = refl
add_entry_cut (Some es) e = put_labelled cut meanings.joined joined joined_cut e es

-- ---- annotations

and_part_nests : (r : Row Var Name) (a : Term) → parts_nesting (and_part r a) ≡ max (parts_nesting r) (suc (nesting a))
and_part_nests end a = omega arith
and_part_nests (kid b e r) a = let h = and_part_nests r a in omega arith

and_part_by : (op : Op) (r : Row Var Name) (a : Term) (n : ℕ) → n ≡ parts_nesting r → Cut a → cut (Node op (and_part r a)) ≡ kept (Node op (and_part r (cut a).expression)) (max n (suc (cut a).nests))
and_part_by op r a n h (few i k) =
    let e = and_part_nests r a in
    let ke : (cut a).expression ≡ a = ap (λ p. p.expression) k in
    let kn : (cut a).nests ≡ nesting a = ap (λ p. p.nests) k in
    let m : parts_nesting (and_part r a) ≡ max n (suc (cut a).nests) = omega arith in
    ap (kept (Node op (and_part r a))) m ∙ ap (λ x. kept (Node op (and_part r x)) (max n (suc (cut a).nests))) (sym ke)
and_part_by op r a n h (many i k) =
    let e = and_part_nests r a in
    let kn : (cut a).nests ≡ suc most_nesting = ap (λ p. p.nests) k in
    kept_many (Node op (and_part r a)) (parts_nesting (and_part r a)) (omega arith) ∙ sym (kept_many _ (max n (suc (cut a).nests)) (omega arith))

-- an annotation on what is kept, or not
note_few : (op : Op) (r : Row Var Name) (a : Term) → cut (Node op r) ≡ whole (Node op r) (parts_nesting r) → cut (code.note_on op (Node op r) a) ≡ note_on (Node op r) (whole (Node op r) (parts_nesting r)) (cut a)
note_few (ops.Merge false) r a k = and_part_by (ops.Merge true) r a (parts_nesting r) refl (is_cut a)
note_few (ops.ToMap false) r a k = and_part_by (ops.ToMap true) r a (parts_nesting r) refl (is_cut a)
note_few op r a k = two_cut ops.Annot (Node op r) a ∙ ap (λ p. node ops.Annot ((None, p) ∷ (None, cut a) ∷ [])) k

note_many : (op : Op) (r : Row Var Name) (a : Term) → most_nesting < parts_nesting r → cut (code.note_on op (Node op r) a) ≡ stub
note_many (ops.Merge false) r a h = let e = and_part_nests r a in kept_many _ (parts_nesting (and_part r a)) (omega arith)
note_many (ops.ToMap false) r a h = let e = and_part_nests r a in kept_many _ (parts_nesting (and_part r a)) (omega arith)
note_many op r a h = kept_many _ (max (suc (parts_nesting r)) (max (suc (nesting a)) 0)) (omega arith)

stub_annotated : (a : Part) → noted_if true stub a ≡ stub
stub_annotated a = kept_many _ (max (suc (suc most_nesting)) (max (suc a.nests) 0)) (omega arith)

annotated_by : (op : Op) (r : Row Var Name) (a : Term) → Cut (Node op r) → cut (code.note_on op (Node op r) a) ≡ noted_if true (cut (Node op r)) (cut a)
annotated_by op r a (few h k) = note_few op r a k ∙ ap (λ p. noted_if true p (cut a)) (sym k)
annotated_by op r a (many h k) = note_many op r a h ∙ sym (stub_annotated (cut a)) ∙ ap (λ p. noted_if true p (cut a)) (sym k)

annotated_cut : (e a : Term) → cut (code.annotated e a) ≡ noted_if true (cut e) (cut a)
annotated_cut (Leaf x) a = two_cut ops.Annot (Leaf x) a
annotated_cut (Node op r) a = annotated_by op r a (is_cut (Node op r))

noted_cut : (b : Bool) (e a : Term) → cut (code.noted_if b e a) ≡ noted_if b (cut e) (cut a)
noted_cut true e a = annotated_cut e a
noted_cut false e a = two_cut ops.Annot e a

variable_cut : (x : Name) (i : Option ℕ) → cut (meanings.variable_term x i) ≡ kept (meanings.variable_term x i) 0
variable_cut x None = refl
variable_cut x (Some i) = refl

quantify_cut : (b : Bool) (w : NameToken) (x y : Operand) → cut_tree (terms.quantify b w x y) ≡ stubs.quantify b w (cut_tree x) (cut_tree y)
quantify_cut true w x y = ap (code_at 0) (bound_cut ops.Lam x.expression (Some (name_label w)) y.expression)
quantify_cut false w x y = ap (code_at 0) (bound_cut ops.Pi x.expression (Some (name_label w)) y.expression)

-- ---- all of it

pub cuts : Carries terms stubs cutting
cuts = record {
  binds = λ x. refl;
  field_labels = λ x fs. ap (among x) (names_labelled cut fs);
  alternative_labels = λ x as'. ap (among x) (names_labelled (option_map cut) as');
  natural = λ i. refl;
  integer = λ z. refl;
  truth = λ b. refl;
  builtin = λ b. refl;
  variable = λ w i. ap (code_at 17) (variable_cut (name_label w) i);
  «import» = λ i d u. refl;
  operation = λ o l r. ap (code_at (level_of o)) (two_cut (ops.Bin o) l.expression r.expression);
  application = λ x y. ap (code_at 14) (two_cut ops.App x.expression y.expression);
  merging = λ x y. ap (code_at 14) (two_cut (ops.Merge false) x.expression y.expression);
  some_of = λ x. ap (code_at 14) (one_cut ops.Some x.expression);
  to_map = λ x. ap (code_at 14) (one_cut (ops.ToMap false) x.expression);
  updating = λ x ks v. ap (code_at 0) (two_cut (ops.With (labels ks)) x.expression v.expression);
  quantify = quantify_cut;
  arrow = λ x y. ap (code_at 0) (bound_cut ops.Pi x.expression (Some (codes "_")) y.expression);
  choice = λ x y z. ap (code_at 0) (three_cut ops.If x.expression y.expression None z.expression);
  lets = λ ls x. ap (code_at 0) (around_cut ls x.expression);
  noting = λ x y. ap (code_at 0) (noted_cut (x.level == 14) x.expression y.expression);
  empty_list = λ c x. ap (code_at 0) (one_cut ops.EmptyList x.expression);
  assertion = λ x. ap (code_at 0) (one_cut ops.Assert x.expression);
  brackets = λ x. refl;
  field = λ x k. ap (code_at 16) (one_cut (ops.Field (key_label k)) x.expression);
  project_none = λ x c. ap (code_at 16) (one_cut (ops.Project []) x.expression);
  project = λ x c ks d. ap (code_at 16) (one_cut (ops.Project (names (meanings.sorted ks))) x.expression);
  project_by = λ x y. ap (code_at 16) (two_cut ops.ProjectType x.expression y.expression);
  text = λ t cs. ap (code_at 17) (many_cut (ops.Text (meanings.text_pieces t cs.pieces)) cs.interpolations);
  list = λ c is d. ap (code_at 17) (many_cut ops.List is);
  union_none = λ c. refl;
  union = λ c as' d. ap (code_at 17) (union_cut as');
  record_type_none = λ c. refl;
  record_type = λ c fs d. ap (code_at 17) (record_type_cut fs);
  record_none = λ c d. refl;
  record_of = λ c es d. ap (code_at 17) (record_cut es);
  untyped = refl;
  typed = λ x. refl;
  add_let = add_let_cut;
  start = λ p. refl;
  more_chunks = λ cs x p. ap (λ es. record { pieces = cs.pieces ++ meanings.piece_of p ∷ []; interpolations = es }) (map_append cut cs.interpolations _);
  add_item = add_item_cut;
  add_alternative = λ as' k a. insert_labelled (option_map cut) (key_label k, a) as';
  add_field = λ fs k x. insert_labelled cut (key_label k, x.expression) fs;
  alone = λ k. refl;
  given = λ ks x. dotted_cut ks x.expression;
  add_entry = add_entry_cut;
}
