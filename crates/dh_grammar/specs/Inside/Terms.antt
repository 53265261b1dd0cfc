-- The machine over expressions.
use Rattle.std.specs.Prelude.{ℕ, Bool, true, false, ◌==◌, List, [], ◌∷◌, ◌++◌, Option, Some, None, codes}
use Rattle.dh_syntax.specs.declared.expressions.Op.{Op}
use Rattle.dh_syntax.specs.declared.expressions.Op.TheVariants as ops
use Rattle.dh_syntax.specs.Text.Derivation.{NameToken, name_label, key_label, labels}
use Rattle.dh_syntax.specs.Expressions.Levels.{level_of}
use Rattle.dh_syntax.specs.Text.Meaning.{put, insert, names, values, parts, variable_term, let_term, location, record_term, joined, dotted, sorted, alternatives_of, types_of, piece_of, text_pieces}
use Rattle.dh_syntax.specs.Expressions.Tree.{Node, end, kid, Name, Term}
use Rattle.dh_grammar.specs.Making.{Sorts, Making}
use Rattle.dh_grammar.specs.Making.{so_far}
use Rattle.dh_grammar.specs.Stubs.{and_part}

-- an operand: its expression and how tightly it binds
pub record Operand : Type 0 where
  pub expression : Term
  pub level : ℕ

-- one binding of a let: its label, its annotation if it has one, and its value
pub record Binding : Type 0 where
  pub name : Name
  pub annotation : Option Term
  pub value : Term

-- the pieces of a text and the expressions between them
pub record Texts : Type 0 where
  pub pieces : List (List ℕ)
  pub interpolations : List Term

-- what the machine holds where it makes plain expressions
abbrev pub term_sorts : Sorts
term_sorts = record { tree = Operand; note = Option Term; lets = List Binding; chunks = Texts; items = List Term; alternatives = List (Name × Option Term); fields = List (Name × Term); entry = Name × Term; entries = List (Name × Term) }

-- an expression that binds this tightly
abbrev pub at : ℕ → Term → Operand
at n e = record { expression = e; level = n }

-- a node over these parts that binds this tightly
abbrev pub node : ℕ → Op → List Term → Operand
node n op es = at n (Node op (parts es))

-- a let of one binding
abbrev pub let_of : Binding → Term → Term
let_of b e = let_term b.name b.annotation b.value e

-- a let of these bindings around an expression
abbrev pub around : List Binding → Term → Term
around [] e = e
around (b ∷ bs) e = let_of b (around bs e)

-- a function, or a function type
abbrev pub quantify : Bool → NameToken → Operand → Operand → Operand
quantify true w a b = at 0 (Node ops.Lam (kid None a.expression (kid (Some (name_label w)) b.expression end)))
quantify false w a b = at 0 (Node ops.Pi (kid None a.expression (kid (Some (name_label w)) b.expression end)))

-- a node with an annotation, which `merge` and `toMap` take in
abbrev pub note_on : Op → Term → Term → Term
note_on (ops.Merge false) (Node op r) a = Node (ops.Merge true) (and_part r a)
note_on (ops.ToMap false) (Node op r) a = Node (ops.ToMap true) (and_part r a)
note_on _ e a = Node ops.Annot (parts (e ∷ a ∷ []))

-- an expression with an annotation
abbrev pub annotated : Term → Term → Term
annotated (Node op r) a = note_on op (Node op r) a
annotated e a = Node ops.Annot (parts (e ∷ a ∷ []))

-- an expression with an annotation, which `merge` and `toMap` take in where they may
abbrev pub noted_if : Bool → Term → Term → Term
noted_if true e a = annotated e a
noted_if false e a = Node ops.Annot (parts (e ∷ a ∷ []))

-- bindings with one more at their end
abbrev pub add_let : Option (List Binding) → NameToken → Option Term → Operand → List Binding
add_let None w a v = record { name = name_label w; annotation = a; value = v.expression } ∷ []
add_let (Some bs) w a v = bs ++ record { name = name_label w; annotation = a; value = v.expression } ∷ []

-- items with one more at their end
abbrev pub add_item : Option (List Term) → Operand → List Term
add_item None x = x.expression ∷ []
add_item (Some es) x = es ++ x.expression ∷ []

-- how plain expressions are made of what was read
abbrev pub terms : Making term_sorts
terms = record {
  binds = λ x. x.level;
  field_labels = names;
  alternative_labels = names;
  natural = λ n. node 17 (ops.Nat n) [];
  integer = λ z. node 17 (ops.Int z) [];
  truth = λ b. node 17 (ops.Bool b) [];
  builtin = λ b. node 17 (ops.Builtin b) [];
  variable = λ w i. at 17 (variable_term (name_label w) i);
  «import» = λ i d m. node 15 (ops.Import (record { loc = location i; mode = m; digest = d })) [];
  operation = λ o l r. node (level_of o) (ops.Bin o) (l.expression ∷ r.expression ∷ []);
  application = λ f x. node 14 ops.App (f.expression ∷ x.expression ∷ []);
  merging = λ t u. node 14 (ops.Merge false) (t.expression ∷ u.expression ∷ []);
  some_of = λ t. node 14 ops.Some (t.expression ∷ []);
  to_map = λ t. node 14 (ops.ToMap false) (t.expression ∷ []);
  updating = λ x ks v. node 0 (ops.With (labels ks)) (x.expression ∷ v.expression ∷ []);
  quantify = quantify;
  arrow = λ a b. at 0 (Node ops.Pi (kid None a.expression (kid (Some (codes "_")) b.expression end)));
  choice = λ p t e. node 0 ops.If (p.expression ∷ t.expression ∷ e.expression ∷ []);
  lets = λ bs b. at 0 (around bs b.expression);
  noting = λ t a. at 0 (noted_if (t.level == 14) t.expression a.expression);
  empty_list = λ c a. node 0 ops.EmptyList (a.expression ∷ []);
  assertion = λ a. node 0 ops.Assert (a.expression ∷ []);
  brackets = λ e. at 17 e.expression;
  field = λ t k. node 16 (ops.Field (key_label k)) (t.expression ∷ []);
  project_none = λ t c. node 16 (ops.Project []) (t.expression ∷ []);
  project = λ t c ks d. node 16 (ops.Project (names (sorted ks))) (t.expression ∷ []);
  project_by = λ t a. node 16 ops.ProjectType (t.expression ∷ a.expression ∷ []);
  text = λ f cs. node 17 (ops.Text (text_pieces f cs.pieces)) cs.interpolations;
  list = λ c is d. node 17 ops.List is;
  union_none = λ c. at 17 (Node (ops.Union []) end);
  union = λ c alts d. at 17 (Node (ops.Union (alternatives_of alts)) (types_of alts));
  record_type_none = λ c. at 17 (Node (ops.RecordType []) end);
  record_type = λ c fs d. node 17 (ops.RecordType (names fs)) (values fs);
  record_none = λ c d. at 17 (record_term []);
  record_of = λ c es d. at 17 (record_term es);
  untyped = None;
  typed = λ x. Some x.expression;
  add_let = add_let;
  start = λ p. record { pieces = piece_of p ∷ []; interpolations = [] };
  more_chunks = λ cs e p. record { pieces = cs.pieces ++ piece_of p ∷ []; interpolations = cs.interpolations ++ e.expression ∷ [] };
  add_item = add_item;
  add_alternative = λ alts k a. insert (key_label k, a) (so_far alts);
  add_field = λ fs k a. insert (key_label k, a.expression) (so_far fs);
  alone = λ k. (key_label k, variable_term (key_label k) None);
  given = λ ks v. dotted ks v.expression;
  add_entry = λ es e. put joined e (so_far es);
}
