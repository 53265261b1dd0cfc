-- The machine over expressions that puts a stub where one would nest too deep.
use Rattle.std.specs.Prelude.{ℕ, suc, max, Bool, true, false, ◌==◌, nat_le, if◌then◌else◌, List, [], ◌∷◌, ◌++◌, Option, Some, None, codes}
use Rattle.dh_syntax.specs.declared.expressions.Op.{Op}
use Rattle.dh_syntax.specs.declared.expressions.Op.TheVariants as ops
use Rattle.dh_syntax.specs.declared.operators.BinOp.TheVariants as binary
use Rattle.dh_syntax.specs.Text.Derivation.{NameToken, name_label, key_label, Keys, one_key, more_keys, labels}
use Rattle.dh_syntax.specs.Expressions.Levels.{level_of}
use Rattle.dh_syntax.specs.Text.Meaning.{put, insert, names, values, variable_term, location, sorted, piece_of, text_pieces}
use Rattle.dh_syntax.specs.declared.expressions.Alt.{Alt}
use Rattle.dh_syntax.specs.Limits.{most_nesting}
use Rattle.dh_syntax.specs.Expressions.Tree.{Row, Node, end, kid, Name, Var, Term}
use Rattle.dh_grammar.specs.Making.{Sorts, Making}
use Rattle.dh_grammar.specs.Making.{so_far}

-- an expression and how deep it nests; a stub where that is more than 500
pub record Part : Type 0 where
  pub expression : Term
  pub nests : ℕ

-- a part and how tightly it binds
pub record Kept : Type 0 where
  pub part : Part
  pub level : ℕ

-- a binding of `let`, made of parts
pub record KeptBinding : Type 0 where
  pub name : Name
  pub annotation : Option Part
  pub value : Part

-- the pieces of a text and the parts interpolated between them
pub record KeptTexts : Type 0 where
  pub pieces : List (List ℕ)
  pub interpolations : List Part

-- what the machine holds where it makes expressions with their nesting
abbrev pub stub_sorts : Sorts
stub_sorts = record { tree = Kept; note = Option Part; lets = List KeptBinding; chunks = KeptTexts; items = List Part; alternatives = List (Name × Option Part); fields = List (Name × Part); entry = Name × Part; entries = List (Name × Part) }

-- what stands in place of an expression that nests too deep: one that takes no memory
abbrev pub stub : Part
stub = record { expression = Node (ops.Bool true) end; nests = suc most_nesting }

-- an expression that nests so deep, or a stub where that is too deep
abbrev pub kept : Term → ℕ → Part
kept e n = if nat_le n most_nesting then record { expression = e; nests = n } else stub

-- parts, each under at most one binder
abbrev pub Parts : Type 0
Parts = List (Option Name × Part)

-- how deep a node over these parts nests
abbrev pub deepest : Parts → ℕ
deepest [] = 0
deepest (p ∷ ps) = max (suc p.1.nests) (deepest ps)

-- the expressions of parts, each with its binder
abbrev pub row : Parts → Row Var Name
row [] = end
row (p ∷ ps) = kid p.0 p.1.expression (row ps)

-- a node over these parts, or a stub where it nests too deep
abbrev pub node : Op → Parts → Part
node op ps = kept (Node op (row ps)) (deepest ps)

-- parts that stand under no binder
abbrev pub unbound : List Part → Parts
unbound [] = []
unbound (p ∷ ps) = (None, p) ∷ unbound ps

-- an expression that binds this tightly
abbrev pub at : ℕ → Part → Kept
at n p = record { part = p; level = n }

-- a let of one binding
abbrev pub let_part : Name → Option Part → Part → Part → Part
let_part x None v e = node (ops.Let false) ((None, v) ∷ (Some x, e) ∷ [])
let_part x (Some a) v e = node (ops.Let true) ((None, a) ∷ (None, v) ∷ (Some x, e) ∷ [])

-- bindings of `let` around a body
abbrev pub around : List KeptBinding → Part → Part
around [] e = e
around (b ∷ bs) e = let_part b.name b.annotation b.value (around bs e)

-- the operator of a function, or of a function type
abbrev pub quantifier_of : Bool → Op
quantifier_of true = ops.Lam
quantifier_of false = ops.Pi

-- one part more
abbrev pub and_part : Row Var Name → Term → Row Var Name
and_part end a = kid None a end
and_part (kid b e r) a = kid b e (and_part r a)

-- an annotation on what has this expression
abbrev pub note_on : Term → Part → Part → Part
note_on (Node (ops.Merge false) r) p a = kept (Node (ops.Merge true) (and_part r a.expression)) (max p.nests (suc a.nests))
note_on (Node (ops.ToMap false) r) p a = kept (Node (ops.ToMap true) (and_part r a.expression)) (max p.nests (suc a.nests))
note_on _ p a = node ops.Annot ((None, p) ∷ (None, a) ∷ [])

-- an expression with an annotation, which `merge` and `toMap` take in where they may
abbrev pub noted_if : Bool → Part → Part → Part
noted_if true p a = note_on p.expression p a
noted_if false p a = node ops.Annot ((None, p) ∷ (None, a) ∷ [])

-- a record of these entries
abbrev pub record_part : List (Name × Part) → Part
record_part es = node (ops.Record (names es)) (unbound (values es))

-- two values of the same field, combined by `∧`
abbrev pub joined : Part → Part → Part
joined a b = node (ops.Bin binary.Combine) ((None, a) ∷ (None, b) ∷ [])

-- an entry whose keys are joined by dots: records within one another
abbrev pub dotted : Keys → Part → Name × Part
dotted (one_key k) v = (key_label k, v)
dotted (more_keys ks k) v = dotted ks (record_part ((key_label k, v) ∷ []))

-- whether there is one
abbrev pub is_typed : {X : Type 0} → Option X → Bool
is_typed None = false
is_typed (Some a) = true

-- the alternatives of a union, each with whether it has a type
abbrev pub alternatives_in : List (Name × Option Part) → List Alt
alternatives_in [] = []
alternatives_in (a ∷ as') = record { label = a.0; typed = is_typed a.1 } ∷ alternatives_in as'

-- parts with a type before them, if there is one
abbrev pub and_typed : Option Part → Parts → Parts
and_typed None ps = ps
and_typed (Some a) ps = (None, a) ∷ ps

-- the types of those alternatives that have one
abbrev pub types_in : List (Name × Option Part) → Parts
types_in [] = []
types_in (a ∷ as') = and_typed a.1 (types_in as')

-- bindings with one more at their end
abbrev pub add_let : Option (List KeptBinding) → NameToken → Option Part → Kept → List KeptBinding
add_let None w a v = record { name = name_label w; annotation = a; value = v.part } ∷ []
add_let (Some bs) w a v = bs ++ record { name = name_label w; annotation = a; value = v.part } ∷ []

-- items with one more at their end
abbrev pub add_item : Option (List Part) → Kept → List Part
add_item None x = x.part ∷ []
add_item (Some es) x = es ++ x.part ∷ []

-- a node over one part
abbrev pub one : Op → Kept → Part
one op x = node op ((None, x.part) ∷ [])

-- a node over two parts
abbrev pub two : Op → Kept → Kept → Part
two op x y = node op ((None, x.part) ∷ (None, y.part) ∷ [])

-- how expressions with their nesting are made of what was read
abbrev pub stubs : Making stub_sorts
stubs = record {
  binds = λ x. x.level;
  field_labels = names;
  alternative_labels = names;
  natural = λ n. at 17 (node (ops.Nat n) []);
  integer = λ z. at 17 (node (ops.Int z) []);
  truth = λ b. at 17 (node (ops.Bool b) []);
  builtin = λ b. at 17 (node (ops.Builtin b) []);
  variable = λ w i. at 17 (kept (variable_term (name_label w) i) 0);
  «import» = λ i d m. at 15 (node (ops.Import (record { loc = location i; mode = m; digest = d })) []);
  operation = λ o l r. at (level_of o) (two (ops.Bin o) l r);
  application = λ f x. at 14 (two ops.App f x);
  merging = λ t u. at 14 (two (ops.Merge false) t u);
  some_of = λ t. at 14 (one ops.Some t);
  to_map = λ t. at 14 (one (ops.ToMap false) t);
  updating = λ x ks v. at 0 (two (ops.With (labels ks)) x v);
  quantify = λ b w x y. at 0 (node (quantifier_of b) ((None, x.part) ∷ (Some (name_label w), y.part) ∷ []));
  arrow = λ a b. at 0 (node ops.Pi ((None, a.part) ∷ (Some (codes "_"), b.part) ∷ []));
  choice = λ p t e. at 0 (node ops.If ((None, p.part) ∷ (None, t.part) ∷ (None, e.part) ∷ []));
  lets = λ bs b. at 0 (around bs b.part);
  noting = λ t a. at 0 (noted_if (t.level == 14) t.part a.part);
  empty_list = λ c a. at 0 (one ops.EmptyList a);
  assertion = λ a. at 0 (one ops.Assert a);
  brackets = λ e. at 17 e.part;
  field = λ t k. at 16 (one (ops.Field (key_label k)) t);
  project_none = λ t c. at 16 (one (ops.Project []) t);
  project = λ t c ks d. at 16 (one (ops.Project (names (sorted ks))) t);
  project_by = λ t a. at 16 (two ops.ProjectType t a);
  text = λ f cs. at 17 (node (ops.Text (text_pieces f cs.pieces)) (unbound cs.interpolations));
  list = λ c is d. at 17 (node ops.List (unbound is));
  union_none = λ c. at 17 (node (ops.Union []) []);
  union = λ c alts d. at 17 (node (ops.Union (alternatives_in alts)) (types_in alts));
  record_type_none = λ c. at 17 (node (ops.RecordType []) []);
  record_type = λ c fs d. at 17 (node (ops.RecordType (names fs)) (unbound (values fs)));
  record_none = λ c d. at 17 (record_part []);
  record_of = λ c es d. at 17 (record_part es);
  untyped = None;
  typed = λ x. Some x.part;
  add_let = add_let;
  start = λ p. record { pieces = piece_of p ∷ []; interpolations = [] };
  more_chunks = λ cs e p. record { pieces = cs.pieces ++ piece_of p ∷ []; interpolations = cs.interpolations ++ e.part ∷ [] };
  add_item = add_item;
  add_alternative = λ alts k a. insert (key_label k, a) (so_far alts);
  add_field = λ fs k a. insert (key_label k, a.part) (so_far fs);
  alone = λ k. (key_label k, kept (variable_term (key_label k) None) 0);
  given = λ ks v. dotted ks v.part;
  add_entry = λ es e. put joined e (so_far es);
}
