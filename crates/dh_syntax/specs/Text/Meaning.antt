-- The expression that a derivation tree says (the standard's "Syntax"; `dhall.abnf`, from "complete-expression" on).
use Rattle.std.specs.Prelude.{ℕ, true, false, cond, List, [], ◌∷◌, ◌++◌, map, Option, Some, None, is_some, codes}
use Rattle.dh_syntax.specs.declared.expressions.Alt.{Alt}
use Rattle.dh_syntax.specs.declared.expressions.Op.TheVariants as ops
use Rattle.dh_syntax.specs.declared.locations.Loc.{Loc}
use Rattle.dh_syntax.specs.declared.locations.Loc.TheVariants as locs
use Rattle.dh_syntax.specs.declared.operators.BinOp.TheVariants as binary
use Rattle.dh_syntax.specs.declared.tokens.TextForm.{TextForm}
use Rattle.dh_syntax.specs.declared.tokens.TextForm.TheVariants as forms
use Rattle.dh_syntax.specs.Text.Literals.{unindent}
use Rattle.dh_syntax.specs.Expressions.Numbers.{bytes_eq}
use Rattle.dh_syntax.specs.Expressions.Order.{before}
use Rattle.dh_syntax.specs.Expressions.Tree.{Row, Leaf, Node, end, kid, Name, Var, Term}
use Rattle.dh_syntax.specs.Text.Derivation.{name_label, key_label, Keys, one_key, more_keys, labels, ImportType, path, url, environment, missing, Derivation, lambda, pi, arrow, choice, lets, updates, merge_as, to_map_as, empty_list, assertion, annotation, operation, application, merging, some_of, to_map, import, field, project_none, project, project_by, natural, integer, truth, builtin, variable, text, brackets, list, union_none, union, record_type_none, record_type, record_none, record_of, Note, untyped, typed, Lets, one_let, more_lets, Updates, one_update, more_updates, Chunks, start, more_chunks, Items, one_item, more_items, Alternatives, one_alternative, more_alternatives, Fields, one_field, more_fields, Entry, alone, given, Entries, one_entry, more_entries}

-- entries in the order of their labels, with one more; where its label is there, `join` makes one entry of the two
abbrev pub put : {X : Type 0} → (X → X → X) → Name × X → List (Name × X) → List (Name × X)
put join p [] = p ∷ []
put join p (e ∷ es) = cond (bytes_eq p.0 e.0) ((e.0, join e.1 p.1) ∷ es) (cond (before p.0 e.0) (p ∷ e ∷ es) (e ∷ put join p es))

-- the same where no two labels are equal
abbrev pub insert : {X : Type 0} → Name × X → List (Name × X) → List (Name × X)
insert p es = put (λ a b. a) p es

-- the labels of entries
abbrev pub names : {X : Type 0} → List (Name × X) → List Name
names es = map (λ e. e.0) es

-- what the entries hold
abbrev pub values : {X : Type 0} → List (Name × X) → List X
values es = map (λ e. e.1) es

-- the parts of a node that binds nothing
abbrev pub parts : List Term → Row Var Name
parts [] = end
parts (e ∷ es) = kid None e (parts es)

-- the variable of this name, whose index is 0 where none is written
abbrev pub variable_term : Name → Option ℕ → Term
variable_term x None = Leaf (record { name = x; index = 0 })
variable_term x (Some i) = Leaf (record { name = x; index = i })

-- a let with its annotation, if there is one, its value and its body
abbrev pub let_term : Name → Option Term → Term → Term → Term
let_term x None v e = Node (ops.Let false) (kid None v (kid (Some x) e end))
let_term x (Some a) v e = Node (ops.Let true) (kid None a (kid None v (kid (Some x) e end)))

-- the location that an import is written with
abbrev pub location : ImportType → Loc
location (path l) = l
location (url l) = l
location (environment x) = locs.Env x
location missing = locs.Missing

-- the record with these entries
abbrev pub record_term : List (Name × Term) → Term
record_term es = Node (ops.Record (names es)) (parts (values es))

-- `a ∧ b`, which two entries of one label become
abbrev pub joined : Term → Term → Term
joined a b = Node (ops.Bin binary.Combine) (parts (a ∷ b ∷ []))

-- `a.b.c = v` is `a = { b = { c = v } }`
abbrev pub dotted : Keys → Term → Name × Term
dotted (one_key k) v = (key_label k, v)
dotted (more_keys ks k) v = dotted ks (record_term ((key_label k, v) ∷ []))

-- the labels of a projection, in their order
abbrev pub sorted : Keys → List (Name × Unit {0})
sorted (one_key k) = insert (key_label k, tt) []
sorted (more_keys ks k) = insert (key_label k, tt) (sorted ks)

-- the alternatives of a union: each label, and whether it has a type
abbrev pub alternatives_of : List (Name × Option Term) → List Alt
alternatives_of [] = []
alternatives_of (a ∷ as') = record { label = a.0; typed = is_some a.1 } ∷ alternatives_of as'

-- one more part before the others, if it is there
abbrev pub part_if : Option Term → Row Var Name → Row Var Name
part_if None r = r
part_if (Some a) r = kid None a r

-- the types of the alternatives that have one
abbrev pub types_of : List (Name × Option Term) → Row Var Name
types_of [] = end
types_of (a ∷ as') = part_if a.1 (types_of as')

-- a piece of text, empty where it is absent
abbrev pub piece_of : Option (List ℕ) → List ℕ
piece_of None = []
piece_of (Some p) = p

-- the text between the interpolations: one piece more than there are interpolations
abbrev pub pieces : Chunks → List (List ℕ)
pieces (start p) = piece_of p ∷ []
pieces (more_chunks cs e p) = pieces cs ++ piece_of p ∷ []

-- a multi-line text is without its common indentation (the standard's "Multi-line literals")
abbrev pub text_pieces : TextForm → List (List ℕ) → List (List ℕ)
text_pieces forms.DoubleQuoted ps = ps
text_pieces forms.MultiLine ps = unindent ps

-- the expression that a derivation tree says, and what each kind of its pieces says
abbrev mutual
  -- the expression of a tree
  pub meaning : Derivation → Term
  meaning (lambda w a b) = Node ops.Lam (kid None (meaning a) (kid (Some (name_label w)) (meaning b) end))
  meaning (pi w a b) = Node ops.Pi (kid None (meaning a) (kid (Some (name_label w)) (meaning b) end))
  meaning (arrow a b) = Node ops.Pi (kid None (meaning a) (kid (Some (codes "_")) (meaning b) end))
  meaning (choice p t e) = Node ops.If (parts (meaning p ∷ meaning t ∷ meaning e ∷ []))
  meaning (lets ls b) = lets_around ls (meaning b)
  meaning (updates us) = updated us
  meaning (merge_as t u a) = Node (ops.Merge true) (parts (meaning t ∷ meaning u ∷ meaning a ∷ []))
  meaning (to_map_as t a) = Node (ops.ToMap true) (parts (meaning t ∷ meaning a ∷ []))
  meaning (empty_list c a) = Node ops.EmptyList (parts (meaning a ∷ []))
  meaning (assertion a) = Node ops.Assert (parts (meaning a ∷ []))
  meaning (annotation t a) = Node ops.Annot (parts (meaning t ∷ meaning a ∷ []))
  meaning (operation o l r) = Node (ops.Bin o) (parts (meaning l ∷ meaning r ∷ []))
  meaning (application f x) = Node ops.App (parts (meaning f ∷ meaning x ∷ []))
  meaning (merging t u) = Node (ops.Merge false) (parts (meaning t ∷ meaning u ∷ []))
  meaning (some_of t) = Node ops.Some (parts (meaning t ∷ []))
  meaning (to_map t) = Node (ops.ToMap false) (parts (meaning t ∷ []))
  meaning (import i d m) = Node (ops.Import (record { loc = location i; mode = m; digest = d })) end
  meaning (field t k) = Node (ops.Field (key_label k)) (parts (meaning t ∷ []))
  meaning (project_none t c) = Node (ops.Project []) (parts (meaning t ∷ []))
  meaning (project t c ks d) = Node (ops.Project (names (sorted ks))) (parts (meaning t ∷ []))
  meaning (project_by t a) = Node ops.ProjectType (parts (meaning t ∷ meaning a ∷ []))
  meaning (natural i) = Node (ops.Nat i) end
  meaning (integer z) = Node (ops.Int z) end
  meaning (truth b) = Node (ops.Bool b) end
  meaning (builtin b) = Node (ops.Builtin b) end
  meaning (variable w i) = variable_term (name_label w) i
  meaning (text f cs) = Node (ops.Text (text_pieces f (pieces cs))) (parts (interpolations cs))
  meaning (brackets e) = meaning e
  meaning (list c is d) = Node ops.List (parts (items is))
  meaning (union_none c) = Node (ops.Union []) end
  meaning (union c as' d) = Node (ops.Union (alternatives_of (alternatives as'))) (types_of (alternatives as'))
  meaning (record_type_none c) = Node (ops.RecordType []) end
  meaning (record_type c fs d) = Node (ops.RecordType (names (fields fs))) (parts (values (fields fs)))
  meaning (record_none c d) = record_term []
  meaning (record_of c es d) = record_term (entries es)

  pub note : Note → Option Term
  note untyped = None
  note (typed a) = Some (meaning a)

  -- several lets are nested lets (`let-binding`)
  pub lets_around : Lets → Term → Term
  lets_around (one_let w a v) e = let_term (name_label w) (note a) (meaning v) e
  lets_around (more_lets ls w a v) e = lets_around ls (let_term (name_label w) (note a) (meaning v) e)

  -- each update is one of what stands before it (`with-expression`)
  pub updated : Updates → Term
  updated (one_update t ks v) = Node (ops.With (labels ks)) (parts (meaning t ∷ meaning v ∷ []))
  updated (more_updates us ks v) = Node (ops.With (labels ks)) (parts (updated us ∷ meaning v ∷ []))

  pub interpolations : Chunks → List Term
  interpolations (start p) = []
  interpolations (more_chunks cs e p) = interpolations cs ++ meaning e ∷ []

  pub items : Items → List Term
  items (one_item e) = meaning e ∷ []
  items (more_items is e) = items is ++ meaning e ∷ []

  pub alternatives : Alternatives → List (Name × Option Term)
  alternatives (one_alternative k a) = insert (key_label k, note a) []
  alternatives (more_alternatives as' k a) = insert (key_label k, note a) (alternatives as')

  pub fields : Fields → List (Name × Term)
  fields (one_field k a) = insert (key_label k, meaning a) []
  fields (more_fields fs k a) = insert (key_label k, meaning a) (fields fs)

  -- an entry that is a label alone has the variable of that name (`record-literal-entry`)
  pub entry : Entry → Name × Term
  entry (alone k) = (key_label k, variable_term (key_label k) None)
  entry (given ks v) = dotted ks (meaning v)

  pub entries : Entries → List (Name × Term)
  entries (one_entry e) = put joined (entry e) []
  entries (more_entries es e) = put joined (entry e) (entries es)
