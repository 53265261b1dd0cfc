-- The forms of the language as functions of their parts (the standard's "Syntax").
use Rattle.std.specs.Prelude.{ℕ, ℤ, Bool, true, false, List, [], ◌∷◌, Some, None, map}
use Rattle.dh_syntax.specs.declared.expressions.Alt.{Alt}
use Rattle.dh_syntax.specs.declared.expressions.Op.TheVariants as ops
use Rattle.dh_syntax.specs.declared.operators.BinOp.{BinOp}
use Rattle.dh_syntax.specs.declared.operators.Builtin.{Builtin}
use Rattle.dh_syntax.specs.declared.operators.Builtin.TheVariants as builtins
use Rattle.dh_syntax.specs.Expressions.Tree.{Tree, Row, Node, end, kid, Name}

-- fields of a record with their values, or of a record type with their types
abbrev pub Fields : Type 0 → Type 0 → Type 0
Fields A B = List (Name × Tree A B)

-- the pieces of a text, and the interpolations between them
abbrev pub TextParts : Type 0 → Type 0 → Type 0
TextParts A B = List (List ℕ) × List (Tree A B)

module _ {A B : Type 0} where
  -- parts that stand under no binder
  abbrev pub plain_row : List (Tree A B) → Row A B
  plain_row [] = end
  plain_row (e ∷ es) = kid None e (plain_row es)

  abbrev pub labels_of : Fields A B → List Name
  labels_of fs = map (λ f. f.0) fs

  abbrev pub values_of : Fields A B → List (Tree A B)
  values_of fs = map (λ f. f.1) fs

  abbrev pub builtin : Builtin → Tree A B
  builtin b = Node (ops.Builtin b) end

  abbrev pub bool : Bool → Tree A B
  bool b = Node (ops.Bool b) end

  abbrev pub natural : ℕ → Tree A B
  natural n = Node (ops.Nat n) end

  abbrev pub integer : ℤ → Tree A B
  integer z = Node (ops.Int z) end

  -- a text of these pieces, with an interpolation after each but the last
  abbrev pub text : List (List ℕ) → List (Tree A B) → Tree A B
  text ps es = Node (ops.Text ps) (plain_row es)

  -- a text without interpolation
  abbrev pub plain_text : List ℕ → Tree A B
  plain_text p = text (p ∷ []) []

  -- `λ(x : t) → b`
  abbrev pub lambda : B → Tree A B → Tree A B → Tree A B
  lambda x t b = Node ops.Lam (kid None t (kid (Some x) b end))

  -- `∀(x : t) → b`
  abbrev pub forall : B → Tree A B → Tree A B → Tree A B
  forall x t b = Node ops.Pi (kid None t (kid (Some x) b end))

  -- `let x = a in b`
  abbrev pub let_in : B → Tree A B → Tree A B → Tree A B
  let_in x a b = Node (ops.Let false) (kid None a (kid (Some x) b end))

  -- `let x : t = a in b`
  abbrev pub let_typed : B → Tree A B → Tree A B → Tree A B → Tree A B
  let_typed x t a b = Node (ops.Let true) (kid None t (kid None a (kid (Some x) b end)))

  -- `f a`
  abbrev pub app : Tree A B → Tree A B → Tree A B
  app f a = Node ops.App (plain_row (f ∷ a ∷ []))

  -- `f a b ..`
  abbrev pub apply : Tree A B → List (Tree A B) → Tree A B
  apply f [] = f
  apply f (a ∷ as') = apply (app f a) as'

  -- a built-in applied to arguments
  abbrev pub call : Builtin → List (Tree A B) → Tree A B
  call b args = apply (builtin b) args

  -- `if p then t else e`
  abbrev pub if_else : Tree A B → Tree A B → Tree A B → Tree A B
  if_else p t e = Node ops.If (plain_row (p ∷ t ∷ e ∷ []))

  -- `l + r` and its like
  abbrev pub operator : BinOp → Tree A B → Tree A B → Tree A B
  operator o l r = Node (ops.Bin o) (plain_row (l ∷ r ∷ []))

  -- `List t`
  abbrev pub list_type : Tree A B → Tree A B
  list_type t = call builtins.List (t ∷ [])

  -- `[] : t`
  abbrev pub empty_list : Tree A B → Tree A B
  empty_list t = Node ops.EmptyList (plain_row (t ∷ []))

  -- `[ a, b, .. ]`
  abbrev pub list : List (Tree A B) → Tree A B
  list es = Node ops.List (plain_row es)

  -- the list of these elements of the type t, `[] : List t` where there are none
  abbrev pub list_of : Tree A B → List (Tree A B) → Tree A B
  list_of t [] = empty_list (list_type t)
  list_of t (e ∷ es) = list (e ∷ es)

  abbrev pub some : Tree A B → Tree A B
  some e = Node ops.Some (plain_row (e ∷ []))

  -- `None t`
  abbrev pub none : Tree A B → Tree A B
  none t = call builtins.None (t ∷ [])

  -- `merge t u`
  abbrev pub merge : Tree A B → Tree A B → Tree A B
  merge t u = Node (ops.Merge false) (plain_row (t ∷ u ∷ []))

  -- `{ x : t, .. }`
  abbrev pub record_type : Fields A B → Tree A B
  record_type fs = Node (ops.RecordType (labels_of fs)) (plain_row (values_of fs))

  -- `{ x = e, .. }`
  abbrev pub record_literal : Fields A B → Tree A B
  record_literal fs = Node (ops.Record (labels_of fs)) (plain_row (values_of fs))

  -- `e.x`
  abbrev pub field : Tree A B → Name → Tree A B
  field e x = Node (ops.Field x) (plain_row (e ∷ []))

  -- `e.{ x, y, .. }`
  abbrev pub projection : Tree A B → List Name → Tree A B
  projection e xs = Node (ops.Project xs) (plain_row (e ∷ []))

  -- `e.(t)`
  abbrev pub projection_by_type : Tree A B → Tree A B → Tree A B
  projection_by_type e t = Node ops.ProjectType (plain_row (e ∷ t ∷ []))

  -- `< A | B : t >`, with the types of the alternatives that have one
  abbrev pub union : List Alt → List (Tree A B) → Tree A B
  union alts ts = Node (ops.Union alts) (plain_row ts)

  -- `e : t`
  abbrev pub annotation : Tree A B → Tree A B → Tree A B
  annotation e t = Node ops.Annot (plain_row (e ∷ t ∷ []))

  -- `toMap e`
  abbrev pub to_map : Tree A B → Tree A B
  to_map e = Node (ops.ToMap false) (plain_row (e ∷ []))

  -- `toMap e : t`
  abbrev pub to_map_typed : Tree A B → Tree A B → Tree A B
  to_map_typed e t = Node (ops.ToMap true) (plain_row (e ∷ t ∷ []))

  -- `e with x.y.. = v`
  abbrev pub update : Tree A B → List Name → Tree A B → Tree A B
  update e path v = Node (ops.With path) (plain_row (e ∷ v ∷ []))
