-- Which expression a CBOR item is (the standard's "Binary encoding", "Decoding"), and which bytes are an expression.
--
-- Heads may have any length. Keys of maps and labels of projections may stand in any order, none twice. Applications and
-- lets may be nested in one another, and `[28, T]` may stand for each empty list. Tag 55799 may stand before the whole.
use Rattle.std.specs.Prelude.{◌≡◌, ℕ, ◌+◌, ◌==◌, ◌≤◌, Bool, true, false, if◌then◌else◌, List, [], ◌∷◌, length, map, Option, Some, None, find, Ok, codes}
use Rattle.std.specs.Str.{is_utf8}
use Rattle.dh_syntax.specs.declared.expressions.Alt.{Alt}
use Rattle.dh_syntax.specs.declared.expressions.Op.TheVariants as ops
use Rattle.dh_syntax.specs.declared.expressions.Op.{Op}
use Rattle.dh_syntax.specs.declared.operators.BinOp.TheVariants as op
use Rattle.dh_syntax.specs.declared.operators.BinOp.{BinOp}
use Rattle.dh_syntax.specs.declared.operators.Builtin.TheVariants as builtin
use Rattle.dh_syntax.specs.Bytes.BinaryHeads.{Atom, unsigned, characters, simple, Mark, begun}
use Rattle.dh_syntax.specs.Bytes.BinaryItems.{Item, single, array_of, map_of, tagged, Items, no_items, more_items, Pairs, no_pairs, more_pairs, item_marks}
use Rattle.dh_syntax.specs.Bytes.BinaryLeaves.{◌>>=◌, is_null, unsigned_of, spelled, label_of, named_label, path_of, inserted, index_of, natural_of, integer_of, import_of}
use Rattle.dh_syntax.specs.Expressions.Builtins.{builtin_of}
use Rattle.dh_syntax.specs.Expressions.Nesting.{nesting}
use Rattle.dh_syntax.specs.Expressions.Operators.{op_code}
use Rattle.dh_syntax.specs.Limits.{most_nesting}
use Rattle.dh_syntax.specs.Expressions.Tree.{Row, Leaf, Node, end, kid, Name, Var, Term}

-- ---- the parts of an array

-- the value of a label: null or an expression
pub data Value : Type 0 where
  nothing : Value
  holds : Term → Value

-- an entry of a map: its label and its value
pub record Entry : Type 0 where
  pub name : Name
  pub value : Value

-- An item of an array: the item, the expression that it is, the one that it holds as an array of one, and the entries
-- that it has as a map, in the order of their labels.
pub record Part : Type 0 where
  pub item : Item
  pub term : Option Term
  pub boxed : Option Term
  pub entries : Option (List Entry)

-- the expressions that these parts are, if each is one
abbrev pub terms : List Part → Option (List Term)
terms [] = Some []
terms (p ∷ ps) = do
  e ← p.term
  es ← terms ps
  Some (e ∷ es)

-- these expressions as the parts of a node that binds nothing
abbrev pub plain_row : List Term → Row Var Name
plain_row [] = end
plain_row (e ∷ es) = kid None e (plain_row es)

-- a node with these parts, each an expression
abbrev pub node : Op → List Part → Option Term
node op ps = do
  es ← terms ps
  Some (Node op (plain_row es))

-- the same with so many parts
abbrev pub node_of : Op → ℕ → List Part → Option Term
node_of op n ps = if length ps == n then node op ps else None

-- the built-in of this name as an expression
abbrev pub builtin_term : List ℕ → Option Term
builtin_term t = do
  b ← builtin_of t
  Some (Node (ops.Builtin b) end)

-- ---- the rows of the table, by the first item of their array

-- `[0, f, a, ..]`
abbrev pub applied : Term → List Term → Term
applied f [] = f
applied f (a ∷ as') = applied (Node ops.App (kid None f (kid None a end))) as'

-- an application to one argument or more
abbrev pub application : List Part → Option Term
application (f ∷ a ∷ ps) = do
  g ← f.term
  es ← terms (a ∷ ps)
  Some (applied g es)
application _ = None

-- `[1, A, b]` and `[1, "x", A, b]`, `[2, A, b]` and `[2, "x", A, b]`
abbrev pub quantified : Op → Name → Part → Part → Option Term
quantified op x type body = do
  a ← type.term
  b ← body.term
  Some (Node op (kid None a (kid (Some x) b end)))

-- a function or a function type, whose binder is `_` where none is written
abbrev pub quantifier : Op → List Part → Option Term
quantifier op (type ∷ body ∷ []) = quantified op (codes "_") type body
quantifier op (x ∷ type ∷ body ∷ []) = named_label x.item >>= λ y. quantified op y type body
quantifier op _ = None

-- `[3, code, l, r]`
abbrev pub operators : List BinOp
operators =
    op.Or ∷ op.And ∷ op.Equal ∷ op.NotEqual ∷ op.Plus ∷ op.Times ∷ op.TextAppend ∷ op.ListAppend ∷ op.Combine ∷ op.Prefer
    ∷ op.CombineTypes ∷ op.Fallback ∷ op.Equivalent ∷ op.Complete ∷ []

-- the operator of this code
abbrev pub operator : ℕ → Option BinOp
operator n = find (λ o. op_code o == n) operators

-- an operator with its two operands
abbrev pub operation : List Part → Option Term
operation (code ∷ ps) = do
  n ← unsigned_of code.item
  o ← operator n
  node_of (ops.Bin o) 2 ps
operation _ = None

-- `[4, T]` and `[4, null, a, ..]`
abbrev pub list : List Part → Option Term
list (t ∷ []) = do
  x ← t.term
  Some (Node ops.EmptyList (kid None (Node ops.App (kid None (Node (ops.Builtin builtin.List) end) (kid None x end))) end))
list (n ∷ a ∷ ps) = if is_null n.item then node ops.List (a ∷ ps) else None
list _ = None

-- `[5, null, t]`
abbrev pub some : List Part → Option Term
some (n ∷ t ∷ []) = if is_null n.item then node ops.Some (t ∷ []) else None
some _ = None

-- `[6, t, u]` and `[6, t, u, T]`, `[27, t]` and `[27, t, T]`
abbrev pub with_annotation : (Bool → Op) → ℕ → List Part → Option Term
with_annotation op n ps = if length ps == n then node (op false) ps else node_of (op true) (1 + n) ps

-- `[7, {x: A, ..}]` and `[8, {x: a, ..}]`
abbrev pub held_by : Value → Option (List Term) → Option (List Term)
held_by nothing others = None
held_by (holds t) others = others >>= λ ts. Some (t ∷ ts)

-- the expressions that the entries hold, if each holds one
abbrev pub held : List Entry → Option (List Term)
held [] = Some []
held (e ∷ es) = held_by e.value (held es)

-- a record or a record type by its map, each of whose labels has an expression
abbrev pub fields : (List Name → Op) → List Part → Option Term
fields op (m ∷ []) = do
  es ← m.entries
  ts ← held es
  Some (Node (op (map (λ e. e.name) es)) (plain_row ts))
fields op _ = None

-- `[9, t, "x"]`
abbrev pub field : List Part → Option Term
field (t ∷ x ∷ []) = do
  y ← label_of x.item
  node (ops.Field y) (t ∷ [])
field _ = None

-- `[10, t, "x", ..]` and `[10, t, [T]]`
abbrev pub sorted_labels : List Part → Option (List Name)
sorted_labels [] = Some []
sorted_labels (p ∷ ps) = do
  x ← label_of p.item
  xs ← sorted_labels ps
  inserted (λ y. y) x xs

-- the projection of an expression to these labels
abbrev pub projected : Term → List Part → Option Term
projected e ps = do
  xs ← sorted_labels ps
  Some (Node (ops.Project xs) (kid None e end))

-- the projection of an expression by a type, if one is given, else to labels
abbrev pub projected_by : Term → Option Term → List Part → Option Term
projected_by e (Some t) ps = Some (Node ops.ProjectType (kid None e (kid None t end)))
projected_by e None ps = projected e ps

-- a projection, to labels or by a type
abbrev pub projection : List Part → Option Term
projection [] = None
projection (p ∷ []) = p.term >>= λ e. projected e []
projection (p ∷ q ∷ []) = p.term >>= λ e. projected_by e q.boxed (q ∷ [])
projection (p ∷ q ∷ r ∷ ps) = p.term >>= λ e. projected e (q ∷ r ∷ ps)

-- `[11, {x: T or null, ..}]`
abbrev pub is_typed : Value → Bool
is_typed nothing = false
is_typed (holds t) = true

-- an alternative of a union by its entry
abbrev pub alternative : Entry → Alt
alternative e = record { label = e.name; typed = is_typed e.value }

-- one more type before the others, where a value holds it
abbrev pub types_by : Value → List Term → List Term
types_by nothing others = others
types_by (holds t) others = t ∷ others

-- the types of the alternatives that have one
abbrev pub types : List Entry → List Term
types [] = []
types (e ∷ es) = types_by e.value (types es)

-- a union by its map, where null stands for no type
abbrev pub union : List Part → Option Term
union (m ∷ []) = do
  es ← m.entries
  Some (Node (ops.Union (map alternative es)) (plain_row (types es)))
union _ = None

-- `[15, n]`
abbrev pub natural : Bool → List Part → Option Term
natural beyond (n ∷ []) = do
  m ← natural_of beyond n.item
  Some (Node (ops.Nat m) end)
natural beyond _ = None

-- `[16, n]`
abbrev pub integer : Bool → List Part → Option Term
integer beyond (n ∷ []) = do
  z ← integer_of beyond n.item
  Some (Node (ops.Int z) end)
integer beyond _ = None

-- `[18, piece, e, piece, ..]`
pub record Pieces : Type 0 where
  pub pieces : List (List ℕ)
  pub between : List Term

-- the pieces of a text in UTF-8, with an expression between each two
abbrev pub pieces_of : List Part → Option Pieces
pieces_of [] = None
pieces_of (p ∷ []) = do
  t ← spelled is_utf8 p.item
  Some (record { pieces = t ∷ []; between = [] })
pieces_of (p ∷ e ∷ ps) = do
  t ← spelled is_utf8 p.item
  f ← e.term
  r ← pieces_of ps
  Some (record { pieces = t ∷ r.pieces; between = f ∷ r.between })

-- a text with its interpolated expressions
abbrev pub text : List Part → Option Term
text ps = do
  r ← pieces_of ps
  Some (Node (ops.Text r.pieces) (plain_row r.between))

-- `[24, digest, mode, scheme, ..]`
abbrev pub import_term : List Part → Option Term
import_term ps = do
  i ← import_of (map (λ p. p.item) ps)
  Some (Node (ops.Import i) end)

-- `[25, "x", A or null, a, .., b]`
abbrev pub let_node : Name → Bool → Option Term → Term → Term → Option Term
let_node x true type a b = Some (Node (ops.Let false) (kid None a (kid (Some x) b end)))
let_node x false type a b = do
  t ← type
  Some (Node (ops.Let true) (kid None t (kid None a (kid (Some x) b end))))

-- one let with its label, its annotation, its value and its body
abbrev pub bound : Part → Part → Part → Option Term → Option Term
bound x type value body = do
  y ← label_of x.item
  a ← value.term
  b ← body
  let_node y (is_null type.item) type.term a b

-- nested lets in one array, the body last
abbrev pub lets : List Part → Option Term
lets (x ∷ t ∷ a ∷ b ∷ []) = bound x t a b.term
lets (x ∷ t ∷ a ∷ y ∷ u ∷ ps) = bound x t a (lets (y ∷ u ∷ ps))
lets _ = None

-- `[29, e, ["k", ..], v]`
abbrev pub update : List Part → Option Term
update (e ∷ path ∷ v ∷ []) = do
  ks ← path_of path.item
  node (ops.With ks) (e ∷ v ∷ [])
update _ = None

-- the expression that an array says whose first item is this number
abbrev pub row : Bool → ℕ → List Part → Option Term
row beyond n ps =
    if n == 0 then application ps
    else if n == 1 then quantifier ops.Lam ps
    else if n == 2 then quantifier ops.Pi ps
    else if n == 3 then operation ps
    else if n == 4 then list ps
    else if n == 5 then some ps
    else if n == 6 then with_annotation ops.Merge 2 ps
    else if n == 7 then fields ops.RecordType ps
    else if n == 8 then fields ops.Record ps
    else if n == 9 then field ps
    else if n == 10 then projection ps
    else if n == 11 then union ps
    else if n == 14 then node_of ops.If 3 ps
    else if n == 15 then natural beyond ps
    else if n == 16 then integer beyond ps
    else if n == 18 then text ps
    else if n == 19 then node_of ops.Assert 1 ps
    else if n == 24 then import_term ps
    else if n == 25 then lets ps
    else if n == 26 then node_of ops.Annot 2 ps
    else if n == 27 then with_annotation ops.ToMap 1 ps
    else if n == 28 then node_of ops.EmptyList 1 ps
    else if n == 29 then update ps
    else None

-- `["x", n]`
abbrev pub variable : Bool → Item → List Part → Option Term
variable beyond x (n ∷ []) = do
  y ← named_label x
  m ← index_of beyond n.item
  Some (Leaf (record { name = y; index = m }))
variable beyond x _ = None

-- ---- items

-- an array by its first item, which is this number if it is one
abbrev pub array_by : Bool → Option ℕ → Item → List Part → Option Term
array_by beyond (Some n) i ps = row beyond n ps
array_by beyond None i ps = variable beyond i ps

-- the expression that an array says, if it says one
abbrev pub array_term : Bool → List Part → Option Term
array_term beyond [] = None
array_term beyond (p ∷ ps) = array_by beyond (unsigned_of p.item) p.item ps

-- `n` for `_@n`, a built-in by its name, false and true
abbrev pub atom_term : Bool → Atom → Option Term
atom_term beyond (unsigned n) = do
  m ← index_of beyond (single (unsigned n))
  Some (Leaf (record { name = codes "_"; index = m }))
atom_term beyond (characters t) = builtin_term t
atom_term beyond (simple n) = if n == 20 then Some (Node (ops.Bool false) end) else if n == 21 then Some (Node (ops.Bool true) end) else None
atom_term beyond _ = None

-- the expression of an array that has only one item
abbrev pub only_term : List Part → Option Term
only_term (p ∷ []) = p.term
only_term _ = None

-- the value of an entry: nothing for null, else the expression that the item is
abbrev pub value_of : Item → Option Term → Option Value
value_of i e = if is_null i then Some nothing else (e >>= λ t. Some (holds t))

-- a key with its value among other entries
abbrev pub entered : Option Name → Option Value → Option (List Entry) → Option (List Entry)
entered key value others = do
  x ← key
  v ← value
  es ← others
  inserted (λ e. e.name) (record { name = x; value = v }) es

-- what an item is as a part of an array, and the entries of a map by their labels
abbrev mutual
  pub part : Bool → Item → Part
  part beyond (single a) = record { item = single a; term = atom_term beyond a; boxed = None; entries = None }
  part beyond (array_of is) =
      let ps = parts beyond is in
      record { item = array_of is; term = array_term beyond ps; boxed = only_term ps; entries = None }
  part beyond (map_of ps) = record { item = map_of ps; term = None; boxed = None; entries = entries_of beyond ps }
  part beyond (tagged t i) = record { item = tagged t i; term = None; boxed = None; entries = None }

  pub parts : Bool → Items → List Part
  parts beyond no_items = []
  parts beyond (more_items i is) = part beyond i ∷ parts beyond is

  pub entries_of : Bool → Pairs → Option (List Entry)
  entries_of beyond no_pairs = Some []
  entries_of beyond (more_pairs k v ps) = entered (label_of k) (value_of v (part beyond v).term) (entries_of beyond ps)

-- The expression that an item is, if it is one. Where `beyond` is set, numbers beyond their ranges are taken too.
abbrev pub expression : Bool → Item → Option Term
expression beyond (tagged t i) = if t == 55799 then expression beyond i else None
expression beyond i = (part beyond i).term

-- ---- bytes

-- these heads stand first, and these bytes come after them
abbrev pub Begins : List ℕ → List Mark → List ℕ → Type 0
Begins bytes ms after = begun (length ms) bytes ≡ Ok (record { marks = ms; after = after })

-- the bytes are this expression
abbrev pub Reads : List ℕ → Term → Type 0
Reads bytes e = (i : Item) × Begins bytes (item_marks i) [] × (expression false i ≡ Some e) × (nesting e ≤ most_nesting)
