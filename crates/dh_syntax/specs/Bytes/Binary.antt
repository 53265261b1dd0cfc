-- The binary form of an expression (the standard's "Binary encoding"): CBOR in shortest heads, every application
-- with all of its arguments in one array, nested lets in one array, maps in the order of labels.
use Rattle.std.specs.Prelude.{ℕ, pos, negsuc, ℤ, true, false, if◌then◌else◌, List, [], ◌∷◌, ◌++◌, length, Option, Some, None, map, codes}
use Rattle.dh_syntax.specs.declared.expressions.Alt.{Alt}
use Rattle.dh_syntax.specs.declared.expressions.Op.{Op}
use Rattle.dh_syntax.specs.declared.expressions.Op.TheVariants as ops
use Rattle.dh_syntax.specs.declared.locations.Digest.{Digest}
use Rattle.dh_syntax.specs.declared.locations.Import.{Import}
use Rattle.dh_syntax.specs.declared.locations.Loc.{Loc}
use Rattle.dh_syntax.specs.declared.locations.Loc.TheVariants as locs
use Rattle.dh_syntax.specs.declared.locations.Mode.{Mode}
use Rattle.dh_syntax.specs.declared.locations.Mode.TheVariants as mode
use Rattle.dh_syntax.specs.declared.locations.Url.{Url}
use Rattle.dh_syntax.specs.Bytes.Cbor.{bytes, text, array, map_of, null, truth, natural, below_zero}
use Rattle.dh_syntax.specs.Expressions.Numbers.{bytes_eq}
use Rattle.dh_syntax.specs.Expressions.Operators.{op_code, builtin_name}
use Rattle.dh_syntax.specs.Expressions.Tree.{Row, Leaf, Node, end, kid, Name, Var, Term}

-- What an expression is written as: alone, at the head of an application, and as the body of a let. An application
-- goes on with the items of its head, and a let with those of its body.
pub record Encoding : Type 0 where
  pub alone : List ℕ
  pub applied : List (List ℕ)
  pub bound : List (List ℕ)

-- an expression that is neither an application nor a let
abbrev pub single : List ℕ → Encoding
single item = record { alone = item; applied = item ∷ []; bound = item ∷ [] }

-- the application of an expression to one more argument
abbrev pub application : Encoding → Encoding → Encoding
application f a =
    let items = f.applied ++ a.alone ∷ [] in
    let whole = array (natural 0 ∷ items) in
    record { alone = whole; applied = items; bound = whole ∷ [] }

-- a let with these three items before its body
abbrev pub binding : List ℕ → List ℕ → List ℕ → Encoding → Encoding
binding x type value body =
    let items = x ∷ type ∷ value ∷ body.bound in
    let whole = array (natural 25 ∷ items) in
    record { alone = whole; applied = whole ∷ []; bound = items }

-- a part of a node
pub data Part : Type 0 where
  plain : Encoding → Part
  under : Name → Encoding → Part

-- a part with its binder, if it has one
abbrev pub part : Option Name → Encoding → Part
part None f = plain f
part (Some x) f = under x f

-- a part as an item by itself, without its binder
abbrev pub part_item : Part → List ℕ
part_item (plain f) = f.alone
part_item (under x f) = f.alone

-- each of the parts as an item by itself
abbrev pub items : List Part → List (List ℕ)
items ps = map part_item ps

-- a function or a function type, whose binder `_` is left out
abbrev pub function : ℕ → List ℕ → Name → List ℕ → Encoding
function code type x body =
    single (if bytes_eq x (codes "_") then array (natural code ∷ type ∷ body ∷ []) else array (natural code ∷ text x ∷ type ∷ body ∷ []))

-- the empty list: a type that is `List` applied to one argument is written by that argument
abbrev pub empty_list : Encoding → List ℕ
empty_list t = elim t.applied [
  | (l ∷ x ∷ []) ↦ if bytes_eq l (text (codes "List")) then array (natural 4 ∷ x ∷ []) else array (natural 28 ∷ t.alone ∷ [])
  | _ ↦ array (natural 28 ∷ t.alone ∷ [])
]

-- the pieces of a text with the expressions between them
abbrev pub interleaved : List (List ℕ) → List (List ℕ) → List (List ℕ)
interleaved [] es = []
interleaved (p ∷ ps) [] = text p ∷ interleaved ps []
interleaved (p ∷ ps) (e ∷ es) = text p ∷ e ∷ interleaved ps es

-- each label with its expression
abbrev pub pairs : List Name → List (List ℕ) → List ℕ
pairs [] es = []
pairs (x ∷ xs) [] = []
pairs (x ∷ xs) (e ∷ es) = text x ++ e ++ pairs xs es

-- each alternative with its type, or with null
abbrev pub alternatives : List Alt → List (List ℕ) → List ℕ
alternatives [] ts = []
alternatives (a ∷ as') ts = text a.label ++ (elim a.typed [
  | false ↦ null ++ alternatives as' ts
  | true ↦ elim ts [ [] ↦ [] | (t ∷ ts') ↦ t ++ alternatives as' ts' ]
])

-- an Integer as a CBOR number
abbrev pub integer : ℤ → List ℕ
integer (pos n) = natural n
integer (negsuc n) = below_zero n

-- a digest, as a multihash of SHA-256
abbrev pub digest_item : Option Digest → List ℕ
digest_item None = null
digest_item (Some d) = bytes (18 ∷ 32 ∷ d.0)

-- the number of an import's mode in the binary form: Code, Text, Location
abbrev pub mode_code : Mode → ℕ
mode_code mode.Code = 0
mode_code mode.Text = 1
mode_code mode.Location = 2

-- a text that may be absent, or null
abbrev pub optional_text : Option (List ℕ) → List ℕ
optional_text None = null
optional_text (Some t) = text t

-- the scheme, and what it goes on with; the null of a URL stands for its headers
abbrev pub url_items : ℕ → Url → List (List ℕ)
url_items scheme u = natural scheme ∷ null ∷ text u.host ∷ map text u.comps ++ optional_text u.query ∷ []

-- the scheme of a location and what follows it, as the last items of an import's array
abbrev pub loc_items : Loc → List (List ℕ)
loc_items (locs.Http u) = url_items 0 u
loc_items (locs.Https u) = url_items 1 u
loc_items (locs.Abs cs) = natural 2 ∷ map text cs
loc_items (locs.Here cs) = natural 3 ∷ map text cs
loc_items (locs.Parent cs) = natural 4 ∷ map text cs
loc_items (locs.Home cs) = natural 5 ∷ map text cs
loc_items (locs.Env x) = natural 6 ∷ text x ∷ []
loc_items locs.Missing = natural 7 ∷ []

-- an import: its digest, its mode and its location
abbrev pub import_item : Import → List ℕ
import_item i = array (natural 24 ∷ digest_item i.digest ∷ natural (mode_code i.mode) ∷ loc_items i.loc)

-- a variable: its index alone where its name is `_`, else its name and index
abbrev pub variable_item : Var → List ℕ
variable_item v = if bytes_eq v.name (codes "_") then natural v.index else array (text v.name ∷ natural v.index ∷ [])

-- A node by its parts. A node that does not have its parts is written as null.
abbrev pub node : Op → List Part → Encoding
node (ops.Builtin b) ps = single (text (builtin_name b))
node (ops.Bool b) ps = single (truth b)
node (ops.Nat n) ps = single (array (natural 15 ∷ natural n ∷ []))
node (ops.Int z) ps = single (array (natural 16 ∷ integer z ∷ []))
node (ops.Text pieces) ps = single (array (natural 18 ∷ interleaved pieces (items ps)))
node (ops.Import i) ps = single (import_item i)
node ops.Lam (plain a ∷ under x b ∷ []) = function 1 a.alone x b.alone
node ops.Pi (plain a ∷ under x b ∷ []) = function 2 a.alone x b.alone
node (ops.Let false) (plain a ∷ under x b ∷ []) = binding (text x) null a.alone b
node (ops.Let true) (plain t ∷ plain a ∷ under x b ∷ []) = binding (text x) t.alone a.alone b
node ops.App (plain f ∷ plain a ∷ []) = application f a
node ops.If ps = single (array (natural 14 ∷ items ps))
node (ops.Bin o) ps = single (array (natural 3 ∷ natural (op_code o) ∷ items ps))
node ops.EmptyList (plain t ∷ []) = single (empty_list t)
node ops.List ps = single (array (natural 4 ∷ null ∷ items ps))
node ops.Some ps = single (array (natural 5 ∷ null ∷ items ps))
node (ops.Merge annotated) ps = single (array (natural 6 ∷ items ps))
node (ops.RecordType xs) ps = single (array (natural 7 ∷ map_of (length xs) (pairs xs (items ps)) ∷ []))
node (ops.Record xs) ps = single (array (natural 8 ∷ map_of (length xs) (pairs xs (items ps)) ∷ []))
node (ops.Field x) ps = single (array (natural 9 ∷ items ps ++ text x ∷ []))
node (ops.Project xs) ps = single (array (natural 10 ∷ items ps ++ map text xs))
node ops.ProjectType (plain t ∷ plain r ∷ []) = single (array (natural 10 ∷ t.alone ∷ array (r.alone ∷ []) ∷ []))
node (ops.Union alts) ps = single (array (natural 11 ∷ map_of (length alts) (alternatives alts (items ps)) ∷ []))
node ops.Assert ps = single (array (natural 19 ∷ items ps))
node ops.Annot ps = single (array (natural 26 ∷ items ps))
node (ops.ToMap annotated) ps = single (array (natural 27 ∷ items ps))
node (ops.With path) (plain e ∷ plain v ∷ []) = single (array (natural 29 ∷ e.alone ∷ array (map text path) ∷ v.alone ∷ []))
node op ps = single null

-- how an expression is written in the binary form, and the parts of a node
abbrev mutual
  pub form : Term → Encoding
  form (Leaf v) = single (variable_item v)
  form (Node op r) = node op (forms r)

  pub forms : Row Var Name → List Part
  forms end = []
  forms (kid x e r) = part x (form e) ∷ forms r

-- the bytes of an expression
abbrev pub enc : Term → List ℕ
enc e = (form e).alone
