-- The item that an expression is written as.
use Rattle.std.specs.Prelude.{◌≡◌, ℕ, ◌^◌, ◌<◌, nat_lt, ℤ, pos, negsuc, Bool, true, false, if◌then◌else◌, List, [], ◌∷◌, ◌++◌, length, map, Option, Some, None, codes}
use Rattle.dh_syntax.specs.declared.expressions.Alt.{Alt}
use Rattle.dh_syntax.specs.declared.expressions.Op.{Op}
use Rattle.dh_syntax.specs.declared.expressions.Op.TheVariants as ops
use Rattle.dh_syntax.specs.declared.locations.Digest.{Digest}
use Rattle.dh_syntax.specs.declared.locations.Import.{Import}
use Rattle.dh_syntax.specs.declared.locations.Loc.{Loc}
use Rattle.dh_syntax.specs.declared.locations.Loc.TheVariants as locs
use Rattle.dh_syntax.specs.declared.locations.Url.{Url}
use Rattle.dh_syntax.specs.Bytes.Binary.{mode_code, enc}
use Rattle.dh_syntax.specs.Bytes.BinaryHeads.{unsigned, negative, octets, characters, simple}
use Rattle.dh_syntax.specs.Bytes.BinaryItems.{Item, single, array_of, map_of, tagged, Items, no_items, more_items, Pairs, no_pairs, more_pairs}
use Rattle.dh_syntax.specs.Bytes.BinaryRead.{Reads, expression}
use Rattle.dh_syntax.specs.Bytes.Cbor.{fewest_bytes}
use Rattle.dh_syntax.specs.Expressions.Numbers.{bytes_eq}
use Rattle.dh_syntax.specs.Expressions.Operators.{op_code, builtin_name}
use Rattle.dh_syntax.specs.Expressions.Spellable.{IsSpellable}
use Rattle.dh_syntax.specs.Expressions.Values.{HasValues}
use Rattle.dh_syntax.specs.Expressions.Tree.{Row, Leaf, Node, end, kid, Name, Var, Term}
use Rattle.dh_binary.specs.ItemBytes.{item_bytes, sized}

-- ---- items

-- an expression as it is written: alone, as a function with its arguments, and as the bindings of a let
pub record Written : Type 0 where
  pub alone : Item
  pub applied : List Item
  pub bound : List Item

-- items in their order
abbrev pub listed : List Item → Items
listed [] = no_items
listed (i ∷ is) = more_items i (listed is)

-- an array that begins with this number
abbrev pub row_of : ℕ → List Item → Item
row_of n is = array_of (more_items (single (unsigned n)) (listed is))

-- what is written in the same way wherever it stands
abbrev pub just : Item → Written
just i = record { alone = i; applied = i ∷ []; bound = i ∷ [] }

-- a text as an item
abbrev pub label : Name → Item
label x = single (characters x)

-- null
abbrev pub no : Item
no = single (simple 22)

-- a natural number, as a bignum where it has more than 64 bits
abbrev pub natural : ℕ → Item
natural n = if nat_lt n (2 ^ 64) then single (unsigned n) else tagged 2 (single (octets (fewest_bytes n)))

-- the item of the Integer -1 - n, a bignum where 64 bits do not suffice
abbrev pub below_zero : ℕ → Item
below_zero n = if nat_lt n (2 ^ 64) then single (negative n) else tagged 3 (single (octets (fewest_bytes n)))

-- an application, which is joined with the arguments of its function
abbrev pub application : Written → Written → Written
application f a =
    let is = f.applied ++ a.alone ∷ [] in
    let i = row_of 0 is in
    record { alone = i; applied = is; bound = i ∷ [] }

-- a let, which is joined with the bindings of its body
abbrev pub binding : Item → Item → Item → Written → Written
binding x type value body =
    let is = x ∷ type ∷ value ∷ body.bound in
    let i = row_of 25 is in
    record { alone = i; applied = i ∷ []; bound = is }

-- a function or a function type of this code, without its label where that is `_`
abbrev pub function : ℕ → Item → Name → Item → Written
function code type x body = just (if bytes_eq x (codes "_") then row_of code (type ∷ body ∷ []) else row_of code (label x ∷ type ∷ body ∷ []))

-- whether an item is this text
abbrev pub is_text : List ℕ → Item → Bool
is_text t (single (characters x)) = bytes_eq x t
is_text t i = false

-- an empty list by its annotation, in the short form where that is `List T`
abbrev pub empty_list : Written → Item
empty_list t = elim t.applied [
  | (l ∷ x ∷ []) ↦ if is_text (codes "List") l then row_of 4 (x ∷ []) else row_of 28 (t.alone ∷ [])
  | _ ↦ row_of 28 (t.alone ∷ [])
]

-- the pieces of a text and its expressions by turns
abbrev pub interleaved : List (List ℕ) → List Item → List Item
interleaved [] es = []
interleaved (p ∷ ps) [] = label p ∷ interleaved ps []
interleaved (p ∷ ps) (e ∷ es) = label p ∷ e ∷ interleaved ps es

-- labels with their items, as pairs of a map
abbrev pub pairs : List Name → List Item → Pairs
pairs [] es = no_pairs
pairs (x ∷ xs) [] = no_pairs
pairs (x ∷ xs) (e ∷ es) = more_pairs (label x) e (pairs xs es)

-- alternatives with their types, or null where they have none, as pairs of a map
abbrev pub alternatives : List Alt → List Item → Pairs
alternatives [] ts = no_pairs
alternatives (a ∷ as') ts = elim a.typed [
  | false ↦ more_pairs (label a.label) no (alternatives as' ts)
  | true ↦ elim ts [ [] ↦ no_pairs | (t ∷ ts') ↦ more_pairs (label a.label) t (alternatives as' ts') ]
]

-- an integer as an item
abbrev pub integer : ℤ → Item
integer (pos n) = natural n
integer (negsuc n) = below_zero n

-- a digest behind the two bytes that name SHA-256, or null where there is none
abbrev pub digest_item : Option Digest → Item
digest_item None = no
digest_item (Some d) = single (octets (18 ∷ 32 ∷ d.0))

-- a text, or null where there is none
abbrev pub optional_text : Option (List ℕ) → Item
optional_text None = no
optional_text (Some t) = label t

-- the items of a URL behind the number of its scheme: no headers, host, path and query
abbrev pub url_items : ℕ → Url → List Item
url_items scheme u = single (unsigned scheme) ∷ no ∷ label u.host ∷ map label u.comps ++ optional_text u.query ∷ []

-- the items of a location
abbrev pub loc_items : Loc → List Item
loc_items (locs.Http u) = url_items 0 u
loc_items (locs.Https u) = url_items 1 u
loc_items (locs.Abs cs) = single (unsigned 2) ∷ map label cs
loc_items (locs.Here cs) = single (unsigned 3) ∷ map label cs
loc_items (locs.Parent cs) = single (unsigned 4) ∷ map label cs
loc_items (locs.Home cs) = single (unsigned 5) ∷ map label cs
loc_items (locs.Env x) = single (unsigned 6) ∷ label x ∷ []
loc_items locs.Missing = single (unsigned 7) ∷ []

-- the array of an import: its digest, mode and location
abbrev pub import_item : Import → Item
import_item i = row_of 24 (digest_item i.digest ∷ single (unsigned (mode_code i.mode)) ∷ loc_items i.loc)

-- a variable: its index alone where its name is `_`, else its name and index
abbrev pub variable_item : Var → Item
variable_item v = if bytes_eq v.name (codes "_") then single (unsigned v.index) else array_of (more_items (label v.name) (more_items (single (unsigned v.index)) no_items))

-- a truth value as an item
abbrev pub truth : Bool → Item
truth false = single (simple 20)
truth true = single (simple 21)

-- a part of a node as it is written, plain or under a binder
pub data Part : Type 0 where
  plain : Written → Part
  under : Name → Written → Part

-- a part, under its binder if it has one
abbrev pub part : Option Name → Written → Part
part None w = plain w
part (Some x) w = under x w

-- the item of a part that stands alone
abbrev pub part_item : Part → Item
part_item (plain w) = w.alone
part_item (under x w) = w.alone

-- the items of parts that stand alone
abbrev pub items : List Part → List Item
items ps = map part_item ps

-- a node as it is written
abbrev pub node : Op → List Part → Written
node (ops.Builtin b) ps = just (label (builtin_name b))
node (ops.Bool b) ps = just (truth b)
node (ops.Nat n) ps = just (row_of 15 (natural n ∷ []))
node (ops.Int z) ps = just (row_of 16 (integer z ∷ []))
node (ops.Text pieces) ps = just (row_of 18 (interleaved pieces (items ps)))
node (ops.Import i) ps = just (import_item i)
node ops.Lam (plain a ∷ under x b ∷ []) = function 1 a.alone x b.alone
node ops.Pi (plain a ∷ under x b ∷ []) = function 2 a.alone x b.alone
node (ops.Let false) (plain a ∷ under x b ∷ []) = binding (label x) no a.alone b
node (ops.Let true) (plain t ∷ plain a ∷ under x b ∷ []) = binding (label x) t.alone a.alone b
node ops.App (plain f ∷ plain a ∷ []) = application f a
node ops.If ps = just (row_of 14 (items ps))
node (ops.Bin o) ps = just (row_of 3 (single (unsigned (op_code o)) ∷ items ps))
node ops.EmptyList (plain t ∷ []) = just (empty_list t)
node ops.List ps = just (row_of 4 (no ∷ items ps))
node ops.Some ps = just (row_of 5 (no ∷ items ps))
node (ops.Merge annotated) ps = just (row_of 6 (items ps))
node (ops.RecordType xs) ps = just (row_of 7 (map_of (pairs xs (items ps)) ∷ []))
node (ops.Record xs) ps = just (row_of 8 (map_of (pairs xs (items ps)) ∷ []))
node (ops.Field x) ps = just (row_of 9 (items ps ++ label x ∷ []))
node (ops.Project xs) ps = just (row_of 10 (items ps ++ map label xs))
node ops.ProjectType (plain t ∷ plain r ∷ []) = just (row_of 10 (t.alone ∷ array_of (more_items r.alone no_items) ∷ []))
node (ops.Union alts) ps = just (row_of 11 (map_of (alternatives alts (items ps)) ∷ []))
node ops.Assert ps = just (row_of 19 (items ps))
node ops.Annot ps = just (row_of 26 (items ps))
node (ops.ToMap annotated) ps = just (row_of 27 (items ps))
node (ops.With path) (plain e ∷ plain v ∷ []) = just (row_of 29 (e.alone ∷ array_of (listed (map label path)) ∷ v.alone ∷ []))
node op ps = just no

abbrev mutual
  pub written : Term → Written
  written (Leaf v) = just (variable_item v)
  written (Node op r) = node op (all_written r)

  pub all_written : Row Var Name → List Part
  all_written end = []
  all_written (kid x e r) = part x (written e) ∷ all_written r

-- the item that an expression is written as
abbrev pub item : Term → Item
item e = (written e).alone

-- the three facts that the law is made of, and the law
abbrev pub WritesItem : Term → Type 0
WritesItem e = enc e ≡ item_bytes (item e)

-- each number, length and count of an expression's item fits its head
abbrev pub IsSized : Term → Type 0
IsSized e = sized (item e) ≡ true

-- the item of an expression reads back as the expression
abbrev pub ReadsBack : Term → Type 0
ReadsBack e = expression false (item e) ≡ Some e

-- What is encoded of an expression is read back as that expression.
abbrev pub ReadsWhatIsWritten : Type 0
ReadsWhatIsWritten = (e : Term) → IsSpellable e → HasValues e → length (enc e) < 2 ^ 64 → Reads (enc e) e
