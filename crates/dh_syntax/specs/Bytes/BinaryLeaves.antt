-- What the items of the binary form say that are no expressions by themselves (the standard's "Binary encoding"): labels,
-- numbers, and the places and digests of imports.
use Rattle.std.specs.Prelude.{ℕ, ◌^◌, ◌==◌, nat_lt, nat_le, ℤ, pos, negsuc, Bool, false, not, ◌&&◌, ◌||◌, if◌then◌else◌, List, [], ◌∷◌, length, Option, Some, None, codes}
use Rattle.dh_syntax.specs.declared.locations.Digest.{Digest}
use Rattle.dh_syntax.specs.declared.locations.Import.{Import}
use Rattle.dh_syntax.specs.declared.locations.Loc.{Loc}
use Rattle.dh_syntax.specs.declared.locations.Loc.TheVariants as locs
use Rattle.dh_syntax.specs.declared.locations.Mode.{Mode}
use Rattle.dh_syntax.specs.declared.locations.Mode.TheVariants as mode
use Rattle.dh_syntax.specs.declared.locations.Url.{Url}
use Rattle.dh_syntax.specs.Bytes.BinaryHeads.{unsigned, negative, octets, characters, simple, big_endian}
use Rattle.dh_syntax.specs.Bytes.BinaryItems.{Item, single, array_of, tagged, Items, no_items, more_items}
use Rattle.dh_syntax.specs.Expressions.Numbers.{bytes_eq}
use Rattle.dh_syntax.specs.Expressions.Order.{before}
use Rattle.dh_syntax.specs.Expressions.Spellable.{is_label, is_component, is_environment, is_segment, is_query, is_host}
use Rattle.dh_syntax.specs.Limits.{most_index}
use Rattle.dh_syntax.specs.Expressions.Tree.{Name}

-- what both steps give, where each gives something
infixl 10 ◌>>=◌
-- the second step on what the first one gives, or nothing where that gives nothing
abbrev pub ◌>>=◌ : {A B : Type 0} → Option A → (A → Option B) → Option B
Some x >>= f = f x
None >>= f = None

-- a value where it passes a test, else nothing
abbrev pub check : {A : Type 0} → (A → Bool) → A → Option A
check test x = if test x then Some x else None

-- ---- items that stand for no expression

-- whether an item is CBOR's null
abbrev pub is_null : Item → Bool
is_null (single (simple n)) = n == 22
is_null _ = false

-- the bytes of an item that is a text string
abbrev pub characters_of : Item → Option (List ℕ)
characters_of (single (characters t)) = Some t
characters_of _ = None

-- the bytes of an item that is a byte string
abbrev pub octets_of : Item → Option (List ℕ)
octets_of (single (octets bs)) = Some bs
octets_of _ = None

-- the number that an item is, where it is an unsigned one by itself
abbrev pub unsigned_of : Item → Option ℕ
unsigned_of (single (unsigned n)) = Some n
unsigned_of _ = None

-- a text that can be written as this test says
abbrev pub spelled : (List ℕ → Bool) → Item → Option (List ℕ)
spelled test i = do
  t ← characters_of i
  check test t

-- the label that an item is, if it is one
abbrev pub label_of : Item → Option Name
label_of i = spelled is_label i

-- a label other than `_`, which is not written
abbrev pub named_label : Item → Option Name
named_label i = spelled (λ x. is_label x && not (bytes_eq x (codes "_"))) i

-- the labels that the items of an array are, if each is one
abbrev pub labels_of : Items → Option (List Name)
labels_of no_items = Some []
labels_of (more_items i is) = do
  x ← label_of i
  xs ← labels_of is
  Some (x ∷ xs)

-- the path of an update: an array of one label or more
abbrev pub path_of : Item → Option (List Name)
path_of (array_of (more_items i is)) = labels_of (more_items i is)
path_of _ = None

-- an entry among others in the order of their labels, where its label is not there yet
abbrev pub inserted : {A : Type 0} → (A → Name) → A → List A → Option (List A)
inserted name x [] = Some (x ∷ [])
inserted name x (y ∷ ys) =
    if before (name x) (name y) then Some (x ∷ y ∷ ys)
    else if bytes_eq (name x) (name y) then None
    else (inserted name x ys >>= λ zs. Some (y ∷ zs))

-- ---- numbers

-- Where `beyond` is set, a number beyond its range is taken too.
abbrev pub within : Bool → Bool → ℕ → Option ℕ
within beyond fits n = if fits || beyond then Some n else None

-- the index of a variable
abbrev pub index_of : Bool → Item → Option ℕ
index_of beyond i = do
  n ← unsigned_of i
  within beyond (nat_le n most_index) n

-- a bignum below a bound has at most 16 bytes
abbrev pub bignum : Bool → ℕ → List ℕ → Option ℕ
bignum beyond bound bs =
    let n = big_endian bs in
    if nat_lt n bound then (if nat_le (length bs) 16 then Some n else None) else within beyond false n

-- the Natural that an item says, by itself or as a positive bignum
abbrev pub natural_of : Bool → Item → Option ℕ
natural_of beyond (single (unsigned n)) = Some n
natural_of beyond (tagged t i) = if t == 2 then (octets_of i >>= bignum beyond (2 ^ 128)) else None
natural_of beyond _ = None

-- the Integer of a bignum: tag 2 for a positive one, tag 3 for a negative one
abbrev pub tagged_integer : Bool → ℕ → List ℕ → Option ℤ
tagged_integer beyond t bs = do
  n ← bignum beyond (2 ^ 127) bs
  if t == 2 then Some (pos n) else if t == 3 then Some (negsuc n) else None

-- the Integer that an item says, by itself or as a bignum
abbrev pub integer_of : Bool → Item → Option ℤ
integer_of beyond (single (unsigned n)) = Some (pos n)
integer_of beyond (single (negative n)) = Some (negsuc n)
integer_of beyond (tagged t i) = octets_of i >>= tagged_integer beyond t
integer_of beyond _ = None

-- ---- imports

-- the digest in a multihash of SHA-256 with its 32 bytes
abbrev pub hash_of : List ℕ → Option (Option Digest)
hash_of (a ∷ b ∷ bs) = if a == 0x12 && b == 0x20 && length bs == 32 then Some (Some (record { 0 = bs })) else None
hash_of _ = None

-- the digest of an import, where null says that there is none
abbrev pub digest_of : Item → Option (Option Digest)
digest_of i = if is_null i then Some None else (octets_of i >>= hash_of)

-- the mode of an import by its number
abbrev pub mode_by : ℕ → Option Mode
mode_by n = if n == 0 then Some mode.Code else if n == 1 then Some mode.Text else if n == 2 then Some mode.Location else None

-- the mode of an import that an item says
abbrev pub mode_of : Item → Option Mode
mode_of i = unsigned_of i >>= mode_by

-- the components of a path, of which there is at least one
abbrev pub components_of : List Item → Option (List (List ℕ))
components_of [] = None
components_of (i ∷ []) = do
  c ← spelled is_component i
  Some (c ∷ [])
components_of (i ∷ j ∷ is) = do
  c ← spelled is_component i
  cs ← components_of (j ∷ is)
  Some (c ∷ cs)

-- the query of a URL, where null says that there is none
abbrev pub query_of : Item → Option (Option (List ℕ))
query_of i = if is_null i then Some None else (spelled is_query i >>= λ q. Some (Some q))

-- a URL by its host, its components, of which there is at least one, and its query
abbrev pub url_from : List ℕ → List Item → Option Url
url_from host [] = None
url_from host (c ∷ []) = None
url_from host (c ∷ q ∷ []) = do
  component ← spelled is_segment c
  query ← query_of q
  Some (record { host = host; comps = component ∷ []; query = query })
url_from host (c ∷ d ∷ e ∷ is) = do
  component ← spelled is_segment c
  url ← url_from host (d ∷ e ∷ is)
  Some (record url { comps = component ∷ url.comps })

-- what follows the scheme of a URL; the null stands for its headers
abbrev pub url_of : List Item → Option Url
url_of (headers ∷ host ∷ is) = if is_null headers then (spelled is_host host >>= λ h. url_from h is) else None
url_of _ = None

-- the environment variable of an import, which is all that follows its scheme
abbrev pub variable_of : List Item → Option (List ℕ)
variable_of (x ∷ []) = spelled is_environment x
variable_of _ = None

-- nothing follows
abbrev pub missing_of : List Item → Option Loc
missing_of [] = Some locs.Missing
missing_of _ = None

-- a location by its scheme
abbrev pub location_by : ℕ → List Item → Option Loc
location_by n is =
    if n == 0 then (url_of is >>= λ u. Some (locs.Http u))
    else if n == 1 then (url_of is >>= λ u. Some (locs.Https u))
    else if n == 2 then (components_of is >>= λ cs. Some (locs.Abs cs))
    else if n == 3 then (components_of is >>= λ cs. Some (locs.Here cs))
    else if n == 4 then (components_of is >>= λ cs. Some (locs.Parent cs))
    else if n == 5 then (components_of is >>= λ cs. Some (locs.Home cs))
    else if n == 6 then (variable_of is >>= λ x. Some (locs.Env x))
    else if n == 7 then missing_of is
    else None

-- the import that these items say: its digest, its mode, its scheme and what follows that
abbrev pub import_of : List Item → Option Import
import_of (d ∷ m ∷ s ∷ is) = do
  digest ← digest_of d
  how ← mode_of m
  scheme ← unsigned_of s
  loc ← location_by scheme is
  Some (record { loc = loc; mode = how; digest = digest })
import_of _ = None
