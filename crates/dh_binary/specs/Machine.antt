-- A machine that reads heads one at a time, with a stack of its own.
use Rattle.std.specs.Prelude.{ℕ, zero, suc, ◌*◌, ◌==◌, ◌^◌, nat_le, ℤ, pos, negsuc, Bool, true, false, ◌&&◌, ◌||◌, not, if◌then◌else◌, List, [], ◌∷◌, ◌++◌, map, Option, Some, None, codes}
use Rattle.std.specs.Str.{is_utf8}
use Rattle.dh_syntax.specs.declared.expressions.Op.TheVariants as ops
use Rattle.dh_syntax.specs.declared.expressions.Op.{Op}
use Rattle.dh_syntax.specs.declared.locations.Digest.{Digest}
use Rattle.dh_syntax.specs.declared.locations.Loc.{Loc}
use Rattle.dh_syntax.specs.declared.locations.Loc.TheVariants as locs
use Rattle.dh_syntax.specs.declared.locations.Mode.{Mode}
use Rattle.dh_syntax.specs.declared.locations.Url.{Url}
use Rattle.dh_syntax.specs.declared.operators.BinOp.{BinOp}
use Rattle.dh_syntax.specs.declared.operators.Builtin.TheVariants as builtin
use Rattle.dh_syntax.specs.Bytes.BinaryHeads.{Atom, unsigned, negative, octets, characters, simple, Mark, atom, array, tag}
use Rattle.dh_syntax.specs.Bytes.BinaryHeads as head
use Rattle.dh_syntax.specs.Bytes.BinaryLeaves.{◌>>=◌, check, inserted, within, bignum, tagged_integer, hash_of, mode_by}
use Rattle.dh_syntax.specs.Bytes.BinaryRead.{operator}
use Rattle.dh_syntax.specs.Expressions.Builtins.{builtin_of}
use Rattle.dh_syntax.specs.Expressions.Numbers.{eq, le, bytes_eq}
use Rattle.dh_syntax.specs.Expressions.Spellable.{is_label, is_component, is_environment, is_segment, is_query, is_host}
use Rattle.dh_syntax.specs.Limits.{most_index}
use Rattle.dh_syntax.specs.Expressions.Tree.{Name, Var}

-- ---- what the machine makes

-- how expressions are made of their parts
pub record Making (T : Type 0) : Type 0 where
  pub leaf : Var → T
  pub node : Op → List T → T
  -- a node whose last part stands under a binder
  pub under : Op → List T → Name → T → T

-- a label with what stands behind it, if anything does
pub record Entry (T : Type 0) : Type 0 where
  pub name : Name
  pub value : Option T

-- what an item is, once it is read
pub data Value (T : Type 0) : Type 0 where
  nothing : Value T
  holds : T → Value T
  called : List ℕ → Value T
  counted : ℕ → Value T
  -- the index of a variable
  indexed : ℕ → Value T
  signed : ℤ → Value T
  -- the first number of an array, and how many items come after it
  coded : ℕ → ℕ → Value T
  by : BinOp → Value T
  hashed : Option Digest → Value T
  taken : Mode → Value T
  queried : Option (List ℕ) → Value T
  names : List Name → Value T
  entries : List (Entry T) → Value T

-- ---- what an item is wanted as

-- what is wanted next
pub data Want : Type 0 where
  -- an expression; an expression with any marks of CBOR before it; null or an expression
  term : Want
  whole : Want
  nullable : Want
  -- the first item of an array, with so many behind it
  opening : ℕ → Want
  -- a text that passes this test
  spelled : (List ℕ → Bool) → Want
  null : Want
  index : Want
  operator_code : Want
  digest : Want
  mode : Want
  -- the scheme of an import, with so many items behind it
  scheme : ℕ → Want
  query : Want
  natural : Want
  integer : Want
  -- the string of a bignum with this tag
  big_natural : Want
  big_integer : ℕ → Want
  -- an array of labels, one or more
  path : Want
  -- a label, or an array of one expression
  boxed : Want
  -- a map; whether null may stand for a value
  rows : Bool → Want
  -- nothing
  none : Want

-- ---- what stands open: an array or a map, with what was made of its items

-- what a map has behind its labels: types, values, or alternatives with or without a type
pub data RowKind : Type 0 where
  types : RowKind
  values : RowKind
  alternatives : RowKind

-- one binding of a let: its label, its annotation if there is one, and its value
pub record Binding (T : Type 0) : Type 0 where
  pub name : Name
  pub type : Option T
  pub value : T

-- the digest of an import, if it has one, and its mode
pub record Start : Type 0 where
  pub digest : Option Digest
  pub mode : Mode

-- where in an array the reader is, with what was read of it
pub data Place (T : Type 0) : Type 0 where
  -- [ ]
  first : Place T
  -- all is read
  finished : T → Place T
  -- [0 ], [0, f, as ]
  applying : Option T → Place T
  -- expressions only
  operands : Op → List T → Place T
  -- [1 ], [1, x ], [1, x, A ] and the same with 2
  binder : Op → Place T
  quantify : Op → Name → Option T → Place T
  -- [3 ]
  operating : Place T
  -- [4 ] before one item
  emptied : Place T
  -- [4 ], [5 ] before null
  skipping : Op → Place T
  -- [7 ], [8 ], [11 ]
  rowing : RowKind → Place T
  -- [9 ], [9, t ]
  selecting : Place T
  selected : T → Place T
  -- [10 ], [10, t ], [10, t, x, xs ]
  projecting : Place T
  projected : T → Place T
  labelled : T → List Name → Place T
  -- [15 ], [16 ]
  numeral : Place T
  signed_numeral : Place T
  -- [18, .. ] before a piece, and behind one
  piece : List (List ℕ) → List T → Place T
  between : List (List ℕ) → List T → Place T
  -- [24 ], [24, digest ], [24, digest, mode ], and behind the scheme
  importing : Place T
  moding : Option Digest → Place T
  locating : Start → Place T
  components : Start → ℕ → List (List ℕ) → Place T
  headers : Start → Bool → Place T
  hosting : Start → Bool → Place T
  segments : Start → Bool → List ℕ → List (List ℕ) → Place T
  environment : Start → Place T
  -- [25, .. ]
  let_name : List (Binding T) → Place T
  let_type : List (Binding T) → Name → Place T
  let_value : List (Binding T) → Name → Option T → Place T
  -- [29 ], [29, e ], [29, e, ks ]
  updating : Place T
  update_path : T → Place T
  update_value : T → List Name → Place T
  -- [x ]
  indexing : Name → Place T
  -- the labels of a path
  labels : List Name → Place T
  -- an array of one expression
  boxing : Place T
  -- a map before a key, and before a value
  key : Bool → List (Entry T) → Place T
  value : Bool → List (Entry T) → Name → Place T

-- ---- the rows

-- whether a number is odd
abbrev pub is_odd : ℕ → Bool
is_odd zero = false
is_odd (suc zero) = true
is_odd (suc (suc n)) = is_odd n

-- three items for each binding, of which there is one at least, and a body
abbrev pub lets_fit : ℕ → Bool
lets_fit (suc (suc (suc (suc zero)))) = true
lets_fit (suc (suc (suc n))) = lets_fit n
lets_fit _ = false

-- a value, if the condition holds
abbrev pub when : {A : Type 0} → Bool → A → Option A
when c x = if c then Some x else None

-- an array by its first item and by how many come after it
abbrev pub row_at : {T : Type 0} → ℕ → ℕ → Option (Place T)
row_at n m =
    if n == 0 then when (le 2 m) (applying None)
    else if n == 1 then (if eq m 2 then Some (quantify ops.Lam (codes "_") None) else when (eq m 3) (binder ops.Lam))
    else if n == 2 then (if eq m 2 then Some (quantify ops.Pi (codes "_") None) else when (eq m 3) (binder ops.Pi))
    else if n == 3 then when (eq m 3) operating
    else if n == 4 then (if eq m 1 then Some emptied else when (le 2 m) (skipping ops.List))
    else if n == 5 then when (eq m 2) (skipping ops.Some)
    else if n == 6 then (if m == 2 then Some (operands (ops.Merge false) []) else when (m == 3) (operands (ops.Merge true) []))
    else if n == 7 then when (eq m 1) (rowing types)
    else if n == 8 then when (eq m 1) (rowing values)
    else if n == 9 then when (eq m 2) selecting
    else if n == 10 then when (le 1 m) projecting
    else if n == 11 then when (eq m 1) (rowing alternatives)
    else if n == 14 then when (m == 3) (operands ops.If [])
    else if n == 15 then when (eq m 1) numeral
    else if n == 16 then when (eq m 1) signed_numeral
    else if n == 18 then when (is_odd m) (piece [] [])
    else if n == 19 then when (m == 1) (operands ops.Assert [])
    else if n == 24 then when (le 3 m) importing
    else if n == 25 then when (lets_fit m) (let_name [])
    else if n == 26 then when (m == 2) (operands ops.Annot [])
    else if n == 27 then (if m == 1 then Some (operands (ops.ToMap false) []) else when (m == 2) (operands (ops.ToMap true) []))
    else if n == 28 then when (m == 1) (operands ops.EmptyList [])
    else if n == 29 then when (eq m 3) updating
    else None

-- whether a location of this scheme has so many items behind it
abbrev pub scheme_fits : ℕ → ℕ → Bool
scheme_fits n m =
    if n == 0 then le 4 m
    else if n == 1 then le 4 m
    else if n == 2 then le 1 m
    else if n == 3 then le 1 m
    else if n == 4 then le 1 m
    else if n == 5 then le 1 m
    else if n == 6 then eq m 1
    else if n == 7 then eq m 0
    else false

-- whether there is a value
abbrev pub is_some : {A : Type 0} → Option A → Bool
is_some (Some x) = true
is_some None = false

-- this place, or that at the first item of an array
abbrev pub or_first : {T : Type 0} → Option (Place T) → Place T
or_first (Some p) = p
or_first None = first

-- ---- what is wanted in a place, where so many items are left

-- whether a label is among these
abbrev pub among : List ℕ → List Name → Bool
among x [] = false
among x (y ∷ ys) = bytes_eq x y || among x ys

-- whether a text is a label that is none of these
abbrev pub fresh : List Name → List ℕ → Bool
fresh xs x = is_label x && is_some (inserted (λ y. y) x xs)

-- whether a text is a label that none of these entries has
abbrev pub fresh_key : {T : Type 0} → List (Entry T) → List ℕ → Bool
fresh_key es x = is_label x && is_some (inserted (λ e. e.name) (record { name = x; value = None }) es)

-- whether a text is a label other than `_`, as a variable with a name has
abbrev pub is_named : List ℕ → Bool
is_named x = is_label x && not (bytes_eq x (codes "_"))

-- the items that are left behind the next one
abbrev pub want : {T : Type 0} → Place T → ℕ → Want
want first n = opening n
want (finished t) n = none
want (applying f) n = term
want (operands op es) n = term
want (binder op) n = spelled is_named
want (quantify op x a) n = term
want operating n = operator_code
want emptied n = term
want (skipping op) n = null
want (rowing types) n = rows false
want (rowing values) n = rows false
want (rowing alternatives) n = rows true
want selecting n = term
want (selected t) n = spelled is_label
want projecting n = term
want (projected t) zero = boxed
want (projected t) (suc n) = spelled is_label
want (labelled t xs) n = spelled (fresh xs)
want numeral n = natural
want signed_numeral n = integer
want (piece ps es) n = spelled is_utf8
want (between ps es) n = term
want importing n = digest
want (moding d) n = mode
want (locating h) n = scheme n
want (components h k cs) n = spelled is_component
want (headers h s) n = null
want (hosting h s) n = spelled is_host
want (segments h s host cs) zero = query
want (segments h s host cs) (suc n) = spelled is_segment
want (environment h) n = spelled is_environment
want (let_name bs) zero = term
want (let_name bs) (suc n) = spelled is_label
want (let_type bs x) n = nullable
want (let_value bs x t) n = term
want updating n = term
want (update_path e) n = path
want (update_value e ks) n = term
want (indexing x) n = index
want (labels ks) n = spelled is_label
want boxing n = term
want (key nulls es) n = spelled (fresh_key es)
want (value nulls es x) n = if nulls then nullable else term

-- ---- what a place becomes by an item

module _ {T : Type 0} (m : Making T) where
  abbrev pub app : T → T → T
  app f a = m.node ops.App (f ∷ a ∷ [])

  abbrev pub empty_list : T → T
  empty_list t = m.node ops.EmptyList (m.node ops.App (m.node (ops.Builtin builtin.List) [] ∷ t ∷ []) ∷ [])

  abbrev pub import_at : Start → Loc → T
  import_at h l = m.node (ops.Import (record { loc = l; mode = h.mode; digest = h.digest })) []

  abbrev pub path_location : ℕ → List (List ℕ) → Loc
  path_location n cs = if n == 2 then locs.Abs cs else if n == 3 then locs.Here cs else if n == 4 then locs.Parent cs else locs.Home cs

  abbrev pub url_location : Bool → Url → Loc
  url_location secure u = if secure then locs.Https u else locs.Http u

  -- a place by its scheme
  abbrev pub located : Start → ℕ → Place T
  located h n =
      if n == 0 then headers h false
      else if n == 1 then headers h true
      else if n == 2 then components h 2 []
      else if n == 3 then components h 3 []
      else if n == 4 then components h 4 []
      else if n == 5 then components h 5 []
      else if n == 6 then environment h
      else finished (import_at h locs.Missing)

  abbrev pub present : {A : Type 0} → Option A → List A → List A
  present (Some x) xs = x ∷ xs
  present None xs = xs

  abbrev pub held_values : List (Entry T) → List T
  held_values [] = []
  held_values (e ∷ es) = present e.value (held_values es)

  abbrev pub row_made : RowKind → List (Entry T) → T
  row_made types es = m.node (ops.RecordType (map (λ e. e.name) es)) (held_values es)
  row_made values es = m.node (ops.Record (map (λ e. e.name) es)) (held_values es)
  row_made alternatives es = m.node (ops.Union (map (λ e. record { label = e.name; typed = is_some e.value }) es)) (held_values es)

  abbrev pub let_made : Binding T → T → T
  let_made b e = elim b.type [ None ↦ m.under (ops.Let false) (b.value ∷ []) b.name e | (Some t) ↦ m.under (ops.Let true) (t ∷ b.value ∷ []) b.name e ]

  abbrev pub lets_made : List (Binding T) → T → T
  lets_made [] e = e
  lets_made (b ∷ bs) e = let_made b (lets_made bs e)

  abbrev pub or_same : {A : Type 0} → Option (List A) → List A → List A
  or_same (Some ys) xs = ys
  or_same None xs = xs

  abbrev pub fill : Place T → Value T → Place T
  fill first (coded n k) = or_first (row_at n k)
  fill first (called x) = indexing x
  fill (applying None) (holds f) = applying (Some f)
  fill (applying (Some f)) (holds a) = applying (Some (app f a))
  fill (operands op es) (holds e) = operands op (es ++ e ∷ [])
  fill (binder op) (called x) = quantify op x None
  fill (quantify op x None) (holds a) = quantify op x (Some a)
  fill (quantify op x (Some a)) (holds b) = finished (m.under op (a ∷ []) x b)
  fill operating (by o) = operands (ops.Bin o) []
  fill emptied (holds t) = finished (empty_list t)
  fill (skipping op) nothing = operands op []
  fill (rowing k) (entries es) = finished (row_made k es)
  fill selecting (holds t) = selected t
  fill (selected t) (called x) = finished (m.node (ops.Field x) (t ∷ []))
  fill projecting (holds t) = projected t
  fill (labelled t xs) (called x) = labelled t (or_same (inserted (λ y. y) x xs) xs)
  fill (projected t) (called x) = labelled t (x ∷ [])
  fill (projected t) (holds u) = finished (m.node ops.ProjectType (t ∷ u ∷ []))
  fill numeral (counted n) = finished (m.node (ops.Nat n) [])
  fill signed_numeral (signed z) = finished (m.node (ops.Int z) [])
  fill (piece ps es) (called p) = between (ps ++ p ∷ []) es
  fill (between ps es) (holds e) = piece ps (es ++ e ∷ [])
  fill importing (hashed d) = moding d
  fill (moding d) (taken how) = locating (record { digest = d; mode = how })
  fill (locating h) (counted n) = located h n
  fill (components h k cs) (called c) = components h k (cs ++ c ∷ [])
  fill (headers h s) nothing = hosting h s
  fill (hosting h s) (called host) = segments h s host []
  fill (segments h s host cs) (called c) = segments h s host (cs ++ c ∷ [])
  fill (segments h s host cs) (queried q) = finished (import_at h (url_location s (record { host = host; comps = cs; query = q })))
  fill (environment h) (called x) = finished (import_at h (locs.Env x))
  fill (let_name bs) (holds e) = finished (lets_made bs e)
  fill (let_name bs) (called x) = let_type bs x
  fill (let_type bs x) nothing = let_value bs x None
  fill (let_type bs x) (holds t) = let_value bs x (Some t)
  fill (let_value bs x t) (holds a) = let_name (bs ++ record { name = x; type = t; value = a } ∷ [])
  fill updating (holds e) = update_path e
  fill (update_path e) (names ks) = update_value e ks
  fill (update_value e ks) (holds v) = finished (m.node (ops.With ks) (e ∷ v ∷ []))
  fill (indexing x) (indexed n) = finished (m.leaf (record { name = x; index = n }))
  fill (labels ks) (called k) = labels (ks ++ k ∷ [])
  fill boxing (holds t) = finished t
  fill (key nulls es) (called x) = value nulls es x
  fill (value nulls es x) nothing = key nulls (or_same (inserted (λ e. e.name) (record { name = x; value = None }) es) es)
  fill (value nulls es x) (holds t) = key nulls (or_same (inserted (λ e. e.name) (record { name = x; value = Some t }) es) es)
  fill p v = p

  -- what a place without further items is
  abbrev pub result : Place T → Option (Value T)
  result (finished t) = Some (holds t)
  result (applying (Some f)) = Some (holds f)
  result (operands op es) = Some (holds (m.node op es))
  result (projected t) = Some (holds (m.node (ops.Project []) (t ∷ [])))
  result (labelled t xs) = Some (holds (m.node (ops.Project xs) (t ∷ [])))
  result (between ps es) = Some (holds (m.node (ops.Text ps) es))
  result (components h k cs) = Some (holds (import_at h (path_location k cs)))
  result (labels ks) = Some (names ks)
  result (key nulls es) = Some (entries es)
  result p = None

  -- ---- heads

  abbrev pub called_by : (List ℕ → Bool) → Atom → Option (Value T)
  called_by test (characters t) = check test t >>= λ x. Some (called x)
  called_by test _ = None

  -- an atom that is wanted as an expression
  abbrev pub term_atom : Bool → Atom → Option (Value T)
  term_atom beyond (unsigned n) = within beyond (nat_le n most_index) n >>= λ k. Some (holds (m.leaf (record { name = codes "_"; index = k })))
  term_atom beyond (characters t) = builtin_of t >>= λ b. Some (holds (m.node (ops.Builtin b) []))
  term_atom beyond (simple n) = if n == 20 then Some (holds (m.node (ops.Bool false) [])) else if n == 21 then Some (holds (m.node (ops.Bool true) [])) else None
  term_atom beyond _ = None

  abbrev pub or_null : Value T → Atom → Option (Value T) → Option (Value T)
  or_null v (simple n) o = if n == 22 then Some v else o
  or_null v a o = o

  abbrev pub opening_atom : ℕ → Atom → Option (Value T)
  opening_atom k (unsigned n) = when (is_some (row_at {T = T} n k)) (coded n k)
  opening_atom k (characters t) = if eq k 1 then called_by is_named (characters t) else None
  opening_atom k _ = None

  abbrev pub counted_by : (ℕ → Option (Value T)) → Atom → Option (Value T)
  counted_by f (unsigned n) = f n
  counted_by f _ = None

  abbrev pub octets_by : (List ℕ → Option (Value T)) → Atom → Option (Value T)
  octets_by f (octets bs) = f bs
  octets_by f _ = None

  abbrev pub integer_atom : Atom → Option (Value T)
  integer_atom (unsigned n) = Some (signed (pos n))
  integer_atom (negative n) = Some (signed (negsuc n))
  integer_atom _ = None

  -- an atom that is a whole item, where this is wanted
  abbrev pub atom_as : Bool → Want → Atom → Option (Value T)
  atom_as beyond term a = term_atom beyond a
  atom_as beyond whole a = term_atom beyond a
  atom_as beyond nullable a = or_null nothing a (term_atom beyond a)
  atom_as beyond (opening k) a = opening_atom k a
  atom_as beyond (spelled test) a = called_by test a
  atom_as beyond null a = or_null nothing a None
  atom_as beyond index a = counted_by (λ n. within beyond (nat_le n most_index) n >>= λ k. Some (indexed k)) a
  atom_as beyond operator_code a = counted_by (λ n. operator n >>= λ o. Some (by o)) a
  atom_as beyond digest a = or_null (hashed None) a (octets_by (λ bs. hash_of bs >>= λ d. Some (hashed d)) a)
  atom_as beyond mode a = counted_by (λ n. mode_by n >>= λ how. Some (taken how)) a
  atom_as beyond (scheme k) a = counted_by (λ n. when (scheme_fits n k) (counted n)) a
  atom_as beyond query a = or_null (queried None) a (elim a [ (characters t) ↦ (check is_query t >>= λ q. Some (queried (Some q))) | _ ↦ None ])
  atom_as beyond natural a = counted_by (λ n. Some (counted n)) a
  atom_as beyond integer a = integer_atom a
  atom_as beyond big_natural a = octets_by (λ bs. bignum beyond (2 ^ 128) bs >>= λ n. Some (counted n)) a
  atom_as beyond (big_integer t) a = octets_by (λ bs. tagged_integer beyond t bs >>= λ z. Some (signed z)) a
  atom_as beyond boxed a = called_by is_label a
  atom_as beyond path a = None
  atom_as beyond (rows nulls) a = None
  atom_as beyond none a = None

  -- an array of so many items that opens, where this is wanted
  abbrev pub array_as : Want → ℕ → Option (Place T)
  array_as term n = when (le 2 n) first
  array_as whole n = when (le 2 n) first
  array_as nullable n = when (le 2 n) first
  array_as path n = when (le 1 n) (labels [])
  array_as boxed n = when (eq n 1) boxing
  array_as _ n = None

  abbrev pub map_as : Want → Option (Place T)
  map_as (rows nulls) = Some (key nulls [])
  map_as _ = None

  -- what is wanted behind a tag
  abbrev pub tag_as : Want → ℕ → Option Want
  tag_as whole t = when (t == 55799) whole
  tag_as natural t = when (t == 2) big_natural
  tag_as integer t = when (t == 2 || t == 3) (big_integer t)
  tag_as _ t = None

-- ---- the machine

-- an array or a map, and how many items come behind the one that is read
pub record Frame (T : Type 0) : Type 0 where
  pub place : Place T
  pub left : ℕ

-- a state of the reader: it reads what is wanted within open items, is done, or has stopped
pub data State (T : Type 0) : Type 0 where
  reading : Want → List (Frame T) → State T
  done : Value T → State T
  stopped : State T

module _ {T : Type 0} (m : Making T) where
  -- the value of a place without further items goes on so
  abbrev pub ended : (Value T → State T) → Option (Value T) → State T
  ended go (Some v) = go v
  ended go None = stopped

  abbrev pub settle_by : (Value T → State T) → Place T → ℕ → List (Frame T) → State T
  settle_by go p zero st = ended go (result m p)
  settle_by go p (suc n) st = reading (want p n) (record { place = p; left = n } ∷ st)

  -- an item is read
  abbrev pub deliver : Value T → List (Frame T) → State T
  deliver v [] = done v
  deliver v (f ∷ st) = settle_by (λ u. deliver u st) (fill m f.place v) f.left st

  -- so many items are left
  abbrev pub settle : Place T → ℕ → List (Frame T) → State T
  settle p n st = settle_by (λ u. deliver u st) p n st

  abbrev pub take_atom : Option (Value T) → List (Frame T) → State T
  take_atom (Some v) st = deliver v st
  take_atom None st = stopped

  abbrev pub open_place : Option (Place T) → ℕ → List (Frame T) → State T
  open_place (Some p) n st = settle p n st
  open_place None n st = stopped

  abbrev pub go_on : Option Want → List (Frame T) → State T
  go_on (Some w) st = reading w st
  go_on None st = stopped

  abbrev pub after_head : Bool → Want → List (Frame T) → Mark → State T
  after_head beyond w st (atom a) = take_atom (atom_as m beyond w a) st
  after_head beyond w st (array n) = open_place (array_as m w n) n st
  after_head beyond w st (head.map n) = open_place (map_as m w) (2 * n) st
  after_head beyond w st (tag t) = go_on (tag_as m w t) st

  abbrev pub after : Bool → Mark → State T → State T
  after beyond k (reading w st) = after_head beyond w st k
  after beyond k s = stopped

  abbrev pub run : Bool → State T → List Mark → State T
  run beyond s [] = s
  run beyond s (k ∷ ks) = run beyond (after beyond k s) ks

-- the state before any head is read: a whole expression is wanted
abbrev pub start : {T : Type 0} → State T
start = reading whole []
