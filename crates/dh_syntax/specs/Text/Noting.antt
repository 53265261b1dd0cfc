-- What is noted of the nodes of an expression: where they stand, or only where the imports do. It is found by the numbers of the
-- tokens of the text.
use Rattle.std.specs.Prelude.{ℕ, zero, suc, ◌+◌, Bool, true, false, List, [], ◌∷◌, ◌++◌, Option, Some, None}
use Rattle.dh_syntax.specs.declared.locations.Digest.{Digest}
use Rattle.dh_syntax.specs.declared.locations.Mode.{Mode}
use Rattle.dh_syntax.specs.declared.locations.Mode.TheVariants as modes
use Rattle.dh_syntax.specs.declared.tokens.Token.{Token}
use Rattle.dh_syntax.specs.Text.Derivation.{key_label, Key, Keys, one_key, more_keys, Derivation, lambda, pi, arrow, choice, lets, updates, merge_as, to_map_as, empty_list, assertion, annotation, operation, application, merging, some_of, to_map, import, field, project_none, project, project_by, natural, integer, truth, builtin, variable, text, brackets, list, union_none, union, record_type_none, record_type, record_none, record_of, Note, untyped, typed, Lets, one_let, more_lets, Updates, one_update, more_updates, Chunks, start, more_chunks, Items, one_item, more_items, Alternatives, one_alternative, more_alternatives, Fields, one_field, more_fields, Entry, alone, given, Entries, one_entry, more_entries}
use Rattle.dh_syntax.specs.Text.Meaning.{put, insert, values}
use Rattle.dh_syntax.specs.Expressions.Tree.{Name}

-- a way to note something of the nodes of an expression
pub record Noting : Type 1 where
  -- what is noted of some nodes in a row
  pub row : Type 0
  -- of none, and of some and then others
  pub none : row
  pub joined : row → row → row
  -- of a node, by its first token, the one behind it, and what is noted of its parts; of an import, whose location is its first token
  pub node : ℕ → ℕ → row → row
  pub import_node : ℕ → ℕ → row
  -- of the parts of a node
  pub parts : row → row

-- what is made of the tokens from the one of this number on, and the number of the token behind them
abbrev pub Over : Type 0 → Type 0
Over X = ℕ → X × ℕ

-- the number of the token that stands so many behind the one of this number
abbrev pub skip : ℕ → ℕ → ℕ
skip zero i = i
skip (suc n) i = suc (skip n i)

-- what stands behind so many tokens, and what so many stand behind
abbrev pub past : {X : Type 0} → ℕ → Over X → Over X
past n m i = m (skip n i)

-- the same, with so many more tokens behind
abbrev pub ending : {X : Type 0} → ℕ → Over X → Over X
ending n m i = let p = m i in (p.0, skip n p.1)

-- ---- numbers of tokens

-- the tokens of a piece that is one token where it is there
abbrev pub if_there : Bool → ℕ
if_there true = 1
if_there false = 0

-- the tokens of these keys with their separators
abbrev pub keys_len : Keys → ℕ
keys_len (one_key k) = 1
keys_len (more_keys ks k) = suc (suc (keys_len ks))

-- the tokens of an import's digest
abbrev pub digest_len : Option Digest → ℕ
digest_len None = 0
digest_len (Some d) = 1

-- the tokens of an import's mode
abbrev pub mode_len : Mode → ℕ
mode_len modes.Code = 0
mode_len modes.Text = 2
mode_len modes.Location = 2

-- the tokens of a variable's index with its `@`
abbrev pub index_len : Option ℕ → ℕ
index_len None = 0
index_len (Some i) = 2

-- the tokens of a piece of text, none where it is absent
abbrev pub piece_len : Option (List ℕ) → ℕ
piece_len None = 0
piece_len (Some p) = 1

-- where the token of this number begins
abbrev pub begins_at : List Token → ℕ → ℕ
begins_at [] i = 0
begins_at (t ∷ ts) zero = t.from
begins_at (t ∷ ts) (suc i) = begins_at ts i

-- where the token before the one of this number ends
abbrev pub ends_before : List Token → ℕ → ℕ
ends_before [] i = 0
ends_before (t ∷ ts) zero = 0
ends_before (t ∷ ts) (suc zero) = t.to
ends_before (t ∷ ts) (suc (suc i)) = ends_before ts (suc i)

-- ---- parts that are put in another order

-- what belongs to each of some labels
abbrev pub Labelled : Type 0 → Type 0
Labelled X = List (Name × X)

-- the label of an entry `a.b.c = v`
abbrev pub first_label : Keys → Name
first_label (one_key k) = key_label k
first_label (more_keys ks k) = first_label ks

-- the numbers of the keys of `a.b.c` that follow the first one
abbrev pub later_keys : Keys → ℕ → List ℕ
later_keys (one_key k) i = []
later_keys (more_keys ks k) i = later_keys ks i ++ skip 1 (skip (keys_len ks) i) ∷ []

-- one more label and what belongs to it, put among the others in their order
abbrev pub add_row : {X : Type 0} → Over (Labelled X) → Name → Over X → Over (Labelled X)
add_row m x k i = let p = m i in let q = k p.1 in (insert (x, q.0) p.0, q.1)

-- no label, and no token read
abbrev pub no_rows : {X : Type 0} → Over (Labelled X)
no_rows i = ([], i)

module _ (a : Noting) where
  -- these many tokens, which stand for no part
  abbrev pub marks : ℕ → Over a.row
  marks n i = (a.none, skip n i)

  -- one part and then the next
  abbrev pub and : Over a.row → Over a.row → Over a.row
  and m k i = let p = m i in let q = k p.1 in (a.joined p.0 q.0, q.1)

  abbrev pub concat : List a.row → a.row
  concat [] = a.none
  concat (x ∷ xs) = a.joined x (concat xs)

  abbrev pub in_order : Over (Labelled a.row) → Over a.row
  in_order m i = let p = m i in (concat (values p.0), p.1)

  -- a `let` whose body follows: where it begins, and its parts so far
  pub record Pending : Type 0 where
    pub from : ℕ
    pub parts : a.row

  -- an entry of a record: its value, and the stretch of the whole entry
  pub record Stand : Type 0 where
    pub value : a.row
    pub from : ℕ
    pub to : ℕ

  -- two entries of one label: the node `∧` has the stretch from the first token of the first to the last of the last
  abbrev pub stand_joined : Stand → Stand → Stand
  stand_joined x y = record { value = a.node x.from y.to (a.joined x.value y.value); from = x.from; to = y.to }

  abbrev pub stands : Labelled Stand → a.row
  stands [] = a.none
  stands (e ∷ es) = a.joined e.1.value (stands es)

  abbrev pub stands_in_order : Over (Labelled Stand) → Over a.row
  stands_in_order m i = let p = m i in (stands p.0, p.1)

  abbrev pub no_stands : Over (Labelled Stand)
  no_stands i = ([], i)

  abbrev pub add_stand : Over (Labelled Stand) → Over (Name × Stand) → Over (Labelled Stand)
  add_stand m k i = let p = m i in let q = k p.1 in (put stand_joined q.0 p.0, q.1)

  -- the record made for each of these keys has the stretch from it to the end of the value
  abbrev pub records_round : List ℕ → ℕ → a.row → a.row
  records_round [] to value = value
  records_round (from ∷ fs) to value = a.node from to (records_round fs to value)

  -- each of several lets has the stretch from its own `let` to the end of the body
  abbrev pub lets_round : List Pending → ℕ → a.row → a.row
  lets_round [] to body = body
  lets_round (l ∷ ls) to body = a.node l.from to (a.joined l.parts (lets_round ls to body))

  abbrev pub Pendings : Type 0
  Pendings = Over (List Pending)

  abbrev pub no_pendings : Pendings
  no_pendings i = ([], i)

  -- a node, with the stretch of all its tokens
  abbrev pub node : Over a.row → Over a.row
  node m i = let p = m i in (a.node i p.1 p.0, p.1)

  -- nodes of so many tokens alone, or with so many before, behind or between their parts
  abbrev pub leaf : ℕ → Over a.row
  leaf n = node (marks n)

  -- an import of so many tokens
  abbrev pub import_leaf : ℕ → Over a.row
  import_leaf n i = (a.import_node i (skip n i), skip n i)

  abbrev pub behind : ℕ → Over a.row → Over a.row
  behind n m = node (past n m)

  abbrev pub before : ℕ → Over a.row → Over a.row
  before n m = node (ending n m)

  abbrev pub between : ℕ → Over a.row → Over a.row → Over a.row
  between n m k = node (and m (past n k))

  abbrev pub quantified : Over a.row → Over a.row → Over a.row
  quantified m k = node (and (past 4 m) (past 2 k))

  -- brackets of one token each, with a comma behind the first and before the last where it is there
  abbrev pub fenced : Bool → Over a.row → Bool → Over a.row
  fenced c m d = node (ending (1 + if_there d) (past (1 + if_there c) m))

  -- `with`, the keys and `=` stand between the parts
  abbrev pub updated : Over a.row → Keys → Over a.row → Over a.row
  updated m ks k = node (and m (past 1 (past (keys_len ks) (past 1 k))))

  abbrev pub alone_stand : Key → Over (Name × Stand)
  alone_stand k i = ((key_label k, record { value = a.node i (suc i) a.none; from = i; to = suc i }), suc i)

  abbrev pub given_stand : Keys → Over a.row → Over (Name × Stand)
  given_stand ks m i =
      let p = past (keys_len ks) (past 1 m) i in ((first_label ks, record { value = records_round (later_keys ks i) p.1 p.0; from = i; to = p.1 }), p.1)

  -- one `let` more, after those before it
  abbrev pub add_pending : Pendings → Over a.row → Pendings
  add_pending m k i = let p = m i in let q = k p.1 in (p.0 ++ record { from = p.1; parts = q.0 } ∷ [], q.1)

  abbrev pub with_body : Pendings → Over a.row → Over a.row
  with_body m k i = let p = m i in let q = k p.1 in (lets_round p.0 q.1 q.0, q.1)

  abbrev mutual
    -- what is noted of a tree's expression; a bracketed one keeps the stretch between its brackets, and a node round it has them in its
    -- own
    pub noted : Derivation → Over a.row
    noted (lambda w t b) = quantified (noted t) (noted b)
    noted (pi w t b) = quantified (noted t) (noted b)
    noted (arrow t b) = between 1 (noted t) (noted b)
    noted (choice p t e) = node (and (and (past 1 (noted p)) (past 1 (noted t))) (past 1 (noted e)))
    noted (lets ls b) = with_body (lets_notes ls) (past 1 (noted b))
    noted (updates us) = updates_notes us
    noted (merge_as t u s) = node (and (and (past 1 (noted t)) (noted u)) (past 1 (noted s)))
    noted (to_map_as t u) = node (and (past 1 (noted t)) (past 1 (noted u)))
    noted (empty_list c t) = behind (3 + if_there c) (noted t)
    noted (assertion t) = behind 2 (noted t)
    noted (annotation t u) = between 1 (noted t) (noted u)
    noted (operation o l r) = between 1 (noted l) (noted r)
    noted (application f x) = between 0 (noted f) (noted x)
    noted (merging t u) = node (and (past 1 (noted t)) (noted u))
    noted (some_of t) = behind 1 (noted t)
    noted (to_map t) = behind 1 (noted t)
    noted (import u d m) = import_leaf (1 + digest_len d + mode_len m)
    noted (field t k) = before 2 (noted t)
    noted (project_none t c) = node (ending 1 (ending (2 + if_there c) (noted t)))
    noted (project t c ks d) = node (ending (1 + if_there d) (ending (keys_len ks) (ending (2 + if_there c) (noted t))))
    noted (project_by t u) = node (ending 1 (and (noted t) (past 2 (noted u))))
    noted (natural i) = leaf 1
    noted (integer z) = leaf 1
    noted (truth b) = leaf 1
    noted (builtin b) = leaf 1
    noted (variable w i) = leaf (1 + index_len i)
    noted (text f cs) = node (ending 1 (past 1 (chunks_notes cs)))
    noted (brackets e) = ending 1 (past 1 (noted e))
    noted (list c is d) = fenced c (items_notes is) d
    noted (union_none c) = leaf (2 + if_there c)
    noted (union c as' d) = fenced c (in_order (alternatives_notes as')) d
    noted (record_type_none c) = leaf (2 + if_there c)
    noted (record_type c fs d) = fenced c (in_order (fields_notes fs)) d
    noted (record_none c d) = leaf (3 + if_there c + if_there d)
    noted (record_of c es d) = fenced c (stands_in_order (entries_notes es)) d

    pub note_notes : Note → Over a.row
    note_notes untyped = marks 0
    note_notes (typed t) = past 1 (noted t)

    -- `let`, the name, the note, `=` and the value
    pub lets_notes : Lets → Pendings
    lets_notes (one_let w t v) = add_pending no_pendings (and (past 2 (note_notes t)) (past 1 (noted v)))
    lets_notes (more_lets ls w t v) = add_pending (lets_notes ls) (and (past 2 (note_notes t)) (past 1 (noted v)))

    pub updates_notes : Updates → Over a.row
    updates_notes (one_update t ks v) = updated (noted t) ks (noted v)
    updates_notes (more_updates us ks v) = updated (updates_notes us) ks (noted v)

    pub chunks_notes : Chunks → Over a.row
    chunks_notes (start p) = marks (piece_len p)
    chunks_notes (more_chunks cs e p) = ending (1 + piece_len p) (and (chunks_notes cs) (past 1 (noted e)))

    pub items_notes : Items → Over a.row
    items_notes (one_item e) = noted e
    items_notes (more_items is e) = and (items_notes is) (past 1 (noted e))

    pub alternatives_notes : Alternatives → Over (Labelled a.row)
    alternatives_notes (one_alternative k t) = add_row no_rows (key_label k) (past 1 (note_notes t))
    alternatives_notes (more_alternatives as' k t) = add_row (ending 1 (alternatives_notes as')) (key_label k) (past 1 (note_notes t))

    pub fields_notes : Fields → Over (Labelled a.row)
    fields_notes (one_field k t) = add_row no_rows (key_label k) (past 2 (noted t))
    fields_notes (more_fields fs k t) = add_row (ending 1 (fields_notes fs)) (key_label k) (past 2 (noted t))

    pub entry_notes : Entry → Over (Name × Stand)
    entry_notes (alone k) = alone_stand k
    entry_notes (given ks v) = given_stand ks (noted v)

    pub entries_notes : Entries → Over (Labelled Stand)
    entries_notes (one_entry e) = add_stand no_stands (entry_notes e)
    entries_notes (more_entries es e) = add_stand (ending 1 (entries_notes es)) (entry_notes e)
