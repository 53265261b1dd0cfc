-- The machine that notes where the nodes of an expression stand, or its imports. Of a part it keeps the number of its first token
-- and that of the token behind it; all that a part adds to these is a count, so nothing is kept beside the parts. A step is given
-- the number of the token that it reads.
use Rattle.std.specs.Prelude.{ℕ, zero, suc, ◌+◌, Bool, true, false, List, [], ◌∷◌, ◌++◌, Option, Some, None}
use Rattle.dh_syntax.specs.declared.locations.Digest.{Digest}
use Rattle.dh_syntax.specs.declared.locations.Mode.{Mode}
use Rattle.dh_syntax.specs.declared.locations.Mode.TheVariants as modes
use Rattle.dh_syntax.specs.Expressions.Levels.{level_of}
use Rattle.dh_syntax.specs.Expressions.Tree.{Name}
use Rattle.dh_syntax.specs.Text.Derivation.{key_label, Keys}
use Rattle.dh_syntax.specs.Text.Meaning.{put, insert, names, values}
use Rattle.dh_syntax.specs.Text.Noting.{Noting, if_there, keys_len, digest_len, first_label, later_keys, Pending, Stand, Labelled, concat, stand_joined, stands, records_round, lets_round}
use Rattle.dh_grammar.specs.Making.{Sorts, Making}

-- the number of the token that stands so many before the one of this number
abbrev pub back : ℕ → ℕ → ℕ
back zero i = i
back (suc n) zero = zero
back (suc n) (suc i) = back n i

module _ (notes : Noting) where
  -- an operand: its first token and the one behind it, brackets included, and what is noted of its expression
  pub record Placed : Type 0 where
    pub first : ℕ
    pub last : ℕ
    pub nodes : notes.row
    pub level : ℕ
    -- exactly `merge` with two arguments or `toMap` with one
    pub special : Bool

  -- parts in the order of the text: the first token, and what is noted of them
  pub record Row : Type 0 where
    pub first : ℕ
    pub nodes : notes.row

  pub record PlacedLets : Type 0 where
    pub first : ℕ
    pub pendings : List (Pending notes)

  pub record PlacedRows : Type 0 where
    pub first : ℕ
    pub rows : Labelled notes.row

  pub record PlacedEntries : Type 0 where
    pub first : ℕ
    pub rows : Labelled (Stand notes)

  abbrev pub place_sorts : Sorts
  place_sorts = record { tree = Placed; note = Option Row; lets = PlacedLets; chunks = Row; items = Row; alternatives = PlacedRows; fields = PlacedRows; entry = Name × (Stand notes); entries = PlacedEntries }

  -- a node of these tokens
  abbrev pub node : ℕ → ℕ → ℕ → notes.row → Placed
  node level first last parts = record { first = first; last = last; nodes = notes.node first last parts; level = level; special = false }

  abbrev pub special_node : ℕ → ℕ → notes.row → Placed
  special_node first last parts = record { first = first; last = last; nodes = notes.node first last parts; level = 14; special = true }

  abbrev pub two : ℕ → Placed → Placed → Placed
  two level x y = node level x.first y.last (notes.joined x.nodes y.nodes)

  -- the same behind so many tokens
  abbrev pub one_behind : ℕ → ℕ → Placed → Placed
  one_behind level n x = node level (back n x.first) x.last x.nodes

  abbrev pub noted : Bool → Placed → Placed → Placed
  noted true x t = node 0 x.first t.last (notes.joined (notes.parts x.nodes) t.nodes)
  noted false x t = two 0 x t

  abbrev pub note_nodes : Option Row → notes.row
  note_nodes None = notes.none
  note_nodes (Some r) = r.nodes

  -- where a part begins that stands notes so many tokens behind, with a note or without one
  abbrev pub before_note : ℕ → Option Row → ℕ → ℕ
  before_note n None i = i
  before_note n (Some r) i = back n r.first

  -- a `let`: the name and a mark stand before the note or the value
  abbrev pub pending : Option Row → Placed → (Pending notes)
  pending t x = record { from = before_note 3 t (back 3 x.first); parts = notes.joined (note_nodes t) x.nodes }

  abbrev pub add_let : Option PlacedLets → (Pending notes) → PlacedLets
  add_let None p = record { first = p.from; pendings = p ∷ [] }
  add_let (Some ls) p = record { first = ls.first; pendings = ls.pendings ++ p ∷ [] }

  abbrev pub add_item : Option Row → Placed → Row
  add_item None x = record { first = x.first; nodes = x.nodes }
  add_item (Some is) x = record { first = is.first; nodes = notes.joined is.nodes x.nodes }

  abbrev pub add_row : Option PlacedRows → ℕ → Name → notes.row → PlacedRows
  add_row None first x nodes = record { first = first; rows = insert (x, nodes) [] }
  add_row (Some r) first x nodes = record { first = r.first; rows = insert (x, nodes) r.rows }

  abbrev pub add_entry : Option PlacedEntries → Name × (Stand notes) → PlacedEntries
  add_entry None e = record { first = e.1.from; rows = put (stand_joined notes) e [] }
  add_entry (Some es) e = record { first = es.first; rows = put (stand_joined notes) e es.rows }

  -- an entry `a.b = x` begins with its keys and `=`
  abbrev pub given : Keys → ℕ → Placed → Name × (Stand notes)
  given ks from x = (first_label ks, record { value = records_round notes (later_keys ks from) x.last x.nodes; from = from; to = x.last })

  -- between brackets of one token each, and a comma where it is there; the last bracket is read
  abbrev pub fenced : ℕ → ℕ → Bool → notes.row → Placed
  fenced n first c parts = node 17 (back 1 (back (if_there c) first)) (suc n) parts

  -- the variable of a name alone is made when the token behind it is read
  abbrev pub variable : ℕ → Option ℕ → Placed
  variable n None = node 17 (back 1 n) n notes.none
  variable n (Some i) = node 17 (back 2 n) (suc n) notes.none

  -- as is an import that has no `as`
  abbrev pub import_node : ℕ → ℕ → Placed
  import_node first last = record { first = first; last = last; nodes = notes.import_node first last; level = 15; special = false }

  abbrev pub import_at : ℕ → Option Digest → Mode → Placed
  import_at n d modes.Code = import_node (back (1 + digest_len d) n) n
  import_at n d modes.Text = import_node (back (2 + digest_len d) n) (suc n)
  import_at n d modes.Location = import_node (back (2 + digest_len d) n) (suc n)

  -- what is made when the token of this number is read
  abbrev pub placing : ℕ → Making place_sorts
  placing n = record {
    binds = λ x. x.level;
    field_labels = λ r. names r.rows;
    alternative_labels = λ r. names r.rows;
    natural = λ i. node 17 n (suc n) notes.none;
    integer = λ z. node 17 n (suc n) notes.none;
    truth = λ b. node 17 n (suc n) notes.none;
    builtin = λ b. node 17 n (suc n) notes.none;
    variable = λ w i. variable n i;
    «import» = λ i d u. import_at n d u;
    operation = λ o x y. two (level_of o) x y;
    application = λ x y. two 14 x y;
    merging = λ x y. special_node (back 1 x.first) y.last (notes.joined x.nodes y.nodes);
    some_of = λ x. one_behind 14 1 x;
    to_map = λ x. special_node (back 1 x.first) x.last x.nodes;
    updating = λ x ks v. two 0 x v;
    quantify = λ b w x y. node 0 (back 4 x.first) y.last (notes.joined x.nodes y.nodes);
    arrow = λ x y. two 0 x y;
    choice = λ x y z. node 0 (back 1 x.first) z.last (notes.joined (notes.joined x.nodes y.nodes) z.nodes);
    lets = λ ls x. record { first = ls.first; last = x.last; nodes = lets_round notes ls.pendings x.last x.nodes; level = 0; special = false };
    noting = λ x t. noted x.special x t;
    empty_list = λ c x. node 0 (back (3 + if_there c) x.first) x.last x.nodes;
    assertion = λ x. one_behind 0 2 x;
    brackets = λ x. record { first = back 1 x.first; last = suc n; nodes = x.nodes; level = 17; special = false };
    field = λ x k. node 16 x.first (suc n) x.nodes;
    project_none = λ x c. node 16 x.first (suc n) x.nodes;
    project = λ x c ks d. node 16 x.first (suc n) x.nodes;
    project_by = λ x y. node 16 x.first (suc n) (notes.joined x.nodes y.nodes);
    text = λ f cs. node 17 (back 1 cs.first) (suc n) cs.nodes;
    list = λ c is d. fenced n is.first c is.nodes;
    union_none = λ c. node 17 (back (1 + if_there c) n) (suc n) notes.none;
    union = λ c r d. fenced n r.first c (concat notes (values r.rows));
    record_type_none = λ c. node 17 (back (1 + if_there c) n) (suc n) notes.none;
    record_type = λ c r d. fenced n r.first c (concat notes (values r.rows));
    record_none = λ c d. node 17 (back (2 + if_there c + if_there d) n) (suc n) notes.none;
    record_of = λ c es d. fenced n es.first c (stands notes es.rows);
    untyped = None;
    typed = λ x. Some (record { first = x.first; nodes = x.nodes });
    add_let = λ ls w t x. add_let ls (pending t x);
    start = λ p. record { first = n; nodes = notes.none };
    more_chunks = λ cs x p. record { first = cs.first; nodes = notes.joined cs.nodes x.nodes };
    add_item = add_item;
    add_alternative = λ r k t. add_row r (before_note 2 t (back 1 n)) (key_label k) (note_nodes t);
    add_field = λ r k x. add_row r (back 2 x.first) (key_label k) x.nodes;
    alone = λ k. (key_label k, record { value = notes.node (back 1 n) n notes.none; from = back 1 n; to = n });
    given = λ ks x. given ks (back (keys_len ks) (back 1 x.first)) x;
    add_entry = add_entry;
  }
