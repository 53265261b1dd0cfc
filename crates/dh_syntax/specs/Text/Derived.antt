-- Which trees the grammar derives: each part binds as tightly as its place asks, no label is repeated where none may be,
-- and an annotated `merge` or `toMap` is read in one way. Gaps are asked for by `Yield`.
use Rattle.std.specs.Prelude.{ℕ, Bool, true, false, ◌&&◌, ◌||◌, not, List, [], ◌∷◌, ◌++◌, IsTrue, nat_le, nat_lt}
use Rattle.dh_syntax.specs.Expressions.Levels.{level_of, left_level}
use Rattle.dh_syntax.specs.Expressions.Numbers.{bytes_eq}
use Rattle.dh_syntax.specs.Expressions.Tree.{Name}
use Rattle.dh_syntax.specs.Text.Derivation.{key_label, Keys, one_key, more_keys, labels, Derivation, lambda, pi, arrow, choice, lets, updates, merge_as, to_map_as, empty_list, assertion, annotation, operation, application, merging, some_of, to_map, import, field, project_none, project, project_by, natural, integer, truth, builtin, variable, text, brackets, list, union_none, union, record_type_none, record_type, record_none, record_of, Note, untyped, typed, Lets, one_let, more_lets, Updates, one_update, more_updates, Chunks, start, more_chunks, Items, one_item, more_items, Alternatives, one_alternative, more_alternatives, Fields, one_field, more_fields, Entry, alone, given, Entries, one_entry, more_entries}

-- how tightly a tree binds: its level
abbrev pub binds : Derivation → ℕ
binds (lambda w a b) = 0
binds (pi w a b) = 0
binds (arrow a b) = 0
binds (choice p t e) = 0
binds (lets ls b) = 0
binds (updates us) = 0
binds (merge_as t u a) = 0
binds (to_map_as t a) = 0
binds (empty_list c a) = 0
binds (assertion a) = 0
binds (annotation t a) = 0
binds (operation o l r) = level_of o
binds (application f x) = 14
binds (merging t u) = 14
binds (some_of t) = 14
binds (to_map t) = 14
binds (import i d m) = 15
binds (field t k) = 16
binds (project_none t c) = 16
binds (project t c ks d) = 16
binds (project_by t a) = 16
-- a primitive
binds _ = 17

-- the productions op, app, imp and sel; any tree is an expr
abbrev pub is_op : Derivation → Bool
is_op d = nat_le 1 (binds d)

-- whether a tree may stand for an application
abbrev pub is_app : Derivation → Bool
is_app d = nat_le 14 (binds d)

-- whether a tree may stand for an import or an argument
abbrev pub is_imp : Derivation → Bool
is_imp d = nat_le 15 (binds d)

-- whether a tree may stand for what a selection is made from
abbrev pub is_sel : Derivation → Bool
is_sel d = nat_le 16 (binds d)

-- whether a tree is exactly `merge` with two arguments or `toMap` with one
abbrev pub is_special : Derivation → Bool
is_special (merging t u) = true
is_special (to_map t) = true
is_special _ = false

-- whether a label is among these
abbrev pub among : Name → List Name → Bool
among x [] = false
among x (y ∷ ys) = bytes_eq x y || among x ys

-- whether no label is repeated
abbrev pub distinct : Keys → Bool
distinct (one_key k) = true
distinct (more_keys ks k) = distinct ks && not (among (key_label k) (labels ks))

-- the labels of a record type, in the order in which they are written
abbrev pub field_labels : Fields → List Name
field_labels (one_field k a) = key_label k ∷ []
field_labels (more_fields fs k a) = field_labels fs ++ key_label k ∷ []

-- the labels of a union's alternatives, in the order in which they are written
abbrev pub alternative_labels : Alternatives → List Name
alternative_labels (one_alternative k a) = key_label k ∷ []
alternative_labels (more_alternatives as' k a) = alternative_labels as' ++ key_label k ∷ []

-- whether the grammar derives a tree, and each kind of piece that trees are made of
abbrev mutual
  pub derived : Derivation → Bool
  derived (lambda w a b) = derived a && derived b
  derived (pi w a b) = derived a && derived b
  derived (arrow a b) = is_op a && derived a && derived b
  derived (choice p t e) = derived p && derived t && derived e
  derived (lets ls b) = lets_derived ls && derived b
  derived (updates us) = updates_derived us
  derived (merge_as t u a) = is_imp t && is_imp u && derived t && derived u && derived a
  derived (to_map_as t a) = is_imp t && derived t && derived a
  derived (empty_list c a) = derived a
  derived (assertion a) = derived a
  derived (annotation t a) = is_op t && not (is_special t) && derived t && derived a
  derived (operation o l r) = nat_le (left_level o) (binds l) && nat_lt (level_of o) (binds r) && derived l && derived r
  derived (application f x) = is_app f && is_imp x && derived f && derived x
  derived (merging t u) = is_imp t && is_imp u && derived t && derived u
  derived (some_of t) = is_imp t && derived t
  derived (to_map t) = is_imp t && derived t
  derived (import i d m) = true
  derived (field t k) = is_sel t && derived t
  derived (project_none t c) = is_sel t && derived t
  derived (project t c ks d) = is_sel t && derived t && distinct ks
  derived (project_by t a) = is_sel t && derived t && derived a
  derived (natural i) = true
  derived (integer z) = true
  derived (truth b) = true
  derived (builtin b) = true
  derived (variable w i) = true
  derived (text f cs) = chunks_derived cs
  derived (brackets e) = derived e
  derived (list c is d) = items_derived is
  derived (union_none c) = true
  derived (union c as' d) = alternatives_derived as'
  derived (record_type_none c) = true
  derived (record_type c fs d) = fields_derived fs
  derived (record_none c d) = true
  derived (record_of c es d) = entries_derived es

  pub note_derived : Note → Bool
  note_derived untyped = true
  note_derived (typed a) = derived a

  pub lets_derived : Lets → Bool
  lets_derived (one_let w a v) = note_derived a && derived v
  lets_derived (more_lets ls w a v) = lets_derived ls && note_derived a && derived v

  pub updates_derived : Updates → Bool
  updates_derived (one_update t ks v) = is_imp t && is_op v && derived t && derived v
  updates_derived (more_updates us ks v) = is_op v && updates_derived us && derived v

  pub chunks_derived : Chunks → Bool
  chunks_derived (start p) = true
  chunks_derived (more_chunks cs e p) = chunks_derived cs && derived e

  pub items_derived : Items → Bool
  items_derived (one_item e) = derived e
  items_derived (more_items is e) = items_derived is && derived e

  -- a repeated label is refused, here and in a record type
  pub alternatives_derived : Alternatives → Bool
  alternatives_derived (one_alternative k a) = note_derived a
  alternatives_derived (more_alternatives as' k a) =
      alternatives_derived as' && not (among (key_label k) (alternative_labels as')) && note_derived a

  pub fields_derived : Fields → Bool
  fields_derived (one_field k a) = derived a
  fields_derived (more_fields fs k a) = fields_derived fs && not (among (key_label k) (field_labels fs)) && derived a

  pub entry_derived : Entry → Bool
  entry_derived (alone k) = true
  entry_derived (given ks v) = derived v

  pub entries_derived : Entries → Bool
  entries_derived (one_entry e) = entry_derived e
  entries_derived (more_entries es e) = entries_derived es && entry_derived e

-- the grammar derives this tree
abbrev pub IsDerived : Derivation → Type 0
IsDerived d = IsTrue (derived d)
