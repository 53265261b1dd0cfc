-- How many productions `expr` stand open at most, below a tree.
use Rattle.std.specs.Prelude.{ℕ, suc, max, List, [], ◌∷◌}
use Rattle.dh_syntax.specs.Text.Derivation.{Derivation, lambda, pi, arrow, choice, lets, updates, merge_as, to_map_as, empty_list, assertion, annotation, operation, application, merging, some_of, to_map, import, field, project_none, project, project_by, natural, integer, truth, builtin, variable, text, brackets, list, union_none, union, record_type_none, record_type, record_none, record_of, Note, untyped, typed, Lets, one_let, more_lets, Updates, one_update, more_updates, Chunks, start, more_chunks, Items, one_item, more_items, Alternatives, one_alternative, more_alternatives, Fields, one_field, more_fields, Entry, alone, given, Entries, one_entry, more_entries}
use Rattle.dh_syntax.specs.Text.Yield.{Written}
use Rattle.dh_layout.proofs.Trees.Trees.{Part, tree_in}

-- the greatest depth of these tokens, 0 where there is none
abbrev pub deepest : List Written → ℕ
deepest [] = 0
deepest (w ∷ ws) = max w.depth (deepest ws)

abbrev mutual
  -- how many more expressions are open at the deepest token of a tree than before it: one more for each part that is an
  -- expression
  pub opens : Derivation → ℕ
  opens (lambda w a b) = max (suc (opens a)) (suc (opens b))
  opens (pi w a b) = max (suc (opens a)) (suc (opens b))
  opens (arrow a b) = max (opens a) (suc (opens b))
  opens (choice p t e) = max (max (suc (opens p)) (suc (opens t))) (suc (opens e))
  opens (lets ls b) = max (lets_opens ls) (suc (opens b))
  opens (updates us) = updates_opens us
  opens (merge_as t u a) = max (max (opens t) (opens u)) (suc (opens a))
  opens (to_map_as t a) = max (opens t) (suc (opens a))
  opens (empty_list c a) = suc (opens a)
  opens (assertion a) = suc (opens a)
  opens (annotation t a) = max (opens t) (suc (opens a))
  opens (operation o l r) = max (opens l) (opens r)
  opens (application f x) = max (opens f) (opens x)
  opens (merging t u) = max (opens t) (opens u)
  opens (some_of t) = opens t
  opens (to_map t) = opens t
  opens (import i d m) = 0
  opens (field t k) = opens t
  opens (project_none t c) = opens t
  opens (project t c ks d) = opens t
  opens (project_by t a) = max (opens t) (suc (opens a))
  opens (natural i) = 0
  opens (integer z) = 0
  opens (truth b) = 0
  opens (builtin b) = 0
  opens (variable w i) = 0
  opens (text f cs) = chunks_opens cs
  opens (brackets e) = suc (opens e)
  opens (list c is d) = items_opens is
  opens (union_none c) = 0
  opens (union c as' d) = alternatives_opens as'
  opens (record_type_none c) = 0
  opens (record_type c fs d) = fields_opens fs
  opens (record_none c d) = 0
  opens (record_of c es d) = entries_opens es

  pub note_opens : Note → ℕ
  note_opens untyped = 0
  note_opens (typed a) = suc (opens a)

  pub lets_opens : Lets → ℕ
  lets_opens (one_let w a v) = max (note_opens a) (suc (opens v))
  lets_opens (more_lets ls w a v) = max (max (lets_opens ls) (note_opens a)) (suc (opens v))

  pub updates_opens : Updates → ℕ
  updates_opens (one_update t ks v) = max (opens t) (opens v)
  updates_opens (more_updates us ks v) = max (updates_opens us) (opens v)

  pub chunks_opens : Chunks → ℕ
  chunks_opens (start p) = 0
  chunks_opens (more_chunks cs e p) = max (chunks_opens cs) (suc (opens e))

  pub items_opens : Items → ℕ
  items_opens (one_item e) = suc (opens e)
  items_opens (more_items is e) = max (items_opens is) (suc (opens e))

  pub alternatives_opens : Alternatives → ℕ
  alternatives_opens (one_alternative k a) = note_opens a
  alternatives_opens (more_alternatives as' k a) = max (alternatives_opens as') (note_opens a)

  pub fields_opens : Fields → ℕ
  fields_opens (one_field k a) = suc (opens a)
  fields_opens (more_fields fs k a) = max (fields_opens fs) (suc (opens a))

  pub entry_opens : Entry → ℕ
  entry_opens (alone k) = 0
  entry_opens (given ks v) = suc (opens v)

  pub entries_opens : Entries → ℕ
  entries_opens (one_entry e) = entry_opens e
  entries_opens (more_entries es e) = max (entries_opens es) (entry_opens e)

-- one more than the greatest of these parts, 0 where there is none
abbrev pub parts_open : List Part → ℕ
parts_open [] = 0
parts_open (p ∷ ps) = max (suc (opens (tree_in p))) (parts_open ps)
