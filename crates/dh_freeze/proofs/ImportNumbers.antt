-- The numbers of the locations of a tree's imports: each is noted once, and none but those of the tree's own tokens.
use Rattle.std.proofs.Common.{◌≡◌, ℕ, zero, suc, ◌+◌, ◌≤◌, ◌<◌, Bool, true, false, List, [], ◌∷◌, ◌++◌, refl, arith, ap, ◌∙◌}
use Rattle.std.specs.Prelude.{cond}
use Rattle.dh_syntax.specs.Expressions.Numbers.{bytes_eq}
use Rattle.dh_syntax.specs.Expressions.Order.{before}
use Rattle.dh_syntax.specs.Expressions.Tree.{Name}
use Rattle.dh_syntax.specs.Text.Derivation.{Key, key_label, Keys, Derivation, lambda, pi, arrow, choice, lets, updates, merge_as, to_map_as, empty_list, assertion, annotation, operation, application, merging, some_of, to_map, import, field, project_none, project, project_by, natural, integer, truth, builtin, variable, text, brackets, list, union_none, union, record_type_none, record_type, record_none, record_of, Note, untyped, typed, Lets, one_let, more_lets, Updates, one_update, more_updates, Chunks, start, more_chunks, Items, one_item, more_items, Alternatives, one_alternative, more_alternatives, Fields, one_field, more_fields, Entry, alone, given, Entries, one_entry, more_entries}
use Rattle.dh_syntax.specs.Text.Meaning.{put, values}
use Rattle.dh_syntax.specs.Text.Noting as notes
use Rattle.dh_syntax.specs.Text.Noting.{Over, skip, past, ending, if_there, keys_len, digest_len, mode_len, piece_len, first_label, later_keys, Labelled, add_row, no_rows, Pending, Stand, stand_joined}
use Rattle.dh_syntax.specs.Text.Offsets.{locating}
use Rattle.dh_freeze.specs.Distinct.{times}
use Rattle.dh_freeze.proofs.Counting.{times-append, Within, both, nothing, wider, fewer, single}

abbrev Noted : Type 0
Noted = Over (List ℕ)

abbrev Good : Noted → Type 0
Good m = (i : ℕ) → Within i (m i).1 (λ a. times a (m i).0)

-- ---- tokens without imports

skip_up : (n i : ℕ) → i ≤ skip n i
skip_up zero i = omega arith
skip_up (suc n) i = let h = skip_up n i in omega arith

skip_past : (n i : ℕ) → 0 < n → i < skip n i
skip_past zero i h = absurd (omega arith)
skip_past (suc n) i h = let k = skip_up n i in omega arith

good_marks : (n : ℕ) → Good (notes.marks locating n)
good_marks n i = nothing i (skip n i) _ (skip_up n i) (λ a. refl)

good_past : (n : ℕ) (m : Noted) → Good m → Good (past n m)
good_past n m g i = wider (skip n i) (m (skip n i)).1 i (m (skip n i)).1 _ (skip_up n i) (omega arith) (g (skip n i))

good_ending : (n : ℕ) (m : Noted) → Good m → Good (ending n m)
good_ending n m g i = wider i (m i).1 i (skip n (m i).1) _ (omega arith) (skip_up n (m i).1) (g i)

good_and : (m k : Noted) → Good m → Good k → Good (notes.and locating m k)
good_and m k g h i =
    let p = m i in
    let q = k p.1 in
    both i p.1 q.1 (λ a. times a p.0) (λ a. times a q.0) (λ a. times a (p.0 ++ q.0)) (g i) (h p.1) (λ a. let e = times-append a p.0 q.0 in omega arith)

-- ---- nodes

good_import : (n : ℕ) → 0 < n → Good (notes.import_leaf locating n)
good_import n l i = single i (skip n i) (skip_past n i l)

good_behind : (n : ℕ) (m : Noted) → Good m → Good (notes.behind locating n m)
good_behind n m g = good_past n m g

good_before : (n : ℕ) (m : Noted) → Good m → Good (notes.before locating n m)
good_before n m g = good_ending n m g

good_between : (n : ℕ) (m k : Noted) → Good m → Good k → Good (notes.between locating n m k)
good_between n m k g h = good_and m (past n k) g (good_past n k h)

good_quantified : (m k : Noted) → Good m → Good k → Good (notes.quantified locating m k)
good_quantified m k g h = good_and (past 4 m) (past 2 k) (good_past 4 m g) (good_past 2 k h)

good_fenced : (c d : Bool) (m : Noted) → Good m → Good (notes.fenced locating c m d)
good_fenced c d m g = good_ending (1 + if_there d) (past (1 + if_there c) m) (good_past (1 + if_there c) m g)

good_updated : (m k : Noted) (ks : Keys) → Good m → Good k → Good (notes.updated locating m ks k)
good_updated m k ks g h =
    good_and m (past 1 (past (keys_len ks) (past 1 k))) g (good_past 1 (past (keys_len ks) (past 1 k)) (good_past (keys_len ks) (past 1 k) (good_past 1 k h)))

-- ---- parts that are put in another order

module _ {X : Type 0} (count : X → ℕ) where
  abbrev total : Labelled X → ℕ
  total [] = 0
  total (e ∷ es) = count e.1 + total es

  total_cond : (b : Bool) (xs ys : Labelled X) (n : ℕ) → total xs ≤ n → total ys ≤ n → total (cond b xs ys) ≤ n
  total_cond true xs ys n h k = h
  total_cond false xs ys n h k = k

  total_put : (join : X → X → X) → ((x y : X) → count (join x y) ≤ count x + count y) → (p : Name × X) (es : Labelled X) → total (put join p es) ≤ count p.1 + total es
  total_put join h p [] = omega arith
  total_put join h p (e ∷ es) =
      let k = h e.1 p.1 in
      let rest = total_put join h p es in
      total_cond (bytes_eq p.0 e.0) ((e.0, join e.1 p.1) ∷ es) (cond (before p.0 e.0) (p ∷ e ∷ es) (e ∷ put join p es)) (count p.1 + (count e.1 + total es)) (omega arith)
      (total_cond (before p.0 e.0) (p ∷ e ∷ es) (e ∷ put join p es) (count p.1 + (count e.1 + total es)) (omega arith) (omega arith))

abbrev Rows : Type 0
Rows = Over (Labelled (List ℕ))

abbrev GoodRows : Rows → Type 0
GoodRows m = (i : ℕ) → Within i (m i).1 (λ a. total (times a) (m i).0)

times_rows : (a : ℕ) (es : Labelled (List ℕ)) → times a (notes.concat locating (values es)) ≡ total (times a) es
times_rows a [] = refl
times_rows a (e ∷ es) = times-append a e.1 (notes.concat locating (values es)) ∙ ap (λ n. times a e.1 + n) (times_rows a es)

good_in_order : (m : Rows) → GoodRows m → Good (notes.in_order locating m)
good_in_order m g i = fewer i (m i).1 (λ a. total (times a) (m i).0) (λ a. times a (notes.concat locating (values (m i).0))) (g i) (λ a. let e = times_rows a (m i).0 in omega arith)

good_no_rows : GoodRows no_rows
good_no_rows i = nothing i i (λ a. 0) (omega arith) (λ a. refl)

good_row : (m : Rows) (x : Name) (k : Noted) → GoodRows m → Good k → GoodRows (add_row m x k)
good_row m x k g h i =
    let p = m i in
    let q = k p.1 in
    both i p.1 q.1 (λ a. total (times a) p.0) (λ a. times a q.0) (λ a. total (times a) (put (λ s t. s) (x, q.0) p.0)) (g i) (h p.1)
    (λ a. let e = total_put (times a) (λ s t. s) (λ s t. omega arith) (x, q.0) p.0 in omega arith)

good_rows_ending : (n : ℕ) (m : Rows) → GoodRows m → GoodRows (ending n m)
good_rows_ending n m g i = wider i (m i).1 i (skip n (m i).1) (λ a. total (times a) (m i).0) (omega arith) (skip_up n (m i).1) (g i)

-- ---- entries of records

abbrev Stands : Type 0
Stands = Over (Labelled (Stand locating))

abbrev standing : ℕ → Stand locating → ℕ
standing a s = times a s.value

abbrev GoodStands : Stands → Type 0
GoodStands m = (i : ℕ) → Within i (m i).1 (λ a. total (standing a) (m i).0)

abbrev GoodEntry : Over (Name × Stand locating) → Type 0
GoodEntry m = (i : ℕ) → Within i (m i).1 (λ a. times a (m i).0.1.value)

times_stands : (a : ℕ) (es : Labelled (Stand locating)) → times a (notes.stands locating es) ≡ total (standing a) es
times_stands a [] = refl
times_stands a (e ∷ es) = times-append a e.1.value (notes.stands locating es) ∙ ap (λ n. times a e.1.value + n) (times_stands a es)

good_stands : (m : Stands) → GoodStands m → Good (notes.stands_in_order locating m)
good_stands m g i = fewer i (m i).1 (λ a. total (standing a) (m i).0) (λ a. times a (notes.stands locating (m i).0)) (g i) (λ a. let e = times_stands a (m i).0 in omega arith)

good_stand : (m : Stands) (k : Over (Name × Stand locating)) → GoodStands m → GoodEntry k → GoodStands (notes.add_stand locating m k)
good_stand m k g h i =
    let p = m i in
    let q = k p.1 in
    both i p.1 q.1 (λ a. total (standing a) p.0) (λ a. times a q.0.1.value) (λ a. total (standing a) (put (stand_joined locating) q.0 p.0)) (g i) (h p.1)
    (λ a. let e = total_put (standing a) (stand_joined locating) (λ s t. let f = times-append a s.value t.value in omega arith) q.0 p.0 in omega arith)

good_no_stands : GoodStands (notes.no_stands locating)
good_no_stands i = nothing i i (λ a. 0) (omega arith) (λ a. refl)

good_stands_ending : (n : ℕ) (m : Stands) → GoodStands m → GoodStands (ending n m)
good_stands_ending n m g i = wider i (m i).1 i (skip n (m i).1) (λ a. total (standing a) (m i).0) (omega arith) (skip_up n (m i).1) (g i)

records_times : (a : ℕ) (fs : List ℕ) (to : ℕ) (xs : List ℕ) → times a (notes.records_round locating fs to xs) ≡ times a xs
records_times a [] to xs = refl
records_times a (f ∷ fs) to xs = records_times a fs to xs

good_alone : (k : Key) → GoodEntry (notes.alone_stand locating k)
good_alone k i = nothing i (suc i) (λ a. 0) (omega arith) (λ a. refl)

good_given : (ks : Keys) (m : Noted) → Good m → GoodEntry (notes.given_stand locating ks m)
good_given ks m g i =
    let p = past (keys_len ks) (past 1 m) i in
    fewer i p.1 (λ a. times a p.0) (λ a. times a (notes.records_round locating (later_keys ks i) p.1 p.0)) (good_past (keys_len ks) (past 1 m) (good_past 1 m g) i)
    (λ a. let e = records_times a (later_keys ks i) p.1 p.0 in omega arith)

-- ---- lets

abbrev pending_times : ℕ → List (Pending locating) → ℕ
pending_times a [] = 0
pending_times a (l ∷ ls) = times a l.parts + pending_times a ls

abbrev GoodPendings : notes.Pendings locating → Type 0
GoodPendings m = (i : ℕ) → Within i (m i).1 (λ a. pending_times a (m i).0)

pending_last : (a : ℕ) (ls : List (Pending locating)) (l : Pending locating) → pending_times a (ls ++ l ∷ []) ≡ pending_times a ls + times a l.parts
pending_last a [] l = omega arith
pending_last a (k ∷ ls) l = let e = pending_last a ls l in omega arith

lets_times : (a : ℕ) (ls : List (Pending locating)) (to : ℕ) (xs : List ℕ) → times a (notes.lets_round locating ls to xs) ≡ pending_times a ls + times a xs
lets_times a [] to xs = omega arith
lets_times a (l ∷ ls) to xs = let e = times-append a l.parts (notes.lets_round locating ls to xs) in let f = lets_times a ls to xs in omega arith

good_no_pendings : GoodPendings (notes.no_pendings locating)
good_no_pendings i = nothing i i (λ a. 0) (omega arith) (λ a. refl)

good_pending : (m : notes.Pendings locating) (k : Noted) → GoodPendings m → Good k → GoodPendings (notes.add_pending locating m k)
good_pending m k g h i =
    let p = m i in
    let q = k p.1 in
    let l : Pending locating = record { from = p.1; parts = q.0 } in
    both i p.1 q.1 (λ a. pending_times a p.0) (λ a. times a q.0) (λ a. pending_times a (p.0 ++ l ∷ [])) (g i) (h p.1) (λ a. let e = pending_last a p.0 l in omega arith)

good_body : (m : notes.Pendings locating) (k : Noted) → GoodPendings m → Good k → Good (notes.with_body locating m k)
good_body m k g h i =
    let p = m i in
    let q = k p.1 in
    both i p.1 q.1 (λ a. pending_times a p.0) (λ a. times a q.0) (λ a. times a (notes.lets_round locating p.0 q.1 q.0)) (g i) (h p.1) (λ a. let e = lets_times a p.0 q.1 q.0 in omega arith)

-- ---- trees

abbrev N : Derivation → Noted
N d = notes.noted locating d

abbrev note : Note → Noted
note a = notes.note_notes locating a

-- two parts, and three, each behind so many tokens
good_two : (n m : ℕ) (k l : Noted) → Good k → Good l → Good (notes.and locating (past n k) (past m l))
good_two n m k l g h = good_and (past n k) (past m l) (good_past n k g) (good_past m l h)

mutual
  pub good : (d : Derivation) → Good (N d)
  good (lambda w t b) = good_quantified (N t) (N b) (good t) (good b)
  good (pi w t b) = good_quantified (N t) (N b) (good t) (good b)
  good (arrow t b) = good_between 1 (N t) (N b) (good t) (good b)
  good (choice p t e) = good_and (notes.and locating (past 1 (N p)) (past 1 (N t))) (past 1 (N e)) (good_two 1 1 (N p) (N t) (good p) (good t)) (good_past 1 (N e) (good e))
  good (lets ls b) = good_body (notes.lets_notes locating ls) (past 1 (N b)) (good_lets ls) (good_past 1 (N b) (good b))
  good (updates us) = good_updates us
  good (merge_as t u s) = good_and (notes.and locating (past 1 (N t)) (N u)) (past 1 (N s)) (good_and (past 1 (N t)) (N u) (good_past 1 (N t) (good t)) (good u)) (good_past 1 (N s) (good s))
  good (to_map_as t u) = good_two 1 1 (N t) (N u) (good t) (good u)
  good (empty_list c t) = good_behind (3 + if_there c) (N t) (good t)
  good (assertion t) = good_behind 2 (N t) (good t)
  good (annotation t u) = good_between 1 (N t) (N u) (good t) (good u)
  good (operation o l r) = good_between 1 (N l) (N r) (good l) (good r)
  good (application f x) = good_between 0 (N f) (N x) (good f) (good x)
  good (merging t u) = good_and (past 1 (N t)) (N u) (good_past 1 (N t) (good t)) (good u)
  good (some_of t) = good_behind 1 (N t) (good t)
  good (to_map t) = good_behind 1 (N t) (good t)
  good (import u d m) = good_import (1 + digest_len d + mode_len m) (omega arith)
  good (field t k) = good_before 2 (N t) (good t)
  good (project_none t c) = good_ending 1 (ending (2 + if_there c) (N t)) (good_ending (2 + if_there c) (N t) (good t))
  good (project t c ks d) =
      good_ending (1 + if_there d) (ending (keys_len ks) (ending (2 + if_there c) (N t)))
      (good_ending (keys_len ks) (ending (2 + if_there c) (N t)) (good_ending (2 + if_there c) (N t) (good t)))
  good (project_by t u) = good_ending 1 (notes.and locating (N t) (past 2 (N u))) (good_and (N t) (past 2 (N u)) (good t) (good_past 2 (N u) (good u)))
  good (natural i) = good_marks 1
  good (integer z) = good_marks 1
  good (truth b) = good_marks 1
  good (builtin b) = good_marks 1
  good (variable w i) = good_marks (1 + notes.index_len i)
  good (text f cs) = good_ending 1 (past 1 (notes.chunks_notes locating cs)) (good_past 1 (notes.chunks_notes locating cs) (good_chunks cs))
  good (brackets e) = good_ending 1 (past 1 (N e)) (good_past 1 (N e) (good e))
  good (list c is d) = good_fenced c d (notes.items_notes locating is) (good_items is)
  good (union_none c) = good_marks (2 + if_there c)
  good (union c as' d) = good_fenced c d (notes.in_order locating (notes.alternatives_notes locating as')) (good_in_order (notes.alternatives_notes locating as') (good_alternatives as'))
  good (record_type_none c) = good_marks (2 + if_there c)
  good (record_type c fs d) = good_fenced c d (notes.in_order locating (notes.fields_notes locating fs)) (good_in_order (notes.fields_notes locating fs) (good_fields fs))
  good (record_none c d) = good_marks (3 + if_there c + if_there d)
  good (record_of c es d) = good_fenced c d (notes.stands_in_order locating (notes.entries_notes locating es)) (good_stands (notes.entries_notes locating es) (good_entries es))

  good_note : (a : Note) → Good (note a)
  good_note untyped = good_marks 0
  good_note (typed t) = good_past 1 (N t) (good t)

  good_lets : (ls : Lets) → GoodPendings (notes.lets_notes locating ls)
  good_lets (one_let w t v) = good_pending (notes.no_pendings locating) (notes.and locating (past 2 (note t)) (past 1 (N v))) good_no_pendings (good_two 2 1 (note t) (N v) (good_note t) (good v))
  good_lets (more_lets ls w t v) = good_pending (notes.lets_notes locating ls) (notes.and locating (past 2 (note t)) (past 1 (N v))) (good_lets ls) (good_two 2 1 (note t) (N v) (good_note t) (good v))

  good_updates : (us : Updates) → Good (notes.updates_notes locating us)
  good_updates (one_update t ks v) = good_updated (N t) (N v) ks (good t) (good v)
  good_updates (more_updates us ks v) = good_updated (notes.updates_notes locating us) (N v) ks (good_updates us) (good v)

  good_chunks : (cs : Chunks) → Good (notes.chunks_notes locating cs)
  good_chunks (start p) = good_marks (piece_len p)
  good_chunks (more_chunks cs e p) =
      good_ending (1 + piece_len p) (notes.and locating (notes.chunks_notes locating cs) (past 1 (N e))) (good_and (notes.chunks_notes locating cs) (past 1 (N e)) (good_chunks cs) (good_past 1 (N e) (good e)))

  good_items : (is : Items) → Good (notes.items_notes locating is)
  good_items (one_item e) = good e
  good_items (more_items is e) = good_and (notes.items_notes locating is) (past 1 (N e)) (good_items is) (good_past 1 (N e) (good e))

  good_alternatives : (as' : Alternatives) → GoodRows (notes.alternatives_notes locating as')
  good_alternatives (one_alternative k t) = good_row no_rows (key_label k) (past 1 (note t)) good_no_rows (good_past 1 (note t) (good_note t))
  good_alternatives (more_alternatives as' k t) =
      good_row (ending 1 (notes.alternatives_notes locating as')) (key_label k) (past 1 (note t)) (good_rows_ending 1 (notes.alternatives_notes locating as') (good_alternatives as')) (good_past 1 (note t) (good_note t))

  good_fields : (fs : Fields) → GoodRows (notes.fields_notes locating fs)
  good_fields (one_field k t) = good_row no_rows (key_label k) (past 2 (N t)) good_no_rows (good_past 2 (N t) (good t))
  good_fields (more_fields fs k t) =
      good_row (ending 1 (notes.fields_notes locating fs)) (key_label k) (past 2 (N t)) (good_rows_ending 1 (notes.fields_notes locating fs) (good_fields fs)) (good_past 2 (N t) (good t))

  good_entry : (e : Entry) → GoodEntry (notes.entry_notes locating e)
  good_entry (alone k) = good_alone k
  good_entry (given ks v) = good_given ks (N v) (good v)

  good_entries : (es : Entries) → GoodStands (notes.entries_notes locating es)
  good_entries (one_entry e) = good_stand (notes.no_stands locating) (notes.entry_notes locating e) good_no_stands (good_entry e)
  good_entries (more_entries es e) =
      good_stand (ending 1 (notes.entries_notes locating es)) (notes.entry_notes locating e) (good_stands_ending 1 (notes.entries_notes locating es) (good_entries es)) (good_entry e)
