-- Where the parts of a state stand among the tokens that are read, and what the machine that notes places makes of them there.
use Rattle.std.specs.Prelude.{ℕ, suc, ◌+◌, Bool, [], ◌∷◌, Option, Some, None}
use Rattle.dh_syntax.specs.Text.Derivation.{Derivation, Note, untyped, typed, Lets, Chunks, Items, Alternatives, Fields, Entries}
use Rattle.dh_syntax.specs.Text.Derived.{binds, is_special}
use Rattle.dh_syntax.specs.Text.Noting as noting
use Rattle.dh_syntax.specs.Text.Noting.{Noting, skip, if_there, keys_len, digest_len, note_notes, lets_notes, chunks_notes, items_notes, alternatives_notes, fields_notes, entries_notes}
use Rattle.dh_grammar.specs.Machine as machine
use Rattle.dh_grammar.specs.Machine.{left, applied, merged, somed, mapped, update, body, target, otherwise, bound, noted, emptied, asserted, opening, behind, bracket, domain, condition, branch, let_type, let_value, selected, first, items, alternative_type, field_type, entry_value, chunk, «open», shut, named, imported, ready, quantifier, quantified, quantity, domained, asserting, letting, lettered, with_start, with_keys, with_dot, indexed, moded, dotted, projecting, projected, projected_comma, empty, union_start, alternative, alternative_bar, record_start, record_equals, field_comma, field_key, entry_comma, entry_keys, entry_dot, text_front, text_piece, need, have, wait, done, stopped}
use Rattle.dh_grammar.specs.Placing.{Placed, Row, PlacedLets, PlacedRows, PlacedEntries, place_sorts}
use Rattle.dh_grammar.specs.Trees.{Open, Front, Shut, Held, Wait, Stack, State}

-- behind a bracket, and a comma where it is there
abbrev pub inside : Bool → ℕ → ℕ
inside c i = suc (skip (if_there c) i)

-- a function that knows an offset, on what is there if anything is
abbrev pub some_at : {X Y : Type 0} → (ℕ → X → Y) → ℕ → Option X → Option Y
some_at f i None = None
some_at f i (Some x) = Some (f i x)

module _ (notes : Noting) where
  -- ---- the token behind a part that begins at the one of this number

  abbrev pub end : Derivation → ℕ → ℕ
  end d i = (noting.noted notes d i).1

  abbrev pub note_end : Note → ℕ → ℕ
  note_end a i = (note_notes notes a i).1

  abbrev pub lets_end : Option Lets → ℕ → ℕ
  lets_end None i = i
  lets_end (Some ls) i = (lets_notes notes ls i).1

  abbrev pub chunks_end : Chunks → ℕ → ℕ
  chunks_end cs i = (chunks_notes notes cs i).1

  -- the same of parts with marks between them: where the next one begins
  abbrev pub next_item : Option Items → ℕ → ℕ
  next_item None i = i
  next_item (Some is) i = suc (items_notes notes is i).1

  abbrev pub next_alternative : Option Alternatives → ℕ → ℕ
  next_alternative None i = i
  next_alternative (Some as') i = suc (alternatives_notes notes as' i).1

  abbrev pub next_field : Option Fields → ℕ → ℕ
  next_field None i = i
  next_field (Some fs) i = suc (fields_notes notes fs i).1

  abbrev pub next_entry : Option Entries → ℕ → ℕ
  next_entry None i = i
  next_entry (Some es) i = suc (entries_notes notes es i).1

  -- ---- where the operand in a place begins

  abbrev pub open_place : Open → ℕ → ℕ
  open_place (left l o) i = suc (end l i)
  open_place (applied f) i = end f i
  open_place (merged t) i = end t (suc i)
  open_place somed i = suc i
  open_place mapped i = suc i
  open_place (update x ks) i = suc (skip (keys_len ks) (suc (end x i)))
  open_place (body b w a) i = skip 2 (end a (skip 4 i))
  open_place (target a) i = suc (end a i)
  open_place (otherwise p t) i = suc (end t (suc (end p (suc i))))
  open_place (bound ls) i = suc (lets_end (Some ls) i)
  open_place (noted t) i = suc (end t i)
  open_place (emptied c) i = suc (suc (inside c i))
  open_place asserted i = skip 2 i

  abbrev pub shut_place : Shut → ℕ → ℕ
  shut_place bracket i = suc i
  shut_place (domain b w) i = skip 4 i
  shut_place condition i = suc i
  shut_place (branch p) i = suc (end p (suc i))
  shut_place (let_type ls w) i = skip 3 (lets_end ls i)
  shut_place (let_value ls w a) i = suc (note_end a (skip 2 (lets_end ls i)))
  shut_place (selected x) i = skip 2 (end x i)
  shut_place first i = suc i
  shut_place (items c is) i = next_item is (inside c i)
  shut_place (alternative_type c as' k) i = skip 2 (next_alternative as' (inside c i))
  shut_place (field_type c fs k) i = skip 2 (next_field fs (inside c i))
  shut_place (entry_value c es ks) i = suc (skip (keys_len ks) (next_entry es (inside c i)))
  shut_place (chunk f cs) i = suc (chunks_end cs (suc i))

  abbrev pub place : Stack → ℕ
  place [] = 0
  place («open» f ∷ st) = open_place f (place st)
  place (shut f ∷ st) = shut_place f (place st)

  -- ---- how many tokens are read

  abbrev pub held_end : Held → ℕ → ℕ
  held_end (named w) i = suc i
  held_end (imported u d) i = skip (1 + digest_len d) i
  held_end (ready x) i = end x i

  abbrev pub front_end : Front → ℕ → ℕ
  front_end opening i = i
  front_end (behind cs e) i = suc (end e (suc (chunks_end cs i)))

  abbrev pub wait_end : Wait → ℕ → ℕ
  wait_end (quantifier b) i = suc i
  wait_end (quantified b) i = skip 2 i
  wait_end (quantity b w) i = skip 3 i
  wait_end (domained b w a) i = suc (end a (skip 4 i))
  wait_end asserting i = suc i
  wait_end (letting ls) i = suc (lets_end ls i)
  wait_end (lettered ls w) i = skip 2 (lets_end ls i)
  wait_end (with_start x) i = suc (end x i)
  wait_end (with_keys x ks) i = skip (keys_len ks) (suc (end x i))
  wait_end (with_dot x ks) i = suc (skip (keys_len ks) (suc (end x i)))
  wait_end (indexed w) i = skip 2 i
  wait_end (moded u d) i = suc (skip (1 + digest_len d) i)
  wait_end (dotted x) i = suc (end x i)
  wait_end (projecting x c) i = skip (2 + if_there c) (end x i)
  wait_end (projected x c ks) i = skip (keys_len ks) (skip (2 + if_there c) (end x i))
  wait_end (projected_comma x c ks) i = suc (skip (keys_len ks) (skip (2 + if_there c) (end x i)))
  wait_end (empty c) i = suc (inside c i)
  wait_end (union_start c) i = inside c i
  wait_end (alternative c as' k) i = suc (next_alternative as' (inside c i))
  wait_end (alternative_bar c as') i = next_alternative (Some as') (inside c i)
  wait_end (record_start c) i = inside c i
  wait_end (record_equals c d) i = skip (if_there d) (suc (inside c i))
  wait_end (field_comma c fs) i = next_field (Some fs) (inside c i)
  wait_end (field_key c fs k) i = suc (next_field (Some fs) (inside c i))
  wait_end (entry_comma c es) i = next_entry (Some es) (inside c i)
  wait_end (entry_keys c es ks) i = skip (keys_len ks) (next_entry es (inside c i))
  wait_end (entry_dot c es ks) i = suc (skip (keys_len ks) (next_entry es (inside c i)))
  wait_end (text_front f cs) i = front_end cs (suc i)
  wait_end (text_piece f cs) i = chunks_end cs (suc i)

  abbrev pub count : State → ℕ
  count (need st) = place st
  count (have st h) = held_end h (place st)
  count (wait w st) = wait_end w (place st)
  count (done x) = suc (end x 0)
  count stopped = 0

  -- ---- the parts there

  abbrev pub tree_at : ℕ → Derivation → (Placed notes)
  tree_at i d = record { first = i; last = end d i; nodes = (noting.noted notes d i).0; level = binds d; special = is_special d }

  abbrev pub note_at : ℕ → Note → Option (Row notes)
  note_at i untyped = None
  note_at i (typed a) = Some (record { first = suc i; nodes = (noting.noted notes a (suc i)).0 })

  abbrev pub lets_at : ℕ → Lets → (PlacedLets notes)
  lets_at i ls = record { first = i; pendings = (lets_notes notes ls i).0 }

  abbrev pub chunks_at : ℕ → Chunks → (Row notes)
  chunks_at i cs = record { first = i; nodes = (chunks_notes notes cs i).0 }

  abbrev pub items_at : ℕ → Items → (Row notes)
  items_at i is = record { first = i; nodes = (items_notes notes is i).0 }

  abbrev pub alternatives_at : ℕ → Alternatives → (PlacedRows notes)
  alternatives_at i as' = record { first = i; rows = (alternatives_notes notes as' i).0 }

  abbrev pub fields_at : ℕ → Fields → (PlacedRows notes)
  fields_at i fs = record { first = i; rows = (fields_notes notes fs i).0 }

  abbrev pub entries_at : ℕ → Entries → (PlacedEntries notes)
  entries_at i es = record { first = i; rows = (entries_notes notes es i).0 }

  abbrev pub open_at : ℕ → Open → machine.Open (place_sorts notes)
  open_at i (left l o) = left (tree_at i l) o
  open_at i (applied f) = applied (tree_at i f)
  open_at i (merged t) = merged (tree_at (suc i) t)
  open_at i somed = somed
  open_at i mapped = mapped
  open_at i (update x ks) = update (tree_at i x) ks
  open_at i (body b w a) = body b w (tree_at (skip 4 i) a)
  open_at i (target a) = target (tree_at i a)
  open_at i (otherwise p t) = otherwise (tree_at (suc i) p) (tree_at (suc (end p (suc i))) t)
  open_at i (bound ls) = bound (lets_at i ls)
  open_at i (noted t) = noted (tree_at i t)
  open_at i (emptied c) = emptied c
  open_at i asserted = asserted

  abbrev pub front_at : ℕ → Front → machine.Front (place_sorts notes)
  front_at i opening = opening
  front_at i (behind cs e) = behind (chunks_at i cs) (tree_at (suc (chunks_end cs i)) e)

  abbrev pub shut_at : ℕ → Shut → machine.Shut (place_sorts notes)
  shut_at i bracket = bracket
  shut_at i (domain b w) = domain b w
  shut_at i condition = condition
  shut_at i (branch p) = branch (tree_at (suc i) p)
  shut_at i (let_type ls w) = let_type (some_at lets_at i ls) w
  shut_at i (let_value ls w a) = let_value (some_at lets_at i ls) w (note_at (skip 2 (lets_end ls i)) a)
  shut_at i (selected x) = selected (tree_at i x)
  shut_at i first = first
  shut_at i (items c is) = items c (some_at items_at (inside c i) is)
  shut_at i (alternative_type c as' k) = alternative_type c (some_at alternatives_at (inside c i) as') k
  shut_at i (field_type c fs k) = field_type c (some_at fields_at (inside c i) fs) k
  shut_at i (entry_value c es ks) = entry_value c (some_at entries_at (inside c i) es) ks
  shut_at i (chunk f cs) = chunk f (chunks_at (suc i) cs)

  abbrev pub held_at : ℕ → Held → machine.Held (place_sorts notes)
  held_at i (named w) = named w
  held_at i (imported u d) = imported u d
  held_at i (ready x) = ready (tree_at i x)

  abbrev pub wait_at : ℕ → Wait → machine.Wait (place_sorts notes)
  wait_at i (quantifier b) = quantifier b
  wait_at i (quantified b) = quantified b
  wait_at i (quantity b w) = quantity b w
  wait_at i (domained b w a) = domained b w (tree_at (skip 4 i) a)
  wait_at i asserting = asserting
  wait_at i (letting ls) = letting (some_at lets_at i ls)
  wait_at i (lettered ls w) = lettered (some_at lets_at i ls) w
  wait_at i (with_start x) = with_start (tree_at i x)
  wait_at i (with_keys x ks) = with_keys (tree_at i x) ks
  wait_at i (with_dot x ks) = with_dot (tree_at i x) ks
  wait_at i (indexed w) = indexed w
  wait_at i (moded u d) = moded u d
  wait_at i (dotted x) = dotted (tree_at i x)
  wait_at i (projecting x c) = projecting (tree_at i x) c
  wait_at i (projected x c ks) = projected (tree_at i x) c ks
  wait_at i (projected_comma x c ks) = projected_comma (tree_at i x) c ks
  wait_at i (empty c) = empty c
  wait_at i (union_start c) = union_start c
  wait_at i (alternative c as' k) = alternative c (some_at alternatives_at (inside c i) as') k
  wait_at i (alternative_bar c as') = alternative_bar c (alternatives_at (inside c i) as')
  wait_at i (record_start c) = record_start c
  wait_at i (record_equals c d) = record_equals c d
  wait_at i (field_comma c fs) = field_comma c (fields_at (inside c i) fs)
  wait_at i (field_key c fs k) = field_key c (fields_at (inside c i) fs) k
  wait_at i (entry_comma c es) = entry_comma c (entries_at (inside c i) es)
  wait_at i (entry_keys c es ks) = entry_keys c (some_at entries_at (inside c i) es) ks
  wait_at i (entry_dot c es ks) = entry_dot c (some_at entries_at (inside c i) es) ks
  wait_at i (text_front f cs) = text_front f (front_at (suc i) cs)
  wait_at i (text_piece f cs) = text_piece f (chunks_at (suc i) cs)

  abbrev pub stack_at : Stack → machine.Stack (place_sorts notes)
  stack_at [] = []
  stack_at («open» f ∷ st) = «open» (open_at (place st) f) ∷ stack_at st
  stack_at (shut f ∷ st) = shut (shut_at (place st) f) ∷ stack_at st

  abbrev pub located : State → machine.State (place_sorts notes)
  located (need st) = need (stack_at st)
  located (have st h) = have (stack_at st) (held_at (place st) h)
  located (wait w st) = wait (wait_at (place st) w) (stack_at st)
  located (done x) = done (tree_at 0 x)
  located stopped = stopped
