-- Maps between what two machines make, and the states that they carry over.
use Rattle.std.specs.Prelude.{◌≡◌, List, map, Option, Some, None}
use Rattle.dh_syntax.specs.declared.expressions.Op.{Op}
use Rattle.dh_syntax.specs.Expressions.Tree.{Name, Var}
use Rattle.dh_binary.specs.Machine.{Making, Entry, Value, nothing, holds, called, counted, indexed, signed, coded, by, hashed, taken, queried, names, entries, Binding, Place, first, finished, applying, operands, binder, quantify, operating, emptied, skipping, rowing, selecting, selected, projecting, projected, labelled, numeral, signed_numeral, piece, between, importing, moding, locating, components, headers, hosting, segments, environment, let_name, let_type, let_value, updating, update_path, update_value, indexing, labels, boxing, key, value, Frame, State, reading, done, stopped}

-- a function applied to what may be there
abbrev pub option_map : {A B : Type 0} → (A → B) → Option A → Option B
option_map f None = None
option_map f (Some a) = Some (f a)

-- the map carries what the first machine makes over to what the second makes
pub record Carries {A B : Type 0} (m : Making A) (n : Making B) (f : A → B) : Type 0 where
  pub leaf : (v : Var) → f (m.leaf v) ≡ n.leaf v
  pub node : (op : Op) (es : List A) → f (m.node op es) ≡ n.node op (map f es)
  pub under : (op : Op) (es : List A) (x : Name) (e : A) → f (m.under op es x e) ≡ n.under op (map f es) x (f e)

module _ {A B : Type 0} (f : A → B) where
  abbrev pub map_entry : Entry A → Entry B
  map_entry e = record { name = e.name; value = option_map f e.value }

  abbrev pub map_binding : Binding A → Binding B
  map_binding b = record { name = b.name; type = option_map f b.type; value = f b.value }

  abbrev pub map_value : Value A → Value B
  map_value nothing = nothing
  map_value (holds t) = holds (f t)
  map_value (called x) = called x
  map_value (counted n) = counted n
  map_value (indexed n) = indexed n
  map_value (signed z) = signed z
  map_value (coded n k) = coded n k
  map_value (by o) = by o
  map_value (hashed d) = hashed d
  map_value (taken how) = taken how
  map_value (queried q) = queried q
  map_value (names ks) = names ks
  map_value (entries es) = entries (map map_entry es)

  abbrev pub map_place : Place A → Place B
  map_place first = first
  map_place (finished t) = finished (f t)
  map_place (applying t) = applying (option_map f t)
  map_place (operands op es) = operands op (map f es)
  map_place (binder op) = binder op
  map_place (quantify op x t) = quantify op x (option_map f t)
  map_place operating = operating
  map_place emptied = emptied
  map_place (skipping op) = skipping op
  map_place (rowing k) = rowing k
  map_place selecting = selecting
  map_place (selected t) = selected (f t)
  map_place projecting = projecting
  map_place (projected t) = projected (f t)
  map_place (labelled t xs) = labelled (f t) xs
  map_place numeral = numeral
  map_place signed_numeral = signed_numeral
  map_place (piece ps es) = piece ps (map f es)
  map_place (between ps es) = between ps (map f es)
  map_place importing = importing
  map_place (moding d) = moding d
  map_place (locating h) = locating h
  map_place (components h k cs) = components h k cs
  map_place (headers h s) = headers h s
  map_place (hosting h s) = hosting h s
  map_place (segments h s host cs) = segments h s host cs
  map_place (environment h) = environment h
  map_place (let_name bs) = let_name (map map_binding bs)
  map_place (let_type bs x) = let_type (map map_binding bs) x
  map_place (let_value bs x t) = let_value (map map_binding bs) x (option_map f t)
  map_place updating = updating
  map_place (update_path e) = update_path (f e)
  map_place (update_value e ks) = update_value (f e) ks
  map_place (indexing x) = indexing x
  map_place (labels ks) = labels ks
  map_place boxing = boxing
  map_place (key nulls es) = key nulls (map map_entry es)
  map_place (value nulls es x) = value nulls (map map_entry es) x

  abbrev pub map_frame : Frame A → Frame B
  map_frame g = record { place = map_place g.place; left = g.left }

  abbrev pub map_state : State A → State B
  map_state (reading w st) = reading w (map map_frame st)
  map_state (done v) = done (map_value v)
  map_state stopped = stopped
