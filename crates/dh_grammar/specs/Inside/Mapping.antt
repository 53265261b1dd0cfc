-- Maps between what two machines make, and the states that they carry over.
use Rattle.std.specs.Prelude.{◌≡◌, ℕ, ℤ, Bool, List, [], ◌∷◌, Option}
use Rattle.dh_syntax.specs.declared.locations.Digest.{Digest}
use Rattle.dh_syntax.specs.declared.locations.Mode.{Mode}
use Rattle.dh_syntax.specs.declared.operators.BinOp.{BinOp}
use Rattle.dh_syntax.specs.declared.operators.Builtin.{Builtin}
use Rattle.dh_syntax.specs.declared.tokens.TextForm.{TextForm}
use Rattle.dh_syntax.specs.Text.Derivation.{NameToken, Key, Keys, ImportType}
use Rattle.dh_syntax.specs.Text.Derived.{among}
use Rattle.dh_syntax.specs.Expressions.Tree.{Name}
use Rattle.dh_grammar.specs.Making.{Sorts, Making}
use Rattle.dh_grammar.specs.Machine.{Open, Front, Shut, Held, Wait, Stack, State, left, applied, merged, somed, mapped, update, body, target, otherwise, bound, noted, emptied, asserted, opening, behind, bracket, domain, condition, branch, let_type, let_value, selected, first, items, alternative_type, field_type, entry_value, chunk, «open», shut, named, imported, ready, quantifier, quantified, quantity, domained, asserting, letting, lettered, with_start, with_keys, with_dot, indexed, moded, dotted, projecting, projected, projected_comma, empty, union_start, alternative, alternative_bar, record_start, record_equals, field_comma, field_key, entry_comma, entry_keys, entry_dot, text_front, text_piece, need, have, wait, done, stopped}
use Rattle.dh_grammar.specs.Making.{option_map}

-- a map for each kind of part
pub record Mapping (K L : Sorts) : Type 0 where
  pub tree : K.tree → L.tree
  pub note : K.note → L.note
  pub lets : K.lets → L.lets
  pub chunks : K.chunks → L.chunks
  pub items : K.items → L.items
  pub alternatives : K.alternatives → L.alternatives
  pub fields : K.fields → L.fields
  pub entry : K.entry → L.entry
  pub entries : K.entries → L.entries

-- the maps carry what the first machine makes over to what the second makes, with the same levels and labels
pub record Carries {K L : Sorts} (m : Making K) (n : Making L) (f : Mapping K L) : Type 0 where
  pub binds : (x : K.tree) → n.binds (f.tree x) ≡ m.binds x
  pub field_labels : (x : Name) (fs : K.fields) → among x (n.field_labels (f.fields fs)) ≡ among x (m.field_labels fs)
  pub alternative_labels : (x : Name) (as' : K.alternatives) → among x (n.alternative_labels (f.alternatives as')) ≡ among x (m.alternative_labels as')
  pub natural : (i : ℕ) → f.tree (m.natural i) ≡ n.natural i
  pub integer : (z : ℤ) → f.tree (m.integer z) ≡ n.integer z
  pub truth : (b : Bool) → f.tree (m.truth b) ≡ n.truth b
  pub builtin : (b : Builtin) → f.tree (m.builtin b) ≡ n.builtin b
  pub variable : (w : NameToken) (i : Option ℕ) → f.tree (m.variable w i) ≡ n.variable w i
  pub import : (i : ImportType) (d : Option Digest) (u : Mode) → f.tree (m.import i d u) ≡ n.import i d u
  pub operation : (o : BinOp) (l : K.tree) (r : K.tree) → f.tree (m.operation o l r) ≡ n.operation o (f.tree l) (f.tree r)
  pub application : (x : K.tree) (y : K.tree) → f.tree (m.application x y) ≡ n.application (f.tree x) (f.tree y)
  pub merging : (x : K.tree) (y : K.tree) → f.tree (m.merging x y) ≡ n.merging (f.tree x) (f.tree y)
  pub some_of : (x : K.tree) → f.tree (m.some_of x) ≡ n.some_of (f.tree x)
  pub to_map : (x : K.tree) → f.tree (m.to_map x) ≡ n.to_map (f.tree x)
  pub updating : (x : K.tree) (ks : Keys) (v : K.tree) → f.tree (m.updating x ks v) ≡ n.updating (f.tree x) ks (f.tree v)
  pub quantify : (b : Bool) (w : NameToken) (x : K.tree) (y : K.tree) → f.tree (m.quantify b w x y) ≡ n.quantify b w (f.tree x) (f.tree y)
  pub arrow : (x : K.tree) (y : K.tree) → f.tree (m.arrow x y) ≡ n.arrow (f.tree x) (f.tree y)
  pub choice : (x : K.tree) (y : K.tree) (z : K.tree) → f.tree (m.choice x y z) ≡ n.choice (f.tree x) (f.tree y) (f.tree z)
  pub lets : (ls : K.lets) (x : K.tree) → f.tree (m.lets ls x) ≡ n.lets (f.lets ls) (f.tree x)
  pub noting : (x : K.tree) (y : K.tree) → f.tree (m.noting x y) ≡ n.noting (f.tree x) (f.tree y)
  pub empty_list : (c : Bool) (x : K.tree) → f.tree (m.empty_list c x) ≡ n.empty_list c (f.tree x)
  pub assertion : (x : K.tree) → f.tree (m.assertion x) ≡ n.assertion (f.tree x)
  pub brackets : (x : K.tree) → f.tree (m.brackets x) ≡ n.brackets (f.tree x)
  pub field : (x : K.tree) (k : Key) → f.tree (m.field x k) ≡ n.field (f.tree x) k
  pub project_none : (x : K.tree) (c : Bool) → f.tree (m.project_none x c) ≡ n.project_none (f.tree x) c
  pub project : (x : K.tree) (c : Bool) (ks : Keys) (d : Bool) → f.tree (m.project x c ks d) ≡ n.project (f.tree x) c ks d
  pub project_by : (x : K.tree) (y : K.tree) → f.tree (m.project_by x y) ≡ n.project_by (f.tree x) (f.tree y)
  pub text : (t : TextForm) (cs : K.chunks) → f.tree (m.text t cs) ≡ n.text t (f.chunks cs)
  pub list : (c : Bool) (is : K.items) (d : Bool) → f.tree (m.list c is d) ≡ n.list c (f.items is) d
  pub union_none : (c : Bool) → f.tree (m.union_none c) ≡ n.union_none c
  pub union : (c : Bool) (as' : K.alternatives) (d : Bool) → f.tree (m.union c as' d) ≡ n.union c (f.alternatives as') d
  pub record_type_none : (c : Bool) → f.tree (m.record_type_none c) ≡ n.record_type_none c
  pub record_type : (c : Bool) (fs : K.fields) (d : Bool) → f.tree (m.record_type c fs d) ≡ n.record_type c (f.fields fs) d
  pub record_none : (c : Bool) (d : Bool) → f.tree (m.record_none c d) ≡ n.record_none c d
  pub record_of : (c : Bool) (es : K.entries) (d : Bool) → f.tree (m.record_of c es d) ≡ n.record_of c (f.entries es) d
  pub untyped : f.note (m.untyped) ≡ n.untyped
  pub typed : (x : K.tree) → f.note (m.typed x) ≡ n.typed (f.tree x)
  pub add_let : (ls : Option (K.lets)) (w : NameToken) (a : K.note) (x : K.tree) → f.lets (m.add_let ls w a x) ≡ n.add_let (option_map f.lets ls) w (f.note a) (f.tree x)
  pub start : (p : Option (List ℕ)) → f.chunks (m.start p) ≡ n.start p
  pub more_chunks : (cs : K.chunks) (x : K.tree) (p : Option (List ℕ)) → f.chunks (m.more_chunks cs x p) ≡ n.more_chunks (f.chunks cs) (f.tree x) p
  pub add_item : (is : Option (K.items)) (x : K.tree) → f.items (m.add_item is x) ≡ n.add_item (option_map f.items is) (f.tree x)
  pub add_alternative : (as' : Option (K.alternatives)) (k : Key) (a : K.note) → f.alternatives (m.add_alternative as' k a) ≡ n.add_alternative (option_map f.alternatives as') k (f.note a)
  pub add_field : (fs : Option (K.fields)) (k : Key) (x : K.tree) → f.fields (m.add_field fs k x) ≡ n.add_field (option_map f.fields fs) k (f.tree x)
  pub alone : (k : Key) → f.entry (m.alone k) ≡ n.alone k
  pub given : (ks : Keys) (x : K.tree) → f.entry (m.given ks x) ≡ n.given ks (f.tree x)
  pub add_entry : (es : Option (K.entries)) (e : K.entry) → f.entries (m.add_entry es e) ≡ n.add_entry (option_map f.entries es) (f.entry e)

module _ {K L : Sorts} (f : Mapping K L) where
  abbrev pub map_open : Open K → Open L
  map_open (left a b) = left (f.tree a) b
  map_open (applied a) = applied (f.tree a)
  map_open (merged a) = merged (f.tree a)
  map_open somed = somed
  map_open mapped = mapped
  map_open (update a b) = update (f.tree a) b
  map_open (body a b c) = body a b (f.tree c)
  map_open (target a) = target (f.tree a)
  map_open (otherwise a b) = otherwise (f.tree a) (f.tree b)
  map_open (bound a) = bound (f.lets a)
  map_open (noted a) = noted (f.tree a)
  map_open (emptied a) = emptied a
  map_open asserted = asserted

  abbrev pub map_front : Front K → Front L
  map_front opening = opening
  map_front (behind a b) = behind (f.chunks a) (f.tree b)

  abbrev pub map_shut : Shut K → Shut L
  map_shut bracket = bracket
  map_shut (domain a b) = domain a b
  map_shut condition = condition
  map_shut (branch a) = branch (f.tree a)
  map_shut (let_type a b) = let_type (option_map f.lets a) b
  map_shut (let_value a b c) = let_value (option_map f.lets a) b (f.note c)
  map_shut (selected a) = selected (f.tree a)
  map_shut first = first
  map_shut (items a b) = items a (option_map f.items b)
  map_shut (alternative_type a b c) = alternative_type a (option_map f.alternatives b) c
  map_shut (field_type a b c) = field_type a (option_map f.fields b) c
  map_shut (entry_value a b c) = entry_value a (option_map f.entries b) c
  map_shut (chunk a b) = chunk a (f.chunks b)

  abbrev pub map_held : Held K → Held L
  map_held (named a) = named a
  map_held (imported a b) = imported a b
  map_held (ready a) = ready (f.tree a)

  abbrev pub map_wait : Wait K → Wait L
  map_wait (quantifier a) = quantifier a
  map_wait (quantified a) = quantified a
  map_wait (quantity a b) = quantity a b
  map_wait (domained a b c) = domained a b (f.tree c)
  map_wait asserting = asserting
  map_wait (letting a) = letting (option_map f.lets a)
  map_wait (lettered a b) = lettered (option_map f.lets a) b
  map_wait (with_start a) = with_start (f.tree a)
  map_wait (with_keys a b) = with_keys (f.tree a) b
  map_wait (with_dot a b) = with_dot (f.tree a) b
  map_wait (indexed a) = indexed a
  map_wait (moded a b) = moded a b
  map_wait (dotted a) = dotted (f.tree a)
  map_wait (projecting a b) = projecting (f.tree a) b
  map_wait (projected a b c) = projected (f.tree a) b c
  map_wait (projected_comma a b c) = projected_comma (f.tree a) b c
  map_wait (empty a) = empty a
  map_wait (union_start a) = union_start a
  map_wait (alternative a b c) = alternative a (option_map f.alternatives b) c
  map_wait (alternative_bar a b) = alternative_bar a (f.alternatives b)
  map_wait (record_start a) = record_start a
  map_wait (record_equals a b) = record_equals a b
  map_wait (field_comma a b) = field_comma a (f.fields b)
  map_wait (field_key a b c) = field_key a (f.fields b) c
  map_wait (entry_comma a b) = entry_comma a (f.entries b)
  map_wait (entry_keys a b c) = entry_keys a (option_map f.entries b) c
  map_wait (entry_dot a b c) = entry_dot a (option_map f.entries b) c
  map_wait (text_front a b) = text_front a (map_front b)
  map_wait (text_piece a b) = text_piece a (f.chunks b)

  abbrev pub map_stack : Stack K → Stack L
  map_stack [] = []
  map_stack («open» f ∷ st) = «open» (map_open f) ∷ map_stack st
  map_stack (shut f ∷ st) = shut (map_shut f) ∷ map_stack st

  abbrev pub map_state : State K → State L
  map_state (need a) = need (map_stack a)
  map_state (have a b) = have (map_stack a) (map_held b)
  map_state (wait a b) = wait (map_wait a) (map_stack b)
  map_state (done a) = done (f.tree a)
  map_state stopped = stopped
