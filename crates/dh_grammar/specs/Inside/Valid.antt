-- What holds of the states that the machine reaches.
use Rattle.std.specs.Prelude.{ℕ, ◌≤◌, not, Bool, true, [], ◌∷◌, Option, Some, None, IsTrue, ⊤}
use Rattle.dh_syntax.specs.Text.Derivation.{key_label, Derivation, updates, Lets, Items, Alternatives, Fields, Entries, Key}
use Rattle.dh_syntax.specs.Text.Derived.{binds, distinct, among, field_labels, alternative_labels, derived, note_derived, lets_derived, chunks_derived, items_derived, alternatives_derived, fields_derived, entries_derived, is_imp}
use Rattle.dh_syntax.specs.Expressions.Levels.{left_level}
use Rattle.dh_grammar.specs.Machine.{left, applied, merged, somed, mapped, update, body, target, otherwise, bound, noted, emptied, asserted, opening, behind, bracket, domain, condition, branch, let_type, let_value, selected, first, items, alternative_type, field_type, entry_value, chunk, «open», shut, quantifier, quantified, quantity, domained, asserting, letting, lettered, with_start, with_keys, with_dot, moded, dotted, projecting, projected, projected_comma, empty, alternative, alternative_bar, field_comma, field_key, entry_comma, entry_keys, entry_dot, text_front, text_piece, need, have, wait, done, stopped}
use Rattle.dh_grammar.specs.Trees.{Open, Front, Shut, finish, Wait, Stack, State, least, level, shut_level}

-- the tree is one that the grammar derives
abbrev pub D : Derivation → Type 0
D x = IsTrue (derived x)

-- what may stand before `with`
abbrev pub is_base : Derivation → Bool
is_base (updates us) = true
is_base x = is_imp x

-- the parts of an open frame are derived, and bind as tightly as their places ask
abbrev pub OpenOk : Open → Type 0
OpenOk (left l o) = D l × (left_level o ≤ binds l)
OpenOk (applied f) = D f × (14 ≤ binds f)
OpenOk (merged t) = D t × (15 ≤ binds t)
OpenOk somed = ⊤
OpenOk mapped = ⊤
OpenOk (update x ks) = D x × IsTrue (is_base x)
OpenOk (body b w a) = D a
OpenOk (target a) = D a × (1 ≤ binds a)
OpenOk (otherwise p t) = D p × D t
OpenOk (bound ls) = IsTrue (lets_derived ls)
OpenOk (noted t) = D t × (1 ≤ binds t)
OpenOk (emptied c) = ⊤
OpenOk asserted = ⊤

-- the bindings so far are derived
abbrev pub LetsOk : Option Lets → Type 0
LetsOk None = ⊤
LetsOk (Some ls) = IsTrue (lets_derived ls)

-- the items so far are derived
abbrev pub ItemsOk : Option Items → Type 0
ItemsOk None = ⊤
ItemsOk (Some is) = IsTrue (items_derived is)

-- the entries so far are derived
abbrev pub EntriesOk : Option Entries → Type 0
EntriesOk None = ⊤
EntriesOk (Some es) = IsTrue (entries_derived es)

-- the label is new among them
abbrev pub AlternativesOk : Option Alternatives → Key → Type 0
AlternativesOk None k = ⊤
AlternativesOk (Some as') k = IsTrue (alternatives_derived as') × IsTrue (not (among (key_label k) (alternative_labels as')))

-- the fields so far are derived, and the label is new among them
abbrev pub FieldsOk : Option Fields → Key → Type 0
FieldsOk None k = ⊤
FieldsOk (Some fs) k = IsTrue (fields_derived fs) × IsTrue (not (among (key_label k) (field_labels fs)))

-- the chunks and the interpolation so far are derived
abbrev pub FrontOk : Front → Type 0
FrontOk opening = ⊤
FrontOk (behind cs e) = IsTrue (chunks_derived cs) × D e

-- the parts of a frame that a token ends are derived
abbrev pub ShutOk : Shut → Type 0
ShutOk bracket = ⊤
ShutOk (domain b w) = ⊤
ShutOk condition = ⊤
ShutOk (branch p) = D p
ShutOk (let_type ls w) = LetsOk ls
ShutOk (let_value ls w a) = LetsOk ls × IsTrue (note_derived a)
ShutOk (selected x) = D x × (16 ≤ binds x)
ShutOk first = ⊤
ShutOk (items c is) = ItemsOk is
ShutOk (alternative_type c as' k) = AlternativesOk as' k
ShutOk (field_type c fs k) = FieldsOk fs k
ShutOk (entry_value c es ks) = EntriesOk es
ShutOk (chunk f cs) = IsTrue (chunks_derived cs)

-- how tightly the tree of an awaited token's production binds
abbrev pub wait_level : Wait → ℕ
wait_level (quantifier b) = 0
wait_level (quantified b) = 0
wait_level (quantity b w) = 0
wait_level (domained b w a) = 0
wait_level asserting = 0
wait_level (letting ls) = 0
wait_level (lettered ls w) = 0
wait_level (with_start x) = 0
wait_level (with_keys x ks) = 0
wait_level (with_dot x ks) = 0
wait_level (moded i d) = 15
wait_level (dotted x) = 16
wait_level (projecting x c) = 16
wait_level (projected x c ks) = 16
wait_level (projected_comma x c ks) = 16
wait_level (empty c) = 0
wait_level _ = 17

-- the parts read before an awaited token are derived
abbrev pub WaitOk : Wait → Type 0
WaitOk (domained b w a) = D a
WaitOk (letting ls) = LetsOk ls
WaitOk (lettered ls w) = LetsOk ls
WaitOk (with_start x) = D x × IsTrue (is_base x)
WaitOk (with_keys x ks) = D x × IsTrue (is_base x)
WaitOk (with_dot x ks) = D x × IsTrue (is_base x)
WaitOk (dotted x) = D x × (16 ≤ binds x)
WaitOk (projecting x c) = D x × (16 ≤ binds x)
WaitOk (projected x c ks) = D x × (16 ≤ binds x) × IsTrue (distinct ks)
WaitOk (projected_comma x c ks) = D x × (16 ≤ binds x) × IsTrue (distinct ks)
WaitOk (alternative c as' k) = AlternativesOk as' k
WaitOk (alternative_bar c as') = IsTrue (alternatives_derived as')
WaitOk (field_comma c fs) = IsTrue (fields_derived fs)
WaitOk (field_key c fs k) = FieldsOk (Some fs) k
WaitOk (entry_comma c es) = IsTrue (entries_derived es)
WaitOk (entry_keys c es ks) = EntriesOk es
WaitOk (entry_dot c es ks) = EntriesOk es
WaitOk (text_front f cs) = FrontOk cs
WaitOk (text_piece f cs) = IsTrue (chunks_derived cs)
WaitOk _ = ⊤

-- each frame of the stack is derived so far and may stand where it does
abbrev pub StackOk : Stack → Type 0
StackOk [] = ⊤
StackOk («open» f ∷ st) = (least st ≤ level f) × OpenOk f × StackOk st
StackOk (shut f ∷ st) = (least st ≤ shut_level f) × ShutOk f × StackOk st

-- a derived tree that may stand on the stack, and binds at least so tightly
pub record Holds (k : ℕ) (st : Stack) (x : Derivation) : Type 0 where
  pub stack : StackOk st
  pub derived : D x
  pub stands : least st ≤ binds x
  pub tight : k ≤ binds x

-- what holds of each state that the machine reaches
abbrev pub Valid : State → Type 0
Valid (need st) = StackOk st
Valid (have st h) = Holds 15 st (finish h)
Valid (wait w st) = (least st ≤ wait_level w) × WaitOk w × StackOk st
Valid (done d) = D d
Valid stopped = ⊤
