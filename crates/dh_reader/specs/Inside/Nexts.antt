-- What the machine does with a token within a production, told by tests of the token one after the other.
use Rattle.std.specs.Prelude.{ℕ, true, false, if◌then◌else◌, ◌∷◌, Option, Some, None}
use Rattle.dh_syntax.specs.declared.locations.Mode.{Mode}
use Rattle.dh_syntax.specs.declared.tokens.Mark.TheVariants.{ParenOpen, BraceOpen, BraceClose, AngleClose, Comma, Dot, Colon, Equals, Bar, Arrow}
use Rattle.dh_syntax.specs.declared.tokens.TokenKind.{TokenKind}
use Rattle.dh_syntax.specs.Text.Derivation.{key_label, labels, one_key, more_keys}
use Rattle.dh_syntax.specs.Text.Derived.{among}
use Rattle.dh_grammar.specs.Machine.{Stack, State, need, have, wait, stopped, ready, «open», shut, body, asserted, update, emptied, domain, let_type, let_value, selected, alternative_type, field_type, entry_value, Wait, quantifier, quantified, quantity, domained, asserting, lettered, with_keys, with_dot, indexed, moded, dotted, projecting, projected, projected_comma, empty, union_start, alternative, alternative_bar, record_start, record_equals, field_comma, field_key, entry_comma, entry_keys, entry_dot, key_of, with_key, unless, one_of, waited}
use Rattle.dh_grammar.specs.Making.{Sorts, Making}
use Rattle.dh_reader.specs.Inside.Tokens.{is_mark, mode_of, natural_of}

-- the state by the mode of an import, and a stop where there is none
abbrev pub with_mode : {K : Sorts} → (Mode → State K) → Option Mode → State K
with_mode f None = stopped
with_mode f (Some m) = f m

-- the state by a number, and a stop where there is none
abbrev pub with_natural : {K : Sorts} → (ℕ → State K) → Option ℕ → State K
with_natural f None = stopped
with_natural f (Some n) = f n

-- this state, but a stop where something is there
abbrev pub unless_some : {K : Sorts} {A : Type 0} → Option A → State K → State K
unless_some None s = s
unless_some (Some a) s = stopped

module _ {K : Sorts} (m : Making K) where
  abbrev pub next : Wait K → TokenKind → Stack K → State K
  next (quantifier b) k st = if is_mark ParenOpen k then wait (quantified b) st else stopped
  next (quantity b w) k st = if is_mark Colon k then need (shut (domain b w) ∷ st) else stopped
  next (domained b w a) k st = if is_mark Arrow k then need («open» (body b w a) ∷ st) else stopped
  next asserting k st = if is_mark Colon k then need («open» asserted ∷ st) else stopped
  next (lettered ls w) k st =
      if is_mark Colon k then need (shut (let_type ls w) ∷ st)
      else if is_mark Equals k then need (shut (let_value ls w m.untyped) ∷ st)
      else stopped
  next (with_keys x ks) k st =
      if is_mark Dot k then wait (with_dot x ks) st
      else if is_mark Equals k then need («open» (update x ks) ∷ st)
      else stopped
  next (indexed w) k st = with_natural (λ n. have st (ready (m.variable w (Some n)))) (natural_of k)
  next (moded i d) k st = with_mode (λ mode. have st (ready (m.import i d mode))) (mode_of k)
  next (dotted x) k st =
      if is_mark BraceOpen k then wait (projecting x false) st
      else if is_mark ParenOpen k then need (shut (selected x) ∷ st)
      else with_key (λ k. have st (ready (m.field x k))) (key_of k)
  next (projecting x c) k st =
      if is_mark Comma k then (if c then stopped else wait (projecting x true) st)
      else if is_mark BraceClose k then have st (ready (m.project_none x c))
      else with_key (λ k. wait (projected x c (one_key k)) st) (key_of k)
  next (projected x c ks) k st =
      if is_mark Comma k then wait (projected_comma x c ks) st
      else if is_mark BraceClose k then have st (ready (m.project x c ks false))
      else stopped
  next (projected_comma x c ks) k st =
      if is_mark BraceClose k then have st (ready (m.project x c ks true))
      else with_key (λ k. unless (among (key_label k) (labels ks)) (wait (projected x c (more_keys ks k)) st)) (key_of k)
  next (empty c) k st = if is_mark Colon k then need («open» (emptied c) ∷ st) else stopped
  next (union_start c) k st =
      if is_mark Bar k then (if c then stopped else wait (union_start true) st)
      else if is_mark AngleClose k then have st (ready (m.union_none c))
      else with_key (λ k. wait (alternative c None k) st) (key_of k)
  next (alternative c as' k) t st =
      if is_mark Colon t then need (shut (alternative_type c as' k) ∷ st)
      else if is_mark Bar t then wait (alternative_bar c (m.add_alternative as' k m.untyped)) st
      else if is_mark AngleClose t then have st (ready (m.union c (m.add_alternative as' k m.untyped) false))
      else stopped
  next (alternative_bar c as') k st =
      if is_mark AngleClose k then have st (ready (m.union c as' true))
      else with_key (λ k. unless (among (key_label k) (m.alternative_labels as')) (wait (alternative c (Some as') k) st)) (key_of k)
  next (record_start c) k st =
      if is_mark Comma k then (if c then stopped else wait (record_start true) st)
      else if is_mark Equals k then wait (record_equals c false) st
      else if is_mark BraceClose k then have st (ready (m.record_type_none c))
      else with_key (λ k. wait (entry_keys c None (one_key k)) st) (key_of k)
  next (record_equals c d) k st =
      if is_mark Comma k then (if d then stopped else wait (record_equals c true) st)
      else if is_mark BraceClose k then have st (ready (m.record_none c d))
      else stopped
  next (field_comma c fs) k st =
      if is_mark BraceClose k then have st (ready (m.record_type c fs true))
      else with_key (λ k. unless (among (key_label k) (m.field_labels fs)) (wait (field_key c fs k) st)) (key_of k)
  next (field_key c fs k) t st = if is_mark Colon t then need (shut (field_type c (Some fs) k) ∷ st) else stopped
  next (entry_comma c es) k st =
      if is_mark BraceClose k then have st (ready (m.record_of c es true))
      else with_key (λ k. wait (entry_keys c (Some es) (one_key k)) st) (key_of k)
  next (entry_keys c es ks) k st =
      if is_mark Colon k then unless_some es (with_key (λ k. need (shut (field_type c None k) ∷ st)) (one_of ks))
      else if is_mark Dot k then wait (entry_dot c es ks) st
      else if is_mark Equals k then need (shut (entry_value c es ks) ∷ st)
      else if is_mark Comma k then with_key (λ k. wait (entry_comma c (m.add_entry es (m.alone k))) st) (one_of ks)
      else if is_mark BraceClose k then with_key (λ k. have st (ready (m.record_of c (m.add_entry es (m.alone k)) false))) (one_of ks)
      else stopped
  next w k st = waited m w k st
