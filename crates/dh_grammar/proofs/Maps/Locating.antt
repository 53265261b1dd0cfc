-- The machine over stretches makes, at each token, those of what the machine over derivation trees makes there.
use Rattle.std.proofs.Common.{◌≡◌, ℕ, suc, Bool, true, false, [], ◌∷◌, refl, sym, ◌∙◌, ap}
use Rattle.std.specs.Prelude.{nat_le, ◌||◌, if◌then◌else◌, ◌&&◌, Option, Some, None, codes}
use Rattle.dh_syntax.specs.declared.locations.Digest.{Digest}
use Rattle.dh_syntax.specs.declared.locations.Mode.TheVariants as modes
use Rattle.dh_syntax.specs.declared.operators.BinOp.{BinOp}
use Rattle.dh_syntax.specs.declared.operators.Builtin.TheVariants as builtins
use Rattle.dh_syntax.specs.declared.tokens.Keyword.TheVariants as keywords
use Rattle.dh_syntax.specs.declared.tokens.Mark.TheVariants.{ParenOpen, ParenClose, BracketClose, BraceOpen, BraceClose, AngleClose, Comma, Dot, Colon, Equals, At, Bar, Arrow, Lambda, Forall, Operator}
use Rattle.dh_syntax.specs.declared.tokens.TokenKind.{TokenKind}
use Rattle.dh_syntax.specs.declared.tokens.TokenKind.TheVariants as kinds
use Rattle.dh_syntax.specs.Text.Derivation.{untyped, typed, key_label, labels, NameToken, Key, Keys, one_key, more_keys, Derivation, merging, to_map, updates, Alternatives, one_alternative, more_alternatives, Fields, one_field, more_fields, Entry, alone, given, Entries}
use Rattle.dh_syntax.specs.Text.Derived.{among, binds, field_labels, alternative_labels}
use Rattle.dh_syntax.specs.Text.Meaning.{names}
use Rattle.dh_syntax.specs.Text.Noting as noting
use Rattle.dh_syntax.specs.Text.Noting.{stands, skip, keys_len, alternatives_notes, note_notes, fields_notes, entry_notes}
use Rattle.dh_syntax.specs.Expressions.Levels.{level_of, left_level}
use Rattle.dh_syntax.specs.Expressions.Numbers.{bytes_eq}
use Rattle.dh_syntax.specs.Expressions.Tree.{Name}
use Rattle.dh_grammar.specs.Machine as machine
use Rattle.dh_grammar.specs.Machine.{name_of, key_of, left, applied, merged, somed, mapped, update, body, target, otherwise, bound, noted, emptied, asserted, opening, behind, bracket, domain, condition, branch, let_type, let_value, selected, first, items, alternative_type, field_type, entry_value, chunk, «open», shut, named, imported, ready, quantifier, quantified, quantity, domained, asserting, letting, lettered, with_start, with_keys, with_dot, indexed, moded, dotted, projecting, projected, projected_comma, empty, union_start, alternative, alternative_bar, record_start, record_equals, field_comma, field_key, entry_comma, entry_keys, entry_dot, text_front, text_piece, need, have, wait, done, stopped, level, asks, shut_asks, least, fits, expression, with_name, with_key, unless, first_field}
use Rattle.dh_grammar.specs.Inside.Located.{end, place, open_place, held_end, wait_end, count, inside, next_entry, tree_at, some_at, entries_at, open_at, shut_at, held_at, wait_at, stack_at, located}
use Rattle.dh_grammar.specs.Placing as placing
use Rattle.dh_grammar.specs.Placing.{place_sorts, back}
use Rattle.dh_grammar.specs.Trees.{Open, Shut, Held, Wait, Stack, State, trees, add_entry}
use Rattle.dh_grammar.proofs.TokenNumbers.{back-skip}
use Rattle.dh_grammar.proofs.Maps.Carrying.{by_same_test}
use Rattle.dh_grammar.proofs.Maps.Counting.{held_joins}
use Rattle.dh_grammar.proofs.Maps.Forgetting.{among_put, among_last}
use Rattle.dh_syntax.specs.Text.Noting.{Noting}

module _ (notes : Noting) (parts-node : (from to : ℕ) (r : notes.row) → notes.parts (notes.node from to r) ≡ r) where
  abbrev PlacedState : Type 0
  PlacedState = machine.State (place_sorts notes)

  -- ---- levels

  level_at : (i : ℕ) (g : Open) → level (open_at notes i g) ≡ level g
  level_at i (left l o) = refl
  level_at i _ = refl

  asks_at : (i : ℕ) (g : Open) → asks (open_at notes i g) ≡ asks g
  asks_at i (left l o) = refl
  asks_at i _ = refl

  shut_asks_at : (i : ℕ) (g : Shut) → shut_asks (shut_at notes i g) ≡ shut_asks g
  shut_asks_at i first = refl
  shut_asks_at i _ = refl

  least_at : (st : Stack) → least (stack_at notes st) ≡ least st
  least_at [] = refl
  least_at («open» g ∷ st) = asks_at (place notes st) g
  least_at (shut g ∷ st) = shut_asks_at (place notes st) g

  fits_at : (n : ℕ) (st : Stack) (s : State) (t : PlacedState) → located notes s ≡ t → located notes (fits n st s) ≡ fits n (stack_at notes st) t
  fits_at n st s t e = by_same_test (located notes) (nat_le (least st) n) s stopped t stopped e refl ∙ ap (λ m. if nat_le m n then t else stopped) (sym (least_at st))

  with_name_at : (g : NameToken → State) (g' : NameToken → PlacedState) (o : Option NameToken) → ((w : NameToken) → located notes (g w) ≡ g' w) → located notes (with_name g o) ≡ with_name g' o
  with_name_at g g' None h = refl
  with_name_at g g' (Some w) h = h w

  with_key_at : (g : Key → State) (g' : Key → PlacedState) (o : Option Key) → ((k : Key) → located notes (g k) ≡ g' k) → located notes (with_key g o) ≡ with_key g' o
  with_key_at g g' None h = refl
  with_key_at g g' (Some k) h = h k

  unless_at : (b c : Bool) (s : State) → c ≡ b → located notes (unless b s) ≡ unless c (located notes s)
  unless_at b c s e = by_same_test (located notes) b stopped s stopped (located notes s) refl refl ∙ ap (λ b. unless b (located notes s)) (sym e)

  alternatives_among : (as' : Alternatives) (i : ℕ) (x : Name) → among x (names (alternatives_notes notes as' i).0) ≡ among x (alternative_labels as')
  alternatives_among (one_alternative k a) i x = refl
  alternatives_among (more_alternatives as' k a) i x =
      among_put (λ a b. a) x (key_label k, (note_notes notes a (suc (suc (alternatives_notes notes as' i).1))).0) (alternatives_notes notes as' i).0
      ∙ ap (λ b. bytes_eq x (key_label k) || b) (alternatives_among as' i x) ∙ sym (among_last x (key_label k) (alternative_labels as'))

  fields_among : (fs : Fields) (i : ℕ) (x : Name) → among x (names (fields_notes notes fs i).0) ≡ among x (field_labels fs)
  fields_among (one_field k a) i x = refl
  fields_among (more_fields fs k a) i x =
      among_put (λ a b. a) x (key_label k, (noting.noted notes a (suc (suc (suc (fields_notes notes fs i).1)))).0) (fields_notes notes fs i).0
      ∙ ap (λ b. bytes_eq x (key_label k) || b) (fields_among fs i x) ∙ sym (among_last x (key_label k) (field_labels fs))

  -- ---- what is made

  pub build_at : (n i : ℕ) (f : Open) (x : Derivation) → tree_at notes i (machine.build trees f x) ≡ machine.build (placing.placing notes n) (open_at notes i f) (tree_at notes (open_place notes f i) x)
  build_at n i (left l o) x = refl
  build_at n i (applied f) x = refl
  build_at n i (merged t) x = refl
  build_at n i somed x = refl
  build_at n i mapped x = refl
  build_at n i (update (updates us) ks) x = refl
  build_at n i (update y ks) x = refl
  build_at n i (body true w a) x = refl
  build_at n i (body false w a) x = refl
  build_at n i (target a) x = refl
  build_at n i (otherwise p t) x = refl
  build_at n i (bound ls) x = refl
  build_at n i (noted (merging t u)) x = ap (λ r. placing.node notes 0 i (end notes x (open_place notes (noted (merging t u)) i)) (notes.joined r (tree_at notes (open_place notes (noted (merging t u)) i) x).nodes)) (sym (parts-node _ _ _))
  build_at n i (noted (to_map t)) x = ap (λ r. placing.node notes 0 i (end notes x (open_place notes (noted (to_map t)) i)) (notes.joined r (tree_at notes (open_place notes (noted (to_map t)) i) x).nodes)) (sym (parts-node _ _ _))
  build_at n i (noted t) x = refl
  build_at n i (emptied true) x = refl
  build_at n i (emptied false) x = refl
  build_at n i asserted x = refl

  finish_at : (i : ℕ) (h : Held) → tree_at notes i (machine.finish trees h) ≡ machine.finish (placing.placing notes (held_end notes h i)) (held_at notes i h)
  finish_at i (named w) = refl
  finish_at i (imported u None) = refl
  finish_at i (imported u (Some d)) = refl
  finish_at i (ready x) = refl

  join_at : (n k : ℕ) (st : Stack) (x : Derivation) → located notes (machine.join trees k st x) ≡ machine.join (placing.placing notes n) k (stack_at notes st) (tree_at notes (place notes st) x)
  join_at n k [] x = refl
  join_at n k (shut g ∷ st) x = refl
  join_at n k («open» g ∷ st) x =
      let far = machine.join (placing.placing notes n) k (stack_at notes st) (machine.build (placing.placing notes n) (open_at notes (place notes st) g) (tree_at notes (open_place notes g (place notes st)) x)) in
      let near : PlacedState = have («open» (open_at notes (place notes st) g) ∷ stack_at notes st) (ready (tree_at notes (open_place notes g (place notes st)) x)) in
      by_same_test (located notes) (nat_le k (level g)) (machine.join trees k st (machine.build trees g x)) (have («open» g ∷ st) (ready x)) far near
      (join_at n k st (machine.build trees g x) ∙ ap (machine.join (placing.placing notes n) k (stack_at notes st)) (build_at n (place notes st) g x)) refl
      ∙ ap (λ i. if nat_le k i then far else near) (sym (level_at (place notes st) g))

  held_join_at : (k : ℕ) (st : Stack) (h : Held) → located notes (machine.join trees k st (machine.finish trees h)) ≡ machine.join (placing.placing notes (held_end notes h (place notes st))) k (stack_at notes st) (machine.finish (placing.placing notes (held_end notes h (place notes st))) (held_at notes (place notes st) h))
  held_join_at k st h = join_at (held_end notes h (place notes st)) k st (machine.finish trees h) ∙ ap (machine.join (placing.placing notes (held_end notes h (place notes st))) k (stack_at notes st)) (finish_at (place notes st) h)

  -- ---- where an operand begins

  no_item_at : (st : Stack) → located notes (machine.no_item trees st) ≡ machine.no_item (placing.placing notes (place notes st)) (stack_at notes st)
  no_item_at (shut (items b None) ∷ st) = fits_at 0 st (wait (empty b) st) _ refl
  no_item_at (shut (items true (Some is)) ∷ st) = refl
  no_item_at (shut (items false (Some is)) ∷ st) = refl
  no_item_at _ = refl

  item_comma_at : (n : ℕ) (st : Stack) → located notes (machine.item_comma trees st) ≡ machine.item_comma (placing.placing notes n) (stack_at notes st)
  item_comma_at n (shut (items false None) ∷ st) = refl
  item_comma_at n _ = refl

  begin_at : (k : TokenKind) (st : Stack) → located notes (machine.begin trees k st) ≡ machine.begin (placing.placing notes (place notes st)) k (stack_at notes st)
  begin_at (kinds.Path l) st = fits_at 15 st _ _ refl
  begin_at (kinds.Url l) st = fits_at 15 st _ _ refl
  begin_at (kinds.Environment x) st = fits_at 15 st _ _ refl
  begin_at (kinds.Keyword keywords.Missing) st = fits_at 15 st _ _ refl
  begin_at (kinds.Keyword keywords.If) st = fits_at 0 st _ _ refl
  begin_at (kinds.Keyword keywords.Let) st = fits_at 0 st _ _ refl
  begin_at (kinds.Keyword keywords.Assert) st = fits_at 0 st _ _ refl
  begin_at (kinds.Keyword keywords.Merge) st = fits_at 14 st _ _ refl
  begin_at (kinds.Keyword keywords.Some) st = fits_at 14 st _ _ refl
  begin_at (kinds.Keyword keywords.ToMap) st = fits_at 14 st _ _ refl
  begin_at (kinds.Mark BracketClose) st = no_item_at st
  begin_at (kinds.Mark Comma) st = item_comma_at (place notes st) st
  begin_at (kinds.Mark Lambda) st = fits_at 0 st _ _ refl
  begin_at (kinds.Mark Forall) st = fits_at 0 st _ _ refl
  begin_at _ st = refl

  -- ---- behind an operand

  operate_at : (n : ℕ) (o : BinOp) (st : Stack) (x : Derivation) → located notes (machine.operate trees o (have st (ready x))) ≡ machine.operate (placing.placing notes n) o (have (stack_at notes st) (ready (tree_at notes (place notes st) x)))
  operate_at n o st x =
      by_same_test (located notes) (nat_le (left_level o) (binds x) && nat_le (least st) (level_of o)) (need («open» (left x o) ∷ st)) stopped (need («open» (left (tree_at notes (place notes st) x) o) ∷ stack_at notes st)) stopped refl refl
      ∙ ap (λ i. if nat_le (left_level o) (binds x) && nat_le i (level_of o) then need («open» (left (tree_at notes (place notes st) x) o) ∷ stack_at notes st) else stopped) (sym (least_at st))

  select_at : (n : ℕ) (st : Stack) (x : Derivation) → located notes (machine.select trees (have st (ready x))) ≡ machine.select (placing.placing notes n) (have (stack_at notes st) (ready (tree_at notes (place notes st) x)))
  select_at n st x = by_same_test (located notes) (nat_le 16 (binds x)) (wait (dotted x) st) stopped (wait (dotted (tree_at notes (place notes st) x)) (stack_at notes st)) stopped refl refl

  first_update_at : (st : Stack) (x : Derivation) → located notes (if nat_le 15 (binds x) then expression st (wait (with_start x) st) else stopped)
      ≡ (if nat_le 15 (binds x) then expression (stack_at notes st) (wait (with_start (tree_at notes (place notes st) x)) (stack_at notes st)) else stopped)
  first_update_at st x =
      by_same_test (located notes) (nat_le 15 (binds x)) (expression st (wait (with_start x) st)) stopped (expression (stack_at notes st) (wait (with_start (tree_at notes (place notes st) x)) (stack_at notes st))) stopped (fits_at 0 st _ _ refl) refl

  start_update_at : (n : ℕ) (st : Stack) (x : Derivation) → located notes (machine.start_update trees st x) ≡ machine.start_update (placing.placing notes n) (stack_at notes st) (tree_at notes (place notes st) x)
  start_update_at n («open» (update y ks) ∷ st) v = ap (λ x. wait (with_start x) (stack_at notes st)) (build_at n (place notes st) (update y ks) v)
  start_update_at n st x = first_update_at st x

  argue_on_at : (k : TokenKind) (st : Stack) (x : Derivation) → located notes (machine.argue_on trees k st x) ≡ machine.argue_on (placing.placing notes (end notes x (place notes st))) k (stack_at notes st) (tree_at notes (place notes st) x)
  argue_on_at k (shut first ∷ st) x = begin_at k («open» (merged x) ∷ st)
  argue_on_at k st x = fits_at 14 st (machine.begin trees k («open» (applied x) ∷ st)) _ (begin_at k («open» (applied x) ∷ st))

  -- an entry with a value
  given_at : (ks : Keys) (x : Derivation) (i : ℕ) → (entry_notes notes (given ks x) i).0 ≡ placing.given notes ks (back (keys_len ks) (back 1 (suc (skip (keys_len ks) i)))) (tree_at notes (suc (skip (keys_len ks) i)) x)
  given_at ks x i = ap (λ from. placing.given notes ks from (tree_at notes (suc (skip (keys_len ks) i)) x)) (sym (back-skip (keys_len ks) i))

  entry_put : (es : Option Entries) (e : Entry) (i : ℕ) → entries_at notes i (add_entry es e) ≡ placing.add_entry notes (some_at (entries_at notes) i es) (entry_notes notes e (next_entry notes es i)).0
  entry_put None (alone k) i = refl
  entry_put None (given ks x) i = refl
  entry_put (Some es) e i = refl

  entry_given : (es : Option Entries) (ks : Keys) (x : Derivation) (i : ℕ) → entries_at notes i (add_entry es (given ks x)) ≡ placing.add_entry notes (some_at (entries_at notes) i es) (placing.given notes ks (back (keys_len ks) (back 1 (suc (skip (keys_len ks) (next_entry notes es i))))) (tree_at notes (suc (skip (keys_len ks) (next_entry notes es i))) x))
  entry_given es ks x i = entry_put es (given ks x) i ∙ ap (placing.add_entry notes (some_at (entries_at notes) i es)) (given_at ks x (next_entry notes es i))

  closed_at : (k : TokenKind) (g : Shut) (x : Derivation) (st : Stack) → located notes (machine.closed trees k g x st) ≡ machine.closed (placing.placing notes (end notes x (place notes (shut g ∷ st)))) k (shut_at notes (place notes st) g) (tree_at notes (place notes (shut g ∷ st)) x) (stack_at notes st)
  closed_at (kinds.Mark Comma) (items b None) x st = refl
  closed_at (kinds.Mark Comma) (items b (Some is)) x st = refl
  closed_at (kinds.Mark Comma) (field_type b None k) x st = refl
  closed_at (kinds.Mark Comma) (field_type b (Some fs) k) x st = refl
  closed_at (kinds.Mark Comma) (entry_value b es ks) x st = ap (λ g. wait (entry_comma b g) (stack_at notes st)) (entry_given es ks x (inside b (place notes st)))
  closed_at (kinds.Mark BracketClose) (items true None) x st = refl
  closed_at (kinds.Mark BracketClose) (items true (Some is)) x st = refl
  closed_at (kinds.Mark BracketClose) (items false None) x st = refl
  closed_at (kinds.Mark BracketClose) (items false (Some is)) x st = refl
  closed_at (kinds.Mark BraceClose) (field_type true None k) x st = refl
  closed_at (kinds.Mark BraceClose) (field_type true (Some fs) k) x st = refl
  closed_at (kinds.Mark BraceClose) (field_type false None k) x st = refl
  closed_at (kinds.Mark BraceClose) (field_type false (Some fs) k) x st = refl
  closed_at (kinds.Mark BraceClose) (entry_value true None ks) x st =
      ap (λ e. have (stack_at notes st) (ready (placing.fenced notes (end notes x (place notes (shut (entry_value true None ks) ∷ st))) e.first true (stands notes e.rows)))) (entry_given None ks x (inside true (place notes st)))
  closed_at (kinds.Mark BraceClose) (entry_value true (Some es) ks) x st =
      ap (λ e. have (stack_at notes st) (ready (placing.fenced notes (end notes x (place notes (shut (entry_value true (Some es) ks) ∷ st))) e.first true (stands notes e.rows)))) (entry_given (Some es) ks x (inside true (place notes st)))
  closed_at (kinds.Mark BraceClose) (entry_value false None ks) x st =
      ap (λ e. have (stack_at notes st) (ready (placing.fenced notes (end notes x (place notes (shut (entry_value false None ks) ∷ st))) e.first false (stands notes e.rows)))) (entry_given None ks x (inside false (place notes st)))
  closed_at (kinds.Mark BraceClose) (entry_value false (Some es) ks) x st =
      ap (λ e. have (stack_at notes st) (ready (placing.fenced notes (end notes x (place notes (shut (entry_value false (Some es) ks) ∷ st))) e.first false (stands notes e.rows)))) (entry_given (Some es) ks x (inside false (place notes st)))
  closed_at (kinds.Mark Bar) (alternative_type b None k) x st = refl
  closed_at (kinds.Mark Bar) (alternative_type b (Some as') k) x st = refl
  closed_at (kinds.Mark AngleClose) (alternative_type true None k) x st = refl
  closed_at (kinds.Mark AngleClose) (alternative_type true (Some as') k) x st = refl
  closed_at (kinds.Mark AngleClose) (alternative_type false None k) x st = refl
  closed_at (kinds.Mark AngleClose) (alternative_type false (Some as') k) x st = refl
  closed_at (kinds.Keyword keywords.Let) (let_value None w untyped) x st = refl
  closed_at (kinds.Keyword keywords.Let) (let_value None w (typed t)) x st = refl
  closed_at (kinds.Keyword keywords.Let) (let_value (Some ls) w untyped) x st = refl
  closed_at (kinds.Keyword keywords.Let) (let_value (Some ls) w (typed t)) x st = refl
  closed_at (kinds.Keyword keywords.In) (let_value None w untyped) x st = refl
  closed_at (kinds.Keyword keywords.In) (let_value None w (typed t)) x st = refl
  closed_at (kinds.Keyword keywords.In) (let_value (Some ls) w untyped) x st = refl
  closed_at (kinds.Keyword keywords.In) (let_value (Some ls) w (typed t)) x st = refl
  closed_at (kinds.Mark ParenClose) bracket x st = refl
  closed_at (kinds.Mark ParenClose) (domain b w) x st = refl
  closed_at (kinds.Mark ParenClose) (selected t) x st = refl
  closed_at (kinds.Mark Equals) (let_type ls w) x st = refl
  closed_at (kinds.Keyword keywords.Then) condition x st = refl
  closed_at (kinds.Keyword keywords.Else) (branch p) x st = refl
  closed_at kinds.InterpolationClose (chunk t cs) x st = refl
  closed_at _ _ x st = refl

  close_on_at : (k : TokenKind) (st : Stack) (x : Derivation) → located notes (machine.close_on trees k st x) ≡ machine.close_on (placing.placing notes (end notes x (place notes st))) k (stack_at notes st) (tree_at notes (place notes st) x)
  close_on_at kinds.End [] x = refl
  close_on_at k (shut g ∷ st) x = closed_at k g x st
  close_on_at k _ x = refl

  index_at : (n : ℕ) (st : Stack) (h : Held) → located notes (machine.index_on trees st h) ≡ machine.index_on (placing.placing notes n) (stack_at notes st) (held_at notes (place notes st) h)
  index_at n st (named w) = refl
  index_at n st _ = refl

  digest_at : (n : ℕ) (d : Digest) (st : Stack) (h : Held) → located notes (machine.digest_on trees d st h) ≡ machine.digest_on (placing.placing notes n) d (stack_at notes st) (held_at notes (place notes st) h)
  digest_at n d st (imported i None) = refl
  digest_at n d st _ = refl

  mode_at : (n : ℕ) (st : Stack) (h : Held) → located notes (machine.mode_on trees st h) ≡ machine.mode_on (placing.placing notes n) (stack_at notes st) (held_at notes (place notes st) h)
  mode_at n st (imported i d) = refl
  mode_at n st _ = refl

  behind_at : (go : State → State) (go' : ℕ → PlacedState → PlacedState) (k : ℕ) (st : Stack) (h : Held)
      → ((st' : Stack) (x : Derivation) → located notes (go (have st' (ready x))) ≡ go' (end notes x (place notes st')) (have (stack_at notes st') (ready (tree_at notes (place notes st') x))))
      → located notes (go (machine.join trees k st (machine.finish trees h)))
      ≡ go' (held_end notes h (place notes st)) (machine.join (placing.placing notes (held_end notes h (place notes st))) k (stack_at notes st) (machine.finish (placing.placing notes (held_end notes h (place notes st))) (held_at notes (place notes st) h)))
  behind_at go go' k st h e =
      let r = held_joins notes k st h in
      ap (λ u. located notes (go u)) r.is ∙ e r.stack r.part ∙ ap (λ n. go' n (have (stack_at notes r.stack) (ready (tree_at notes (place notes r.stack) r.part)))) r.ends
      ∙ ap (go' (held_end notes h (place notes st))) (sym (ap (located notes) r.is) ∙ held_join_at k st h)

  closes_at : (k : TokenKind) (st : Stack) (h : Held) → located notes (machine.close trees k (machine.join trees 0 st (machine.finish trees h)))
      ≡ machine.close (placing.placing notes (held_end notes h (place notes st))) k (machine.join (placing.placing notes (held_end notes h (place notes st))) 0 (stack_at notes st) (machine.finish (placing.placing notes (held_end notes h (place notes st))) (held_at notes (place notes st) h)))
  closes_at k st h = behind_at (machine.close trees k) (λ n. machine.close (placing.placing notes n) k) 0 st h (λ st' x. close_on_at k st' x)

  extend_at : (k : TokenKind) (st : Stack) (h : Held) → located notes (machine.extend trees k st h) ≡ machine.extend (placing.placing notes (held_end notes h (place notes st))) k (stack_at notes st) (held_at notes (place notes st) h)
  extend_at (kinds.Mark (Operator o)) st h = behind_at (machine.operate trees o) (λ n. machine.operate (placing.placing notes n) o) (left_level o) st h (λ st' x. operate_at (end notes x (place notes st')) o st' x)
  extend_at (kinds.Mark Dot) st h = behind_at (machine.select trees) (λ n. machine.select (placing.placing notes n)) 16 st h (λ st' x. select_at (end notes x (place notes st')) st' x)
  extend_at (kinds.Mark Arrow) st h = behind_at (machine.point trees) (λ n. machine.point (placing.placing notes n)) 1 st h (λ st' x. fits_at 0 st' _ _ refl)
  extend_at (kinds.Mark Colon) st h = behind_at (machine.annotate trees) (λ n. machine.annotate (placing.placing notes n)) 1 st h (λ st' x. fits_at 0 st' _ _ refl)
  extend_at (kinds.Mark At) st h = index_at (held_end notes h (place notes st)) st h
  extend_at (kinds.Digest d) st h = digest_at (held_end notes h (place notes st)) d st h
  extend_at (kinds.Keyword keywords.As) st h = mode_at (held_end notes h (place notes st)) st h
  extend_at (kinds.Keyword keywords.With) st h = behind_at (machine.renew trees) (λ n. machine.renew (placing.placing notes n)) 1 st h (λ st' x. start_update_at (end notes x (place notes st')) st' x)
  extend_at (kinds.Mark ParenClose) st h = closes_at (kinds.Mark ParenClose) st h
  extend_at (kinds.Mark BracketClose) st h = closes_at (kinds.Mark BracketClose) st h
  extend_at (kinds.Mark BraceClose) st h = closes_at (kinds.Mark BraceClose) st h
  extend_at (kinds.Mark AngleClose) st h = closes_at (kinds.Mark AngleClose) st h
  extend_at (kinds.Mark Comma) st h = closes_at (kinds.Mark Comma) st h
  extend_at (kinds.Mark Equals) st h = closes_at (kinds.Mark Equals) st h
  extend_at (kinds.Mark Bar) st h = closes_at (kinds.Mark Bar) st h
  extend_at (kinds.Keyword keywords.Then) st h = closes_at (kinds.Keyword keywords.Then) st h
  extend_at (kinds.Keyword keywords.Else) st h = closes_at (kinds.Keyword keywords.Else) st h
  extend_at (kinds.Keyword keywords.Let) st h = closes_at (kinds.Keyword keywords.Let) st h
  extend_at (kinds.Keyword keywords.In) st h = closes_at (kinds.Keyword keywords.In) st h
  extend_at kinds.InterpolationClose st h = closes_at kinds.InterpolationClose st h
  extend_at kinds.End st h = closes_at kinds.End st h
  extend_at k st h = behind_at (machine.argue trees k) (λ n. machine.argue (placing.placing notes n) k) 14 st h (λ st' x. argue_on_at k st' x)

  -- ---- within a production

  abbrev IsLocated : Wait → TokenKind → Stack → Type 0
  IsLocated w k st = located notes (machine.waited trees w k st) ≡ machine.waited (placing.placing notes (wait_end notes w (place notes st))) (wait_at notes (place notes st) w) k (stack_at notes st)

  first_field_at : (b : Bool) (es : Option Entries) (ks : Keys) (st : Stack) → IsLocated (entry_keys b es ks) (kinds.Mark Colon) st
  first_field_at b None (one_key k) st = refl
  first_field_at b None (more_keys ks k) st = refl
  first_field_at b (Some es) ks st = refl

  lone_comma_at : (b : Bool) (es : Option Entries) (ks : Keys) (st : Stack) → IsLocated (entry_keys b es ks) (kinds.Mark Comma) st
  lone_comma_at b es (one_key k) st = ap (λ g. wait (entry_comma b g) (stack_at notes st)) (entry_put es (alone k) (inside b (place notes st)))
  lone_comma_at b es (more_keys ks k) st = refl

  lone_close_at : (b : Bool) (es : Option Entries) (ks : Keys) (st : Stack) → IsLocated (entry_keys b es ks) (kinds.Mark BraceClose) st
  lone_close_at true None (one_key k) st = refl
  lone_close_at true (Some es) (one_key k) st = refl
  lone_close_at false None (one_key k) st = refl
  lone_close_at false (Some es) (one_key k) st = refl
  lone_close_at b es (more_keys ks k) st = refl

  waited_at : (w : Wait) (k : TokenKind) (st : Stack) → IsLocated w k st
  waited_at (quantifier b) (kinds.Mark ParenOpen) st = refl
  waited_at (quantified b) k st = with_name_at (λ w. wait (quantity b w) st) _ (name_of k) (λ w. refl)
  waited_at (quantity b w) (kinds.Mark Colon) st = refl
  waited_at (domained b w a) (kinds.Mark Arrow) st = refl
  waited_at asserting (kinds.Mark Colon) st = refl
  waited_at (letting ls) k st = with_name_at (λ w. wait (lettered ls w) st) _ (name_of k) (λ w. refl)
  waited_at (lettered ls w) (kinds.Mark Colon) st = refl
  waited_at (lettered ls w) (kinds.Mark Equals) st = refl
  waited_at (with_start x) k st = with_key_at (λ k. wait (with_keys x (one_key k)) st) _ (key_of k) (λ w. refl)
  waited_at (with_keys x ks) (kinds.Mark Dot) st = refl
  waited_at (with_keys x ks) (kinds.Mark Equals) st = refl
  waited_at (with_dot x ks) k st = with_key_at (λ k. wait (with_keys x (more_keys ks k)) st) _ (key_of k) (λ w. refl)
  waited_at (indexed w) (kinds.Natural n) st = refl
  waited_at (moded i None) (kinds.Builtin builtins.Text) st = refl
  waited_at (moded i (Some d)) (kinds.Builtin builtins.Text) st = refl
  waited_at (moded i None) (kinds.Name x) st = by_same_test (located notes) (bytes_eq x (codes "Location")) (have st (ready (trees.import i None modes.Location))) stopped (have (stack_at notes st) (ready (placing.import_at notes (wait_end notes (moded i None) (place notes st)) None modes.Location))) stopped refl refl
  waited_at (moded i (Some d)) (kinds.Name x) st = by_same_test (located notes) (bytes_eq x (codes "Location")) (have st (ready (trees.import i (Some d) modes.Location))) stopped (have (stack_at notes st) (ready (placing.import_at notes (wait_end notes (moded i (Some d)) (place notes st)) (Some d) modes.Location))) stopped refl refl
  waited_at (dotted x) (kinds.Mark BraceOpen) st = refl
  waited_at (dotted x) (kinds.Mark ParenOpen) st = refl
  waited_at (dotted x) k st = with_key_at (λ k. have st (ready (trees.field x k))) _ (key_of k) (λ w. refl)
  waited_at (projecting x false) (kinds.Mark Comma) st = refl
  waited_at (projecting x true) (kinds.Mark BraceClose) st = refl
  waited_at (projecting x false) (kinds.Mark BraceClose) st = refl
  waited_at (projecting x c) k st = with_key_at (λ k. wait (projected x c (one_key k)) st) _ (key_of k) (λ w. refl)
  waited_at (projected x c ks) (kinds.Mark Comma) st = refl
  waited_at (projected x true ks) (kinds.Mark BraceClose) st = refl
  waited_at (projected x false ks) (kinds.Mark BraceClose) st = refl
  waited_at (projected_comma x true ks) (kinds.Mark BraceClose) st = refl
  waited_at (projected_comma x false ks) (kinds.Mark BraceClose) st = refl
  waited_at (projected_comma x c ks) k st = with_key_at (λ k. unless (among (key_label k) (labels ks)) (wait (projected x c (more_keys ks k)) st)) _ (key_of k) (λ k. unless_at (among (key_label k) (labels ks)) _ (wait (projected x c (more_keys ks k)) st) refl)
  waited_at (empty c) (kinds.Mark Colon) st = refl
  waited_at (union_start false) (kinds.Mark Bar) st = refl
  waited_at (union_start true) (kinds.Mark AngleClose) st = refl
  waited_at (union_start false) (kinds.Mark AngleClose) st = refl
  waited_at (union_start c) k st = with_key_at (λ k. wait (alternative c None k) st) _ (key_of k) (λ w. refl)
  waited_at (alternative c None k) (kinds.Mark Colon) st = refl
  waited_at (alternative c (Some as') k) (kinds.Mark Colon) st = refl
  waited_at (alternative c None k) (kinds.Mark Bar) st = refl
  waited_at (alternative c (Some as') k) (kinds.Mark Bar) st = refl
  waited_at (alternative true None k) (kinds.Mark AngleClose) st = refl
  waited_at (alternative true (Some as') k) (kinds.Mark AngleClose) st = refl
  waited_at (alternative false None k) (kinds.Mark AngleClose) st = refl
  waited_at (alternative false (Some as') k) (kinds.Mark AngleClose) st = refl
  waited_at (alternative_bar true as') (kinds.Mark AngleClose) st = refl
  waited_at (alternative_bar false as') (kinds.Mark AngleClose) st = refl
  waited_at (alternative_bar c as') k st = with_key_at (λ k. unless (among (key_label k) (alternative_labels as')) (wait (alternative c (Some as') k) st)) _ (key_of k) (λ k. unless_at (among (key_label k) (alternative_labels as')) _ (wait (alternative c (Some as') k) st) (alternatives_among as' (inside c (place notes st)) (key_label k)))
  waited_at (record_start false) (kinds.Mark Comma) st = refl
  waited_at (record_start c) (kinds.Mark Equals) st = refl
  waited_at (record_start true) (kinds.Mark BraceClose) st = refl
  waited_at (record_start false) (kinds.Mark BraceClose) st = refl
  waited_at (record_start c) k st = with_key_at (λ k. wait (entry_keys c None (one_key k)) st) _ (key_of k) (λ w. refl)
  waited_at (record_equals c false) (kinds.Mark Comma) st = refl
  waited_at (record_equals true true) (kinds.Mark BraceClose) st = refl
  waited_at (record_equals true false) (kinds.Mark BraceClose) st = refl
  waited_at (record_equals false true) (kinds.Mark BraceClose) st = refl
  waited_at (record_equals false false) (kinds.Mark BraceClose) st = refl
  waited_at (field_comma true fs) (kinds.Mark BraceClose) st = refl
  waited_at (field_comma false fs) (kinds.Mark BraceClose) st = refl
  waited_at (field_comma c fs) k st = with_key_at (λ k. unless (among (key_label k) (field_labels fs)) (wait (field_key c fs k) st)) _ (key_of k) (λ k. unless_at (among (key_label k) (field_labels fs)) _ (wait (field_key c fs k) st) (fields_among fs (inside c (place notes st)) (key_label k)))
  waited_at (field_key c fs k) (kinds.Mark Colon) st = refl
  waited_at (entry_comma true es) (kinds.Mark BraceClose) st = refl
  waited_at (entry_comma false es) (kinds.Mark BraceClose) st = refl
  waited_at (entry_comma c es) k st = with_key_at (λ k. wait (entry_keys c (Some es) (one_key k)) st) _ (key_of k) (λ w. refl)
  waited_at (entry_keys c es ks) (kinds.Mark Colon) st = first_field_at c es ks st
  waited_at (entry_keys c es ks) (kinds.Mark Dot) st = refl
  waited_at (entry_keys c es ks) (kinds.Mark Equals) st = refl
  waited_at (entry_keys c es ks) (kinds.Mark Comma) st = lone_comma_at c es ks st
  waited_at (entry_keys c es ks) (kinds.Mark BraceClose) st = lone_close_at c es ks st
  waited_at (entry_dot c es ks) k st = with_key_at (λ k. wait (entry_keys c es (more_keys ks k)) st) _ (key_of k) (λ w. refl)
  waited_at (text_front f opening) (kinds.TextPiece p) st = refl
  waited_at (text_front f (behind cs e)) (kinds.TextPiece p) st = refl
  waited_at (text_front f opening) kinds.InterpolationOpen st = refl
  waited_at (text_front f (behind cs e)) kinds.InterpolationOpen st = refl
  waited_at (text_front f opening) kinds.TextClose st = refl
  waited_at (text_front f (behind cs e)) kinds.TextClose st = refl
  waited_at (text_piece f cs) kinds.InterpolationOpen st = refl
  waited_at (text_piece f cs) kinds.TextClose st = refl
  waited_at _ _ st = refl

  -- ---- one token

  pub locates : (k : TokenKind) (s : State) → located notes (machine.after trees k s) ≡ machine.after (placing.placing notes (count notes s)) k (located notes s)
  locates k (need st) = begin_at k st
  locates k (have st h) = extend_at k st h
  locates k (wait w st) = waited_at w k st
  locates k (done d) = refl
  locates k stopped = refl
