-- A machine whose parts are carried over by maps does what the other one does.
use Rattle.std.proofs.Common.{◌≡◌, ℕ, Bool, true, false, List, [], ◌∷◌, refl, sym, ◌∙◌, ap}
use Rattle.std.specs.Prelude.{nat_le, if◌then◌else◌, ◌&&◌, Option, Some, None, codes}
use Rattle.dh_syntax.specs.declared.locations.Digest.{Digest}
use Rattle.dh_syntax.specs.declared.locations.Mode.TheVariants as modes
use Rattle.dh_syntax.specs.declared.operators.BinOp.{BinOp}
use Rattle.dh_syntax.specs.declared.operators.Builtin.TheVariants as builtins
use Rattle.dh_syntax.specs.declared.tokens.Keyword.TheVariants as keywords
use Rattle.dh_syntax.specs.declared.tokens.Mark.TheVariants.{ParenOpen, ParenClose, BracketClose, BraceOpen, BraceClose, AngleClose, Comma, Dot, Colon, Equals, At, Bar, Arrow, Lambda, Forall, Operator}
use Rattle.dh_syntax.specs.declared.tokens.TokenKind.{TokenKind}
use Rattle.dh_syntax.specs.declared.tokens.TokenKind.TheVariants as kinds
use Rattle.dh_syntax.specs.Text.Derivation.{key_label, labels, NameToken, Key, Keys, one_key, more_keys}
use Rattle.dh_syntax.specs.Text.Derived.{among}
use Rattle.dh_syntax.specs.Expressions.Levels.{level_of, left_level}
use Rattle.dh_syntax.specs.Expressions.Numbers.{bytes_eq}
use Rattle.dh_grammar.specs.Machine as machine
use Rattle.dh_grammar.specs.Making.{Sorts, Making}
use Rattle.dh_grammar.specs.Machine.{Open, Front, Shut, Frame, Held, Wait, Stack, State, name_of, key_of, left, applied, merged, somed, mapped, update, body, target, otherwise, bound, noted, emptied, asserted, opening, behind, bracket, domain, condition, branch, let_type, let_value, selected, first, items, alternative_type, field_type, entry_value, chunk, «open», shut, named, imported, ready, quantifier, quantified, quantity, domained, asserting, letting, lettered, with_start, with_keys, with_dot, indexed, moded, dotted, projecting, projected, projected_comma, empty, union_start, alternative, alternative_bar, record_start, record_equals, field_comma, field_key, entry_comma, entry_keys, entry_dot, text_front, text_piece, need, have, wait, done, stopped, level, asks, shut_asks, least, fits, expression, with_name, with_key, unless, first_field, open_gap, shut_gap, gap_on, wait_gap, gap_at, open_depth, shut_depth, depth_on, depth_out, begin_depth, extend_depth, depth_at}
use Rattle.dh_grammar.specs.Inside.Mapping.{Mapping, Carries, map_open, map_front, map_shut, map_held, map_wait, map_stack, map_state}
use Rattle.dh_grammar.specs.Making.{option_map}

pub by_same_test : {A B : Type 0} (g : A → B) (b : Bool) (x y : A) (v w : B) → g x ≡ v → g y ≡ w → g (if b then x else y) ≡ (if b then v else w)
by_same_test g true x y v w d e = d
by_same_test g false x y v w d e = e

location_same : {A B : Type 0} (g : A → B) (b : Bool) (x y : A) → g (if b then x else y) ≡ (if b then g x else g y)
location_same g true x y = refl
location_same g false x y = refl

module _ {K L : Sorts} (f : Mapping K L) where
  -- ---- levels

  level_same : (g : Open K) → level (map_open f g) ≡ level g
  level_same (left l o) = refl
  level_same _ = refl

  asks_same : (g : Open K) → asks (map_open f g) ≡ asks g
  asks_same (left l o) = refl
  asks_same _ = refl

  shut_asks_same : (g : Shut K) → shut_asks (map_shut f g) ≡ shut_asks g
  shut_asks_same first = refl
  shut_asks_same _ = refl

  pub least_same : (st : Stack K) → least (map_stack f st) ≡ least st
  least_same [] = refl
  least_same («open» g ∷ st) = asks_same g
  least_same (shut g ∷ st) = shut_asks_same g

  fits_same : (i : ℕ) (st : Stack K) (s : State K) (t : State L) → map_state f s ≡ t → map_state f (fits i st s) ≡ fits i (map_stack f st) t
  fits_same i st s t e = by_same_test (map_state f) (nat_le (least st) i) s stopped t stopped e refl ∙ ap (λ m. if nat_le m i then t else stopped) (sym (least_same st))

  with_name_same : (g : NameToken → State K) (g' : NameToken → State L) (o : Option NameToken) → ((w : NameToken) → map_state f (g w) ≡ g' w) → map_state f (with_name g o) ≡ with_name g' o
  with_name_same g g' None h = refl
  with_name_same g g' (Some w) h = h w

  with_key_same : (g : Key → State K) (g' : Key → State L) (o : Option Key) → ((k : Key) → map_state f (g k) ≡ g' k) → map_state f (with_key g o) ≡ with_key g' o
  with_key_same g g' None h = refl
  with_key_same g g' (Some k) h = h k

  unless_same : (b c : Bool) (s : State K) → c ≡ b → map_state f (unless b s) ≡ unless c (map_state f s)
  unless_same b c s e = by_same_test (map_state f) b stopped s stopped (map_state f s) refl refl ∙ ap (λ b. unless b (map_state f s)) (sym e)

  -- ---- gaps and depths

  open_gap_same : (g : Open K) → open_gap (map_open f g) ≡ open_gap g
  open_gap_same (left l o) = refl
  open_gap_same (update x ks) = refl
  open_gap_same (body b w a) = refl
  open_gap_same (target a) = refl
  open_gap_same _ = refl

  shut_gap_same : (g : Shut K) → shut_gap (map_shut f g) ≡ shut_gap g
  shut_gap_same first = refl
  shut_gap_same _ = refl

  gap_same : (st : Stack K) → gap_on (map_stack f st) ≡ gap_on st
  gap_same [] = refl
  gap_same («open» g ∷ st) = open_gap_same g
  gap_same (shut g ∷ st) = shut_gap_same g

  wait_gap_same : (w : Wait K) → wait_gap (map_wait f w) ≡ wait_gap w
  wait_gap_same (letting ls) = refl
  wait_gap_same _ = refl

  pub map_gap : (s : State K) (k : TokenKind) → gap_at (map_state f s) k ≡ gap_at s k
  map_gap (need st) k = gap_same st
  map_gap (have st h) k = refl
  map_gap (wait w st) k = wait_gap_same w
  map_gap (done d) k = refl
  map_gap stopped k = refl

  open_depth_same : (g : Open K) (i : ℕ) → open_depth (map_open f g) i ≡ open_depth g i
  open_depth_same (left l o) i = refl
  open_depth_same _ i = refl

  shut_depth_same : (g : Shut K) (i : ℕ) → shut_depth (map_shut f g) i ≡ shut_depth g i
  shut_depth_same first i = refl
  shut_depth_same _ i = refl

  depth_on_same : (st : Stack K) → depth_on (map_stack f st) ≡ depth_on st
  depth_on_same [] = refl
  depth_on_same («open» g ∷ st) = ap (open_depth (map_open f g)) (depth_on_same st) ∙ open_depth_same g (depth_on st)
  depth_on_same (shut g ∷ st) = ap (shut_depth (map_shut f g)) (depth_on_same st) ∙ shut_depth_same g (depth_on st)

  depth_out_same : (st : Stack K) → depth_out (map_stack f st) ≡ depth_out st
  depth_out_same [] = refl
  depth_out_same («open» g ∷ st) = depth_out_same st
  depth_out_same (shut g ∷ st) = depth_on_same st

  begin_depth_same : (k : TokenKind) (st : Stack K) → begin_depth k (map_stack f st) ≡ begin_depth k st
  begin_depth_same (kinds.Mark BracketClose) st = depth_out_same st
  begin_depth_same (kinds.Mark Comma) st = depth_out_same st
  begin_depth_same _ st = depth_on_same st

  extend_depth_same : (k : TokenKind) (st : Stack K) → extend_depth k (map_stack f st) ≡ extend_depth k st
  extend_depth_same (kinds.Mark ParenClose) st = depth_out_same st
  extend_depth_same (kinds.Mark BracketClose) st = depth_out_same st
  extend_depth_same (kinds.Mark BraceClose) st = depth_out_same st
  extend_depth_same (kinds.Mark AngleClose) st = depth_out_same st
  extend_depth_same (kinds.Mark Comma) st = depth_out_same st
  extend_depth_same (kinds.Mark Equals) st = depth_out_same st
  extend_depth_same (kinds.Mark Bar) st = depth_out_same st
  extend_depth_same (kinds.Keyword keywords.Then) st = depth_out_same st
  extend_depth_same (kinds.Keyword keywords.Else) st = depth_out_same st
  extend_depth_same (kinds.Keyword keywords.Let) st = depth_out_same st
  extend_depth_same (kinds.Keyword keywords.In) st = depth_out_same st
  extend_depth_same kinds.InterpolationClose st = depth_out_same st
  extend_depth_same kinds.End st = depth_out_same st
  extend_depth_same _ st = depth_on_same st

  pub map_depth : (s : State K) (k : TokenKind) → depth_at (map_state f s) k ≡ depth_at s k
  map_depth (need st) k = begin_depth_same k st
  map_depth (have st h) k = extend_depth_same k st
  map_depth (wait w st) k = depth_on_same st
  map_depth (done d) k = refl
  map_depth stopped k = refl

module _ {K L : Sorts} {m : Making K} {n : Making L} {f : Mapping K L} (c : Carries m n f) where
  -- ---- what is made

  build_same : (g : Open K) (x : K.tree) → f.tree (machine.build m g x) ≡ machine.build n (map_open f g) (f.tree x)
  build_same (left l o) x = c.operation o l x
  build_same (applied y) x = c.application y x
  build_same (merged t) x = c.merging t x
  build_same somed x = c.some_of x
  build_same mapped x = c.to_map x
  build_same (update y ks) x = c.updating y ks x
  build_same (body b w a) x = c.quantify b w a x
  build_same (target a) x = c.arrow a x
  build_same (otherwise p t) x = c.choice p t x
  build_same (bound ls) x = c.lets ls x
  build_same (noted t) x = c.noting t x
  build_same (emptied b) x = c.empty_list b x
  build_same asserted x = c.assertion x

  finish_same : (h : Held K) → f.tree (machine.finish m h) ≡ machine.finish n (map_held f h)
  finish_same (named w) = c.variable w None
  finish_same (imported i d) = c.«import» i d modes.Code
  finish_same (ready x) = refl

  sealed_same : (g : Front K) (p : Option (List ℕ)) → f.chunks (machine.sealed m g p) ≡ machine.sealed n (map_front f g) p
  sealed_same opening p = c.start p
  sealed_same (behind cs e) p = c.more_chunks cs e p

  join_same : (k : ℕ) (st : Stack K) (x : K.tree) → map_state f (machine.join m k st x) ≡ machine.join n k (map_stack f st) (f.tree x)
  join_same k [] x = refl
  join_same k (shut g ∷ st) x = refl
  join_same k («open» g ∷ st) x =
      by_same_test (map_state f) (nat_le k (level g)) (machine.join m k st (machine.build m g x)) (have («open» g ∷ st) (ready x)) (machine.join n k (map_stack f st) (machine.build n (map_open f g) (f.tree x))) (have («open» (map_open f g) ∷ map_stack f st) (ready (f.tree x)))
      (join_same k st (machine.build m g x) ∙ ap (machine.join n k (map_stack f st)) (build_same g x)) refl
      ∙ ap (λ i. if nat_le k i then machine.join n k (map_stack f st) (machine.build n (map_open f g) (f.tree x)) else have («open» (map_open f g) ∷ map_stack f st) (ready (f.tree x))) (sym (level_same f g))

  held_same : (k : ℕ) (st : Stack K) (h : Held K) → map_state f (machine.join m k st (machine.finish m h)) ≡ machine.join n k (map_stack f st) (machine.finish n (map_held f h))
  held_same k st h = join_same k st (machine.finish m h) ∙ ap (machine.join n k (map_stack f st)) (finish_same h)

  made : (st : Stack K) (x : K.tree) (y : L.tree) → f.tree x ≡ y → map_state f (have st (ready x)) ≡ have (map_stack f st) (ready y)
  made st x y e = ap (λ y. have (map_stack f st) (ready y)) e

  -- ---- where an operand begins

  no_item_same : (st : Stack K) → map_state f (machine.no_item m st) ≡ machine.no_item n (map_stack f st)
  no_item_same (shut (items b None) ∷ st) = fits_same f 0 st (wait (empty b) st) _ refl
  no_item_same (shut (items b (Some is)) ∷ st) = made st _ _ (c.list b is true)
  no_item_same _ = refl

  item_comma_same : (st : Stack K) → map_state f (machine.item_comma m st) ≡ machine.item_comma n (map_stack f st)
  item_comma_same (shut (items false None) ∷ st) = refl
  item_comma_same _ = refl

  begin_same : (k : TokenKind) (st : Stack K) → map_state f (machine.begin m k st) ≡ machine.begin n k (map_stack f st)
  begin_same (kinds.Bool b) st = made st _ _ (c.truth b)
  begin_same (kinds.Builtin b) st = made st _ _ (c.builtin b)
  begin_same (kinds.Natural i) st = made st _ _ (c.natural i)
  begin_same (kinds.Integer z) st = made st _ _ (c.integer z)
  begin_same (kinds.Path l) st = fits_same f 15 st _ _ refl
  begin_same (kinds.Url l) st = fits_same f 15 st _ _ refl
  begin_same (kinds.Environment x) st = fits_same f 15 st _ _ refl
  begin_same (kinds.Keyword keywords.Missing) st = fits_same f 15 st _ _ refl
  begin_same (kinds.Keyword keywords.If) st = fits_same f 0 st _ _ refl
  begin_same (kinds.Keyword keywords.Let) st = fits_same f 0 st _ _ refl
  begin_same (kinds.Keyword keywords.Assert) st = fits_same f 0 st _ _ refl
  begin_same (kinds.Keyword keywords.Merge) st = fits_same f 14 st _ _ refl
  begin_same (kinds.Keyword keywords.Some) st = fits_same f 14 st _ _ refl
  begin_same (kinds.Keyword keywords.ToMap) st = fits_same f 14 st _ _ refl
  begin_same (kinds.Mark BracketClose) st = no_item_same st
  begin_same (kinds.Mark Comma) st = item_comma_same st
  begin_same (kinds.Mark Lambda) st = fits_same f 0 st _ _ refl
  begin_same (kinds.Mark Forall) st = fits_same f 0 st _ _ refl
  begin_same _ st = refl

  -- ---- behind an operand

  operate_same : (o : BinOp) (s : State K) → map_state f (machine.operate m o s) ≡ machine.operate n o (map_state f s)
  operate_same o (have st (ready x)) =
      by_same_test (map_state f) (nat_le (left_level o) (m.binds x) && nat_le (least st) (level_of o)) (need («open» (left x o) ∷ st)) stopped (need («open» (left (f.tree x) o) ∷ map_stack f st)) stopped refl refl
      ∙ ap (λ i. if nat_le (left_level o) (m.binds x) && nat_le i (level_of o) then need («open» (left (f.tree x) o) ∷ map_stack f st) else stopped) (sym (least_same f st))
      ∙ ap (λ i. if nat_le (left_level o) i && nat_le (least (map_stack f st)) (level_of o) then need («open» (left (f.tree x) o) ∷ map_stack f st) else stopped) (sym (c.binds x))
  operate_same o _ = refl

  select_same : (s : State K) → map_state f (machine.select m s) ≡ machine.select n (map_state f s)
  select_same (have st (ready x)) =
      by_same_test (map_state f) (nat_le 16 (m.binds x)) (wait (dotted x) st) stopped (wait (dotted (f.tree x)) (map_stack f st)) stopped refl refl
      ∙ ap (λ i. if nat_le 16 i then wait (dotted (f.tree x)) (map_stack f st) else stopped) (sym (c.binds x))
  select_same _ = refl

  point_same : (s : State K) → map_state f (machine.point m s) ≡ machine.point n (map_state f s)
  point_same (have st (ready x)) = fits_same f 0 st _ _ refl
  point_same _ = refl

  annotate_same : (s : State K) → map_state f (machine.annotate m s) ≡ machine.annotate n (map_state f s)
  annotate_same (have st (ready x)) = fits_same f 0 st _ _ refl
  annotate_same _ = refl

  first_update_same : (st : Stack K) (x : K.tree) → map_state f (if nat_le 15 (m.binds x) then expression st (wait (with_start x) st) else stopped) ≡ (if nat_le 15 (n.binds (f.tree x)) then expression (map_stack f st) (wait (with_start (f.tree x)) (map_stack f st)) else stopped)
  first_update_same st x =
      by_same_test (map_state f) (nat_le 15 (m.binds x)) (expression st (wait (with_start x) st)) stopped (expression (map_stack f st) (wait (with_start (f.tree x)) (map_stack f st))) stopped (fits_same f 0 st _ _ refl) refl
      ∙ ap (λ i. if nat_le 15 i then expression (map_stack f st) (wait (with_start (f.tree x)) (map_stack f st)) else stopped) (sym (c.binds x))

  start_update_same : (st : Stack K) (x : K.tree) → map_state f (machine.start_update m st x) ≡ machine.start_update n (map_stack f st) (f.tree x)
  start_update_same («open» (update y ks) ∷ st) v = ap (λ x. wait (with_start x) (map_stack f st)) (c.updating y ks v)
  start_update_same st x = first_update_same st x

  renew_same : (s : State K) → map_state f (machine.renew m s) ≡ machine.renew n (map_state f s)
  renew_same (have st (ready x)) = start_update_same st x
  renew_same _ = refl

  argue_on_same : (k : TokenKind) (st : Stack K) (x : K.tree) → map_state f (machine.argue_on m k st x) ≡ machine.argue_on n k (map_stack f st) (f.tree x)
  argue_on_same k (shut first ∷ st) x = begin_same k («open» (merged x) ∷ st)
  argue_on_same k st x = fits_same f 14 st (machine.begin m k («open» (applied x) ∷ st)) _ (begin_same k («open» (applied x) ∷ st))

  argue_same : (k : TokenKind) (s : State K) → map_state f (machine.argue m k s) ≡ machine.argue n k (map_state f s)
  argue_same k (have st (ready x)) = argue_on_same k st x
  argue_same k _ = refl

  entry_made : (es : Option (K.entries)) (ks : Keys) (x : K.tree) → f.entries (m.add_entry es (m.given ks x)) ≡ n.add_entry (option_map f.entries es) (n.given ks (f.tree x))
  entry_made es ks x = c.add_entry es (m.given ks x) ∙ ap (n.add_entry (option_map f.entries es)) (c.given ks x)

  typed_made : (as' : Option (K.alternatives)) (k : Key) (x : K.tree) → f.alternatives (m.add_alternative as' k (m.typed x)) ≡ n.add_alternative (option_map f.alternatives as') k (n.typed (f.tree x))
  typed_made as' k x = c.add_alternative as' k (m.typed x) ∙ ap (n.add_alternative (option_map f.alternatives as') k) (c.typed x)

  untyped_made : (as' : Option (K.alternatives)) (k : Key) → f.alternatives (m.add_alternative as' k m.untyped) ≡ n.add_alternative (option_map f.alternatives as') k n.untyped
  untyped_made as' k = c.add_alternative as' k m.untyped ∙ ap (n.add_alternative (option_map f.alternatives as') k) c.untyped

  alone_made : (es : Option (K.entries)) (k : Key) → f.entries (m.add_entry es (m.alone k)) ≡ n.add_entry (option_map f.entries es) (n.alone k)
  alone_made es k = c.add_entry es (m.alone k) ∙ ap (n.add_entry (option_map f.entries es)) (c.alone k)

  closed_same : (k : TokenKind) (g : Shut K) (x : K.tree) (st : Stack K) → map_state f (machine.closed m k g x st) ≡ machine.closed n k (map_shut f g) (f.tree x) (map_stack f st)
  closed_same (kinds.Mark Comma) (items b is) x st = ap (λ i. need (shut (items b (Some i)) ∷ map_stack f st)) (c.add_item is x)
  closed_same (kinds.Mark Comma) (field_type b fs k) x st = ap (λ g. wait (field_comma b g) (map_stack f st)) (c.add_field fs k x)
  closed_same (kinds.Mark Comma) (entry_value b es ks) x st = ap (λ g. wait (entry_comma b g) (map_stack f st)) (entry_made es ks x)
  closed_same (kinds.Mark BracketClose) (items b is) x st = made st _ _ (c.list b (m.add_item is x) false ∙ ap (λ i. n.list b i false) (c.add_item is x))
  closed_same (kinds.Mark BraceClose) (field_type b fs k) x st = made st _ _ (c.record_type b (m.add_field fs k x) false ∙ ap (λ g. n.record_type b g false) (c.add_field fs k x))
  closed_same (kinds.Mark BraceClose) (entry_value b es ks) x st = made st _ _ (c.record_of b (m.add_entry es (m.given ks x)) false ∙ ap (λ g. n.record_of b g false) (entry_made es ks x))
  closed_same (kinds.Mark Bar) (alternative_type b as' k) x st = ap (λ g. wait (alternative_bar b g) (map_stack f st)) (typed_made as' k x)
  closed_same (kinds.Mark AngleClose) (alternative_type b as' k) x st = made st _ _ (c.union b (m.add_alternative as' k (m.typed x)) false ∙ ap (λ g. n.union b g false) (typed_made as' k x))
  closed_same (kinds.Keyword keywords.Let) (let_value ls w a) x st = ap (λ b. wait (letting (Some b)) (map_stack f st)) (c.add_let ls w a x)
  closed_same (kinds.Keyword keywords.In) (let_value ls w a) x st = ap (λ b. need («open» (bound b) ∷ map_stack f st)) (c.add_let ls w a x)
  closed_same (kinds.Mark ParenClose) bracket x st = made st _ _ (c.brackets x)
  closed_same (kinds.Mark ParenClose) (domain b w) x st = refl
  closed_same (kinds.Mark ParenClose) (selected t) x st = made st _ _ (c.project_by t x)
  closed_same (kinds.Mark Equals) (let_type ls w) x st = ap (λ a. need (shut (let_value (option_map f.lets ls) w a) ∷ map_stack f st)) (c.typed x)
  closed_same (kinds.Keyword keywords.Then) condition x st = refl
  closed_same (kinds.Keyword keywords.Else) (branch p) x st = refl
  closed_same kinds.InterpolationClose (chunk t cs) x st = refl
  closed_same _ _ x st = refl

  close_on_same : (k : TokenKind) (st : Stack K) (x : K.tree) → map_state f (machine.close_on m k st x) ≡ machine.close_on n k (map_stack f st) (f.tree x)
  close_on_same kinds.End [] x = refl
  close_on_same k (shut g ∷ st) x = closed_same k g x st
  close_on_same k _ x = refl

  close_same : (k : TokenKind) (s : State K) → map_state f (machine.close m k s) ≡ machine.close n k (map_state f s)
  close_same k (have st (ready x)) = close_on_same k st x
  close_same k _ = refl

  index_same : (st : Stack K) (h : Held K) → map_state f (machine.index_on m st h) ≡ machine.index_on n (map_stack f st) (map_held f h)
  index_same st (named w) = refl
  index_same st _ = refl

  digest_same : (d : Digest) (st : Stack K) (h : Held K) → map_state f (machine.digest_on m d st h) ≡ machine.digest_on n d (map_stack f st) (map_held f h)
  digest_same d st (imported i None) = refl
  digest_same d st _ = refl

  mode_same : (st : Stack K) (h : Held K) → map_state f (machine.mode_on m st h) ≡ machine.mode_on n (map_stack f st) (map_held f h)
  mode_same st (imported i d) = refl
  mode_same st _ = refl

  behind_same : (go : State K → State K) (go' : State L → State L) (k : ℕ) (st : Stack K) (h : Held K) → ((s : State K) → map_state f (go s) ≡ go' (map_state f s)) → map_state f (go (machine.join m k st (machine.finish m h))) ≡ go' (machine.join n k (map_stack f st) (machine.finish n (map_held f h)))
  behind_same go go' k st h e = e (machine.join m k st (machine.finish m h)) ∙ ap go' (held_same k st h)

  extend_same : (k : TokenKind) (st : Stack K) (h : Held K) → map_state f (machine.extend m k st h) ≡ machine.extend n k (map_stack f st) (map_held f h)
  extend_same (kinds.Mark (Operator o)) st h = behind_same (machine.operate m o) (machine.operate n o) (left_level o) st h (operate_same o)
  extend_same (kinds.Mark Dot) st h = behind_same (machine.select m) (machine.select n) 16 st h select_same
  extend_same (kinds.Mark Arrow) st h = behind_same (machine.point m) (machine.point n) 1 st h point_same
  extend_same (kinds.Mark Colon) st h = behind_same (machine.annotate m) (machine.annotate n) 1 st h annotate_same
  extend_same (kinds.Mark At) st h = index_same st h
  extend_same (kinds.Digest d) st h = digest_same d st h
  extend_same (kinds.Keyword keywords.As) st h = mode_same st h
  extend_same (kinds.Keyword keywords.With) st h = behind_same (machine.renew m) (machine.renew n) 1 st h renew_same
  extend_same (kinds.Mark ParenClose) st h = behind_same (machine.close m (kinds.Mark ParenClose)) (machine.close n (kinds.Mark ParenClose)) 0 st h (close_same (kinds.Mark ParenClose))
  extend_same (kinds.Mark BracketClose) st h = behind_same (machine.close m (kinds.Mark BracketClose)) (machine.close n (kinds.Mark BracketClose)) 0 st h (close_same (kinds.Mark BracketClose))
  extend_same (kinds.Mark BraceClose) st h = behind_same (machine.close m (kinds.Mark BraceClose)) (machine.close n (kinds.Mark BraceClose)) 0 st h (close_same (kinds.Mark BraceClose))
  extend_same (kinds.Mark AngleClose) st h = behind_same (machine.close m (kinds.Mark AngleClose)) (machine.close n (kinds.Mark AngleClose)) 0 st h (close_same (kinds.Mark AngleClose))
  extend_same (kinds.Mark Comma) st h = behind_same (machine.close m (kinds.Mark Comma)) (machine.close n (kinds.Mark Comma)) 0 st h (close_same (kinds.Mark Comma))
  extend_same (kinds.Mark Equals) st h = behind_same (machine.close m (kinds.Mark Equals)) (machine.close n (kinds.Mark Equals)) 0 st h (close_same (kinds.Mark Equals))
  extend_same (kinds.Mark Bar) st h = behind_same (machine.close m (kinds.Mark Bar)) (machine.close n (kinds.Mark Bar)) 0 st h (close_same (kinds.Mark Bar))
  extend_same (kinds.Keyword keywords.Then) st h = behind_same (machine.close m (kinds.Keyword keywords.Then)) (machine.close n (kinds.Keyword keywords.Then)) 0 st h (close_same (kinds.Keyword keywords.Then))
  extend_same (kinds.Keyword keywords.Else) st h = behind_same (machine.close m (kinds.Keyword keywords.Else)) (machine.close n (kinds.Keyword keywords.Else)) 0 st h (close_same (kinds.Keyword keywords.Else))
  extend_same (kinds.Keyword keywords.Let) st h = behind_same (machine.close m (kinds.Keyword keywords.Let)) (machine.close n (kinds.Keyword keywords.Let)) 0 st h (close_same (kinds.Keyword keywords.Let))
  extend_same (kinds.Keyword keywords.In) st h = behind_same (machine.close m (kinds.Keyword keywords.In)) (machine.close n (kinds.Keyword keywords.In)) 0 st h (close_same (kinds.Keyword keywords.In))
  extend_same kinds.InterpolationClose st h = behind_same (machine.close m kinds.InterpolationClose) (machine.close n kinds.InterpolationClose) 0 st h (close_same kinds.InterpolationClose)
  extend_same kinds.End st h = behind_same (machine.close m kinds.End) (machine.close n kinds.End) 0 st h (close_same kinds.End)
  extend_same k st h = behind_same (machine.argue m k) (machine.argue n k) 14 st h (argue_same k)

  -- ---- within a production

  abbrev Same : Wait K → TokenKind → Stack K → Type 0
  Same w k st = map_state f (machine.waited m w k st) ≡ machine.waited n (map_wait f w) k (map_stack f st)

  first_field_same : (b : Bool) (es : Option (K.entries)) (ks : Keys) (st : Stack K) → Same (entry_keys b es ks) (kinds.Mark Colon) st
  first_field_same b None (one_key k) st = refl
  first_field_same b None (more_keys ks k) st = refl
  first_field_same b (Some es) ks st = refl

  lone_comma_same : (b : Bool) (es : Option (K.entries)) (ks : Keys) (st : Stack K) → Same (entry_keys b es ks) (kinds.Mark Comma) st
  lone_comma_same b es (one_key k) st = ap (λ g. wait (entry_comma b g) (map_stack f st)) (alone_made es k)
  lone_comma_same b es (more_keys ks k) st = refl

  lone_close_same : (b : Bool) (es : Option (K.entries)) (ks : Keys) (st : Stack K) → Same (entry_keys b es ks) (kinds.Mark BraceClose) st
  lone_close_same b es (one_key k) st = made st _ _ (c.record_of b (m.add_entry es (m.alone k)) false ∙ ap (λ g. n.record_of b g false) (alone_made es k))
  lone_close_same b es (more_keys ks k) st = refl

  project_next_same : (x : K.tree) (b : Bool) (ks : Keys) (st : Stack K) (k : Key) → map_state f (unless (among (key_label k) (labels ks)) (wait (projected x b (more_keys ks k)) st)) ≡ unless (among (key_label k) (labels ks)) (wait (projected (f.tree x) b (more_keys ks k)) (map_stack f st))
  project_next_same x b ks st k = unless_same f (among (key_label k) (labels ks)) _ (wait (projected x b (more_keys ks k)) st) refl

  located : (i : _) (d : Option Digest) (x : List ℕ) (st : Stack K) → Same (moded i d) (kinds.Name x) st
  located i d x st =
      location_same (map_state f) (bytes_eq x (codes "Location")) (have st (ready (m.«import» i d modes.Location))) stopped
      ∙ ap (λ y. if bytes_eq x (codes "Location") then have (map_stack f st) (ready y) else stopped) (c.«import» i d modes.Location)

  waited_same : (w : Wait K) (k : TokenKind) (st : Stack K) → Same w k st
  waited_same (quantifier b) (kinds.Mark ParenOpen) st = refl
  waited_same (quantified b) k st = with_name_same f _ _ (name_of k) (λ w. refl)
  waited_same (letting ls) k st = with_name_same f _ _ (name_of k) (λ w. refl)
  waited_same (with_start x) k st = with_key_same f _ _ (key_of k) (λ w. refl)
  waited_same (with_dot x ks) k st = with_key_same f _ _ (key_of k) (λ w. refl)
  waited_same (moded i d) (kinds.Name x) st = located i d x st
  waited_same (moded i d) (kinds.Builtin builtins.Text) st = made st _ _ (c.«import» i d modes.Text)
  waited_same (dotted x) (kinds.Mark BraceOpen) st = refl
  waited_same (dotted x) (kinds.Mark ParenOpen) st = refl
  waited_same (dotted x) k st = with_key_same f (λ k. have st (ready (m.field x k))) _ (key_of k) (λ k. made st _ _ (c.field x k))
  waited_same (projecting x false) (kinds.Mark Comma) st = refl
  waited_same (projecting x b) (kinds.Mark BraceClose) st = made st _ _ (c.project_none x b)
  waited_same (projecting x b) k st = with_key_same f (λ k. wait (projected x b (one_key k)) st) _ (key_of k) (λ w. refl)
  waited_same (projected_comma x b ks) (kinds.Mark BraceClose) st = made st _ _ (c.project x b ks true)
  waited_same (projected_comma x b ks) k st = with_key_same f (λ k. unless (among (key_label k) (labels ks)) (wait (projected x b (more_keys ks k)) st)) _ (key_of k) (project_next_same x b ks st)
  waited_same (union_start false) (kinds.Mark Bar) st = refl
  waited_same (union_start b) (kinds.Mark AngleClose) st = made st _ _ (c.union_none b)
  waited_same (union_start b) k st = with_key_same f (λ k. wait (alternative b None k) st) _ (key_of k) (λ w. refl)
  waited_same (alternative b as' k) (kinds.Mark Colon) st = refl
  waited_same (alternative b as' k) (kinds.Mark Bar) st = ap (λ g. wait (alternative_bar b g) (map_stack f st)) (untyped_made as' k)
  waited_same (alternative b as' k) (kinds.Mark AngleClose) st = made st _ _ (c.union b (m.add_alternative as' k m.untyped) false ∙ ap (λ g. n.union b g false) (untyped_made as' k))
  waited_same (alternative_bar b as') (kinds.Mark AngleClose) st = made st _ _ (c.union b as' true)
  waited_same (alternative_bar b as') k st = with_key_same f (λ k. unless (among (key_label k) (m.alternative_labels as')) (wait (alternative b (Some as') k) st)) _ (key_of k) (λ w. unless_same f (among (key_label w) (m.alternative_labels as')) _ (wait (alternative b (Some as') w) st) (c.alternative_labels (key_label w) as'))
  waited_same (record_start false) (kinds.Mark Comma) st = refl
  waited_same (record_start b) (kinds.Mark Equals) st = refl
  waited_same (record_start b) (kinds.Mark BraceClose) st = made st _ _ (c.record_type_none b)
  waited_same (record_start b) k st = with_key_same f (λ k. wait (entry_keys b None (one_key k)) st) _ (key_of k) (λ w. refl)
  waited_same (field_comma b fs) (kinds.Mark BraceClose) st = made st _ _ (c.record_type b fs true)
  waited_same (field_comma b fs) k st = with_key_same f (λ k. unless (among (key_label k) (m.field_labels fs)) (wait (field_key b fs k) st)) _ (key_of k) (λ w. unless_same f (among (key_label w) (m.field_labels fs)) _ (wait (field_key b fs w) st) (c.field_labels (key_label w) fs))
  waited_same (entry_comma b es) (kinds.Mark BraceClose) st = made st _ _ (c.record_of b es true)
  waited_same (entry_comma b es) k st = with_key_same f (λ k. wait (entry_keys b (Some es) (one_key k)) st) _ (key_of k) (λ w. refl)
  waited_same (entry_keys b es ks) (kinds.Mark Colon) st = first_field_same b es ks st
  waited_same (entry_keys b es ks) (kinds.Mark Comma) st = lone_comma_same b es ks st
  waited_same (entry_keys b es ks) (kinds.Mark BraceClose) st = lone_close_same b es ks st
  waited_same (entry_dot b es ks) k st = with_key_same f _ _ (key_of k) (λ w. refl)
  waited_same (text_front t cs) (kinds.TextPiece p) st = ap (λ g. wait (text_piece t g) (map_stack f st)) (sealed_same cs (Some p))
  waited_same (text_front t cs) kinds.InterpolationOpen st = ap (λ g. need (shut (chunk t g) ∷ map_stack f st)) (sealed_same cs None)
  waited_same (text_front t cs) kinds.TextClose st = made st _ _ (c.text t (machine.sealed m cs None) ∙ ap (n.text t) (sealed_same cs None))
  waited_same (quantity b w) (kinds.Mark Colon) st = refl
  waited_same (domained b w a) (kinds.Mark Arrow) st = refl
  waited_same asserting (kinds.Mark Colon) st = refl
  waited_same (lettered ls w) (kinds.Mark Colon) st = refl
  waited_same (lettered ls w) (kinds.Mark Equals) st = ap (λ a. need (shut (let_value (option_map f.lets ls) w a) ∷ map_stack f st)) c.untyped
  waited_same (with_keys x ks) (kinds.Mark Dot) st = refl
  waited_same (with_keys x ks) (kinds.Mark Equals) st = refl
  waited_same (indexed w) (kinds.Natural i) st = made st _ _ (c.variable w (Some i))
  waited_same (projected x b ks) (kinds.Mark Comma) st = refl
  waited_same (projected x b ks) (kinds.Mark BraceClose) st = made st _ _ (c.project x b ks false)
  waited_same (empty b) (kinds.Mark Colon) st = refl
  waited_same (record_equals b false) (kinds.Mark Comma) st = refl
  waited_same (record_equals b d) (kinds.Mark BraceClose) st = made st _ _ (c.record_none b d)
  waited_same (field_key b fs k) (kinds.Mark Colon) st = refl
  waited_same (entry_keys b es ks) (kinds.Mark Dot) st = refl
  waited_same (entry_keys b es ks) (kinds.Mark Equals) st = refl
  waited_same (text_piece t cs) kinds.InterpolationOpen st = refl
  waited_same (text_piece t cs) kinds.TextClose st = made st _ _ (c.text t cs)
  waited_same _ _ st = refl

  pub carry_after : (k : TokenKind) (s : State K) → map_state f (machine.after m k s) ≡ machine.after n k (map_state f s)
  carry_after k (need st) = begin_same k st
  carry_after k (have st h) = extend_same k st h
  carry_after k (wait w st) = waited_same w k st
  carry_after k (done d) = refl
  carry_after k stopped = refl
