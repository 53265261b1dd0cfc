-- Where the machine counts open expressions: the limit is kept by each token that does not open too many.
use Rattle.std.proofs.Common.{◌≡◌, ℕ, suc, ◌≤◌, Bool, true, false, [], ◌∷◌, refl, sym, arith}
use Rattle.std.specs.Prelude.{Option, Some, None, if◌then◌else◌, nat_lt, nat_le, ◌&&◌}
use Rattle.dh_syntax.specs.declared.operators.BinOp.{BinOp}
use Rattle.dh_syntax.specs.declared.tokens.Keyword.TheVariants as keywords
use Rattle.dh_syntax.specs.declared.tokens.Mark.TheVariants.{ParenOpen, ParenClose, BracketOpen, BracketClose, BraceOpen, BraceClose, AngleOpen, AngleClose, Comma, Dot, Colon, Equals, At, Bar, Arrow, Lambda, Forall, Operator}
use Rattle.dh_syntax.specs.declared.tokens.TokenKind.{TokenKind}
use Rattle.dh_syntax.specs.declared.tokens.TokenKind.TheVariants as kinds
use Rattle.dh_syntax.specs.Expressions.Levels.{level_of, left_level}
use Rattle.dh_syntax.specs.Limits.{most_open}
use Rattle.dh_grammar.specs.Depths.{Within, opens_many}
use Rattle.dh_grammar.specs.Machine as machine
use Rattle.dh_grammar.specs.Machine.{Sorts, Making}
use Rattle.std.specs.Prelude.{codes}
use Rattle.std.proofs.Common.{subst, ltb-false}
use Rattle.dh_syntax.specs.declared.locations.Digest.{Digest}
use Rattle.dh_syntax.specs.declared.operators.Builtin.TheVariants as builtins
use Rattle.dh_syntax.specs.Text.Derivation.{Key, Keys, one_key, more_keys}
use Rattle.dh_syntax.specs.Expressions.Numbers.{bytes_eq}
use Rattle.dh_grammar.specs.Laws.Depths.{KeepsWithin, TestsDepth}
use Rattle.dh_grammar.specs.Reading.{runs_still}
use Rattle.std.proofs.lemmas.Bool.{le-ltb}
use Rattle.dh_syntax.specs.declared.locations.Mode.TheVariants as modes
use Rattle.dh_syntax.specs.Text.Derivation.{key_label, labels}
use Rattle.dh_syntax.specs.Text.Derived.{among}
use Rattle.dh_grammar.specs.Machine.{unless, field_type, shut, ready, quantity, lettered, with_start, with_keys, projected, alternative, field_key, entry_comma, entry_keys, need, have, wait, stopped}

-- what is behind a test is within the limit where the states that it chooses from are
within_if : {K : Sorts} (b : Bool) (s t : machine.State K) → Within s → Within t → Within (if b then s else t)
within_if true s t g h = g
within_if false s t g h = h

module _ {K : Sorts} where
  -- ---- depths on a stack

  open_deeper : (f : machine.Open K) (n : ℕ) → n ≤ machine.open_depth f n
  open_deeper (machine.left l o) n = omega arith
  open_deeper (machine.applied f) n = omega arith
  open_deeper (machine.merged t) n = omega arith
  open_deeper machine.somed n = omega arith
  open_deeper machine.mapped n = omega arith
  open_deeper (machine.update x ks) n = omega arith
  open_deeper _ n = omega arith

  shut_deeper : (f : machine.Shut K) (n : ℕ) → n ≤ machine.shut_depth f n
  shut_deeper machine.first n = omega arith
  shut_deeper _ n = omega arith

  out_lower : (st : machine.Stack K) → machine.depth_out st ≤ machine.depth_on st
  out_lower [] = omega arith
  out_lower (machine.«open» f ∷ st) = let h = out_lower st in let g = open_deeper f (machine.depth_on st) in omega arith
  out_lower (machine.shut f ∷ st) = shut_deeper f (machine.depth_on st)

  -- ---- tests of one token

  within_fits : (n : ℕ) (st : machine.Stack K) (s : machine.State K) → Within s → Within (machine.fits n st s)
  within_fits n st s h = within_if (nat_le (machine.least st) n) s machine.stopped h tt

  within_unless : (b : Bool) (s : machine.State K) → Within s → Within (machine.unless b s)
  within_unless b s h = within_if b machine.stopped s tt h

  within_name : (f : _ → machine.State K) (o : Option _) → ((w : _) → Within (f w)) → Within (machine.with_name f o)
  within_name f None h = tt
  within_name f (Some w) h = h w

  within_key : (f : _ → machine.State K) (o : Option _) → ((w : _) → Within (f w)) → Within (machine.with_key f o)
  within_key f None h = tt
  within_key f (Some w) h = h w

module _ {K : Sorts} (m : Making K) where
  -- ---- joining

  record Joins (st : machine.Stack K) (s : machine.State K) : Type 0 where
    stack : machine.Stack K
    part : K.tree
    is : s ≡ machine.have stack (machine.ready part)
    lower : machine.depth_on stack ≤ machine.depth_on st

  joins_if : (b : Bool) (k : ℕ) (f : machine.Open K) (st : machine.Stack K) (x : K.tree) → Joins st (machine.join m k st (machine.build m f x))
      → Joins (machine.«open» f ∷ st) (if b then machine.join m k st (machine.build m f x) else machine.have (machine.«open» f ∷ st) (machine.ready x))
  joins_if true k f st x j = let h = open_deeper f (machine.depth_on st) in let g = j.lower in record { stack = j.stack; part = j.part; is = j.is; lower = omega arith }
  joins_if false k f st x j = record { stack = machine.«open» f ∷ st; part = x; is = refl; lower = omega arith }

  joins : (k : ℕ) (st : machine.Stack K) (x : K.tree) → Joins st (machine.join m k st x)
  joins k [] x = record { stack = []; part = x; is = refl; lower = omega arith }
  joins k (machine.shut f ∷ st) x = record { stack = machine.shut f ∷ st; part = x; is = refl; lower = omega arith }
  joins k (machine.«open» f ∷ st) x = joins_if (nat_le k (machine.level f)) k f st x (joins k st (machine.build m f x))

  within_joined : (st : machine.Stack K) (go : machine.State K → machine.State K) (s : machine.State K) → Joins st s
      → ((st' : machine.Stack K) (x : K.tree) → machine.depth_on st' ≤ machine.depth_on st → Within (go (machine.have st' (machine.ready x)))) → Within (go s)
  within_joined st go s j h = subst (λ u. Within (go u)) (sym j.is) (h j.stack j.part j.lower)

  -- ---- where an operand begins

  within_no_item : (st : machine.Stack K) → machine.depth_on st ≤ suc most_open → Within (machine.no_item m st)
  within_no_item (machine.shut (machine.items c None) ∷ st) h = within_fits 0 st _ (omega arith)
  within_no_item (machine.shut (machine.items c (Some is)) ∷ st) h = omega arith
  within_no_item _ h = tt

  within_item_comma : (st : machine.Stack K) → machine.depth_on st ≤ suc most_open → Within (machine.item_comma m st)
  within_item_comma (machine.shut (machine.items false None) ∷ st) h = omega arith
  within_item_comma _ h = tt

  within_begin : (k : TokenKind) (st : machine.Stack K) → machine.depth_on st ≤ most_open → Within (machine.begin m k st)
  within_begin (kinds.Name x) st h = h
  within_begin (kinds.Quoted x) st h = h
  within_begin (kinds.Bool b) st h = h
  within_begin (kinds.Builtin b) st h = h
  within_begin (kinds.Natural n) st h = h
  within_begin (kinds.Integer z) st h = h
  within_begin (kinds.TextOpen f) st h = h
  within_begin (kinds.Path l) st h = within_fits 15 st _ h
  within_begin (kinds.Url l) st h = within_fits 15 st _ h
  within_begin (kinds.Environment x) st h = within_fits 15 st _ h
  within_begin (kinds.Keyword keywords.Missing) st h = within_fits 15 st _ h
  within_begin (kinds.Keyword keywords.If) st h = within_fits 0 st _ (omega arith)
  within_begin (kinds.Keyword keywords.Let) st h = within_fits 0 st _ h
  within_begin (kinds.Keyword keywords.Assert) st h = within_fits 0 st _ h
  within_begin (kinds.Keyword keywords.Merge) st h = within_fits 14 st _ (omega arith)
  within_begin (kinds.Keyword keywords.Some) st h = within_fits 14 st _ (omega arith)
  within_begin (kinds.Keyword keywords.ToMap) st h = within_fits 14 st _ (omega arith)
  within_begin (kinds.Mark ParenOpen) st h = omega arith
  within_begin (kinds.Mark BracketOpen) st h = omega arith
  within_begin (kinds.Mark BracketClose) st h = within_no_item st (omega arith)
  within_begin (kinds.Mark Comma) st h = within_item_comma st (omega arith)
  within_begin (kinds.Mark BraceOpen) st h = h
  within_begin (kinds.Mark AngleOpen) st h = h
  within_begin (kinds.Mark Lambda) st h = within_fits 0 st _ h
  within_begin (kinds.Mark Forall) st h = within_fits 0 st _ h
  within_begin _ st h = tt

  -- ---- behind an operand

  within_operate : (o : BinOp) (st : machine.Stack K) (x : K.tree) → machine.depth_on st ≤ most_open → Within (machine.operate m o (machine.have st (machine.ready x)))
  within_operate o st x h = within_if (nat_le (left_level o) (m.binds x) && nat_le (machine.least st) (level_of o)) _ _ (omega arith) tt

  within_select : (st : machine.Stack K) (x : K.tree) → machine.depth_on st ≤ most_open → Within (machine.select m (machine.have st (machine.ready x)))
  within_select st x h = within_if (nat_le 16 (m.binds x)) _ _ h tt

  within_start : (st : machine.Stack K) (x : K.tree) → machine.depth_on st ≤ most_open → Within (machine.start_update m st x)
  within_start (machine.«open» (machine.update y ks) ∷ st) x h = h
  within_start st x h = within_if (nat_le 15 (m.binds x)) (machine.expression st (wait (with_start x) st)) stopped (within_fits 0 st (wait (with_start x) st) h) tt

  within_argue : (k : TokenKind) (st : machine.Stack K) (x : K.tree) → machine.depth_on st ≤ most_open → Within (machine.argue_on m k st x)
  within_argue k (machine.shut machine.first ∷ st) x h = within_begin k (machine.«open» (machine.merged x) ∷ st) h
  within_argue k st x h = within_fits 14 st _ (within_begin k (machine.«open» (machine.applied x) ∷ st) h)

  within_closed : (k : TokenKind) (f : machine.Shut K) (x : K.tree) (st : machine.Stack K) → machine.shut_depth f (machine.depth_on st) ≤ most_open → Within (machine.closed m k f x st)
  within_closed (kinds.Mark ParenClose) machine.bracket x st h = omega arith
  within_closed (kinds.Mark ParenClose) (machine.domain b w) x st h = omega arith
  within_closed (kinds.Mark ParenClose) (machine.selected t) x st h = omega arith
  within_closed (kinds.Mark Equals) (machine.let_type ls w) x st h = omega arith
  within_closed (kinds.Mark Comma) (machine.items c is) x st h = omega arith
  within_closed (kinds.Mark Comma) (machine.field_type c fs k) x st h = omega arith
  within_closed (kinds.Mark Comma) (machine.entry_value c es ks) x st h = omega arith
  within_closed (kinds.Mark BracketClose) (machine.items c is) x st h = omega arith
  within_closed (kinds.Mark BraceClose) (machine.field_type c fs k) x st h = omega arith
  within_closed (kinds.Mark BraceClose) (machine.entry_value c es ks) x st h = omega arith
  within_closed (kinds.Mark Bar) (machine.alternative_type c as' k) x st h = omega arith
  within_closed (kinds.Mark AngleClose) (machine.alternative_type c as' k) x st h = omega arith
  within_closed (kinds.Keyword keywords.Then) machine.condition x st h = omega arith
  within_closed (kinds.Keyword keywords.Else) (machine.branch p) x st h = omega arith
  within_closed (kinds.Keyword keywords.Let) (machine.let_value ls w a) x st h = omega arith
  within_closed (kinds.Keyword keywords.In) (machine.let_value ls w a) x st h = omega arith
  within_closed kinds.InterpolationClose (machine.chunk f cs) x st h = omega arith
  within_closed _ _ x st h = tt

  within_close : (k : TokenKind) (st : machine.Stack K) (x : K.tree) → machine.depth_on st ≤ most_open → Within (machine.close_on m k st x)
  within_close kinds.End [] x h = tt
  within_close k (machine.shut f ∷ st) x h = within_closed k f x st h
  within_close k _ x h = tt

  closes : (k : TokenKind) (st : machine.Stack K) (h : machine.Held K) → machine.depth_on st ≤ most_open → Within (machine.close m k (machine.join m 0 st (machine.finish m h)))
  closes k st h l = within_joined st (machine.close m k) _ (joins 0 st (machine.finish m h)) (λ st' x g. within_close k st' x (omega arith))

  within_index : (st : machine.Stack K) (h : machine.Held K) → machine.depth_on st ≤ most_open → Within (machine.index_on m st h)
  within_index st (machine.named w) l = l
  within_index st _ l = tt

  within_digest : (d : Digest) (st : machine.Stack K) (h : machine.Held K) → machine.depth_on st ≤ most_open → Within (machine.digest_on m d st h)
  within_digest d st (machine.imported i None) l = l
  within_digest d st _ l = tt

  within_mode : (st : machine.Stack K) (h : machine.Held K) → machine.depth_on st ≤ most_open → Within (machine.mode_on m st h)
  within_mode st (machine.imported i d) l = l
  within_mode st _ l = tt

  within_extend : (k : TokenKind) (st : machine.Stack K) (h : machine.Held K) → machine.depth_on st ≤ most_open → Within (machine.extend m k st h)
  within_extend (kinds.Mark (Operator o)) st h l = within_joined st (machine.operate m o) _ (joins (left_level o) st (machine.finish m h)) (λ st' x g. within_operate o st' x (omega arith))
  within_extend (kinds.Mark Dot) st h l = within_joined st (machine.select m) _ (joins 16 st (machine.finish m h)) (λ st' x g. within_select st' x (omega arith))
  within_extend (kinds.Mark Arrow) st h l = within_joined st (machine.point m) _ (joins 1 st (machine.finish m h)) (λ st' x g. within_fits 0 st' _ (omega arith))
  within_extend (kinds.Mark Colon) st h l = within_joined st (machine.annotate m) _ (joins 1 st (machine.finish m h)) (λ st' x g. within_fits 0 st' _ (omega arith))
  within_extend (kinds.Mark At) st h l = within_index st h l
  within_extend (kinds.Digest d) st h l = within_digest d st h l
  within_extend (kinds.Keyword keywords.As) st h l = within_mode st h l
  within_extend (kinds.Keyword keywords.With) st h l = within_joined st (machine.renew m) _ (joins 1 st (machine.finish m h)) (λ st' x g. within_start st' x (omega arith))
  within_extend (kinds.Mark ParenClose) st h l = closes (kinds.Mark ParenClose) st h l
  within_extend (kinds.Mark BracketClose) st h l = closes (kinds.Mark BracketClose) st h l
  within_extend (kinds.Mark BraceClose) st h l = closes (kinds.Mark BraceClose) st h l
  within_extend (kinds.Mark AngleClose) st h l = closes (kinds.Mark AngleClose) st h l
  within_extend (kinds.Mark Comma) st h l = closes (kinds.Mark Comma) st h l
  within_extend (kinds.Mark Equals) st h l = closes (kinds.Mark Equals) st h l
  within_extend (kinds.Mark Bar) st h l = closes (kinds.Mark Bar) st h l
  within_extend (kinds.Keyword keywords.Then) st h l = closes (kinds.Keyword keywords.Then) st h l
  within_extend (kinds.Keyword keywords.Else) st h l = closes (kinds.Keyword keywords.Else) st h l
  within_extend (kinds.Keyword keywords.Let) st h l = closes (kinds.Keyword keywords.Let) st h l
  within_extend (kinds.Keyword keywords.In) st h l = closes (kinds.Keyword keywords.In) st h l
  within_extend kinds.InterpolationClose st h l = closes kinds.InterpolationClose st h l
  within_extend kinds.End st h l = closes kinds.End st h l
  within_extend k st h l = within_joined st (machine.argue m k) _ (joins 14 st (machine.finish m h)) (λ st' x g. within_argue k st' x (omega arith))

  -- ---- within a production

  within_first : (es : Option (K.entries)) (ks : Keys) (f : Key → machine.State K) → ((k : Key) → Within (f k)) → Within (machine.first_field es ks f)
  within_first None (one_key k) f h = h k
  within_first None (more_keys ks k) f h = tt
  within_first (Some es) ks f h = tt

  within_lone : (es : Option (K.entries)) (ks : Keys) (f : K.entries → machine.State K) → ((es : K.entries) → Within (f es)) → Within (machine.lone m es ks f)
  within_lone es (one_key k) f h = h (m.add_entry es (m.alone k))
  within_lone es (more_keys ks k) f h = tt

  within_waited : (w : machine.Wait K) (k : TokenKind) (st : machine.Stack K) → machine.depth_on st ≤ most_open → Within (machine.waited m w k st)
  within_waited (machine.quantifier b) (kinds.Mark ParenOpen) st h = h
  within_waited (machine.quantified b) k st h = within_name (λ w. wait (quantity b w) st) (machine.name_of k) (λ w. h)
  within_waited (machine.quantity b w) (kinds.Mark Colon) st h = omega arith
  within_waited (machine.domained b w a) (kinds.Mark Arrow) st h = omega arith
  within_waited machine.asserting (kinds.Mark Colon) st h = omega arith
  within_waited (machine.letting ls) k st h = within_name (λ w. wait (lettered ls w) st) (machine.name_of k) (λ w. h)
  within_waited (machine.lettered ls w) (kinds.Mark Colon) st h = omega arith
  within_waited (machine.lettered ls w) (kinds.Mark Equals) st h = omega arith
  within_waited (machine.with_start x) k st h = within_key (λ k. wait (with_keys x (one_key k)) st) (machine.key_of k) (λ w. h)
  within_waited (machine.with_keys x ks) (kinds.Mark Dot) st h = h
  within_waited (machine.with_keys x ks) (kinds.Mark Equals) st h = omega arith
  within_waited (machine.with_dot x ks) k st h = within_key (λ k. wait (with_keys x (more_keys ks k)) st) (machine.key_of k) (λ w. h)
  within_waited (machine.indexed w) (kinds.Natural n) st h = h
  within_waited (machine.moded i d) (kinds.Builtin builtins.Text) st h = h
  within_waited (machine.moded i d) (kinds.Name x) st h = within_if (bytes_eq x (codes "Location")) (have st (ready (m.import i d modes.Location))) stopped h tt
  within_waited (machine.dotted x) (kinds.Mark BraceOpen) st h = h
  within_waited (machine.dotted x) (kinds.Mark ParenOpen) st h = omega arith
  within_waited (machine.dotted x) k st h = within_key (λ k. have st (ready (m.field x k))) (machine.key_of k) (λ w. h)
  within_waited (machine.projecting x false) (kinds.Mark Comma) st h = h
  within_waited (machine.projecting x c) (kinds.Mark BraceClose) st h = h
  within_waited (machine.projecting x c) k st h = within_key (λ k. wait (projected x c (one_key k)) st) (machine.key_of k) (λ w. h)
  within_waited (machine.projected x c ks) (kinds.Mark Comma) st h = h
  within_waited (machine.projected x c ks) (kinds.Mark BraceClose) st h = h
  within_waited (machine.projected_comma x c ks) (kinds.Mark BraceClose) st h = h
  within_waited (machine.projected_comma x c ks) k st h = within_key (λ k. unless (among (key_label k) (labels ks)) (wait (projected x c (more_keys ks k)) st)) (machine.key_of k) (λ k. within_unless (among (key_label k) (labels ks)) (wait (projected x c (more_keys ks k)) st) h)
  within_waited (machine.empty c) (kinds.Mark Colon) st h = omega arith
  within_waited (machine.union_start false) (kinds.Mark Bar) st h = h
  within_waited (machine.union_start c) (kinds.Mark AngleClose) st h = h
  within_waited (machine.union_start c) k st h = within_key (λ k. wait (alternative c None k) st) (machine.key_of k) (λ w. h)
  within_waited (machine.alternative c as' k) (kinds.Mark Colon) st h = omega arith
  within_waited (machine.alternative c as' k) (kinds.Mark Bar) st h = h
  within_waited (machine.alternative c as' k) (kinds.Mark AngleClose) st h = h
  within_waited (machine.alternative_bar c as') (kinds.Mark AngleClose) st h = h
  within_waited (machine.alternative_bar c as') k st h = within_key (λ k. unless (among (key_label k) (m.alternative_labels as')) (wait (alternative c (Some as') k) st)) (machine.key_of k) (λ k. within_unless (among (key_label k) (m.alternative_labels as')) (wait (alternative c (Some as') k) st) h)
  within_waited (machine.record_start false) (kinds.Mark Comma) st h = h
  within_waited (machine.record_start c) (kinds.Mark Equals) st h = h
  within_waited (machine.record_start c) (kinds.Mark BraceClose) st h = h
  within_waited (machine.record_start c) k st h = within_key (λ k. wait (entry_keys c None (one_key k)) st) (machine.key_of k) (λ w. h)
  within_waited (machine.record_equals c false) (kinds.Mark Comma) st h = h
  within_waited (machine.record_equals c d) (kinds.Mark BraceClose) st h = h
  within_waited (machine.field_comma c fs) (kinds.Mark BraceClose) st h = h
  within_waited (machine.field_comma c fs) k st h = within_key (λ k. unless (among (key_label k) (m.field_labels fs)) (wait (field_key c fs k) st)) (machine.key_of k) (λ k. within_unless (among (key_label k) (m.field_labels fs)) (wait (field_key c fs k) st) h)
  within_waited (machine.field_key c fs k) (kinds.Mark Colon) st h = omega arith
  within_waited (machine.entry_comma c es) (kinds.Mark BraceClose) st h = h
  within_waited (machine.entry_comma c es) k st h = within_key (λ k. wait (entry_keys c (Some es) (one_key k)) st) (machine.key_of k) (λ w. h)
  within_waited (machine.entry_keys c es ks) (kinds.Mark Colon) st h = within_first es ks (λ k. need (shut (field_type c None k) ∷ st)) (λ k. omega arith)
  within_waited (machine.entry_keys c es ks) (kinds.Mark Dot) st h = h
  within_waited (machine.entry_keys c es ks) (kinds.Mark Equals) st h = omega arith
  within_waited (machine.entry_keys c es ks) (kinds.Mark Comma) st h = within_lone es ks (λ es. wait (entry_comma c es) st) (λ es. h)
  within_waited (machine.entry_keys c es ks) (kinds.Mark BraceClose) st h = within_lone es ks (λ es. have st (ready (m.record_of c es false))) (λ es. h)
  within_waited (machine.entry_dot c es ks) k st h = within_key (λ k. wait (entry_keys c es (more_keys ks k)) st) (machine.key_of k) (λ w. h)
  within_waited (machine.text_front f cs) (kinds.TextPiece p) st h = h
  within_waited (machine.text_front f cs) kinds.InterpolationOpen st h = omega arith
  within_waited (machine.text_front f cs) kinds.TextClose st h = h
  within_waited (machine.text_piece f cs) kinds.InterpolationOpen st h = omega arith
  within_waited (machine.text_piece f cs) kinds.TextClose st h = h
  within_waited _ _ st h = tt

  -- ---- one token

  -- a kind that begins no operand, or that stands where not too many are open
  few_open : (st : machine.Stack K) (k : TokenKind) → machine.depth_on st ≤ suc most_open → nat_lt most_open (machine.depth_on st) ≡ false → machine.depth_on st ≤ most_open
  few_open st k h e = let g = ltb-false most_open (machine.depth_on st) e in omega arith

  within_need : (k : TokenKind) (st : machine.Stack K) → machine.depth_on st ≤ suc most_open → opens_many (machine.need st) k ≡ false → Within (machine.begin m k st)
  within_need (kinds.Mark BracketClose) st h e = within_no_item st h
  within_need (kinds.Mark Comma) st h e = within_item_comma st h
  within_need k st h e = within_begin k st (few_open st k h e)

  pub keeps_within : KeepsWithin m
  keeps_within (machine.need st) k h e = within_need k st h e
  keeps_within (machine.have st x) k h e = within_extend k st x h
  keeps_within (machine.wait w st) k h e = within_waited w k st h
  keeps_within (machine.done x) k h e = tt
  keeps_within machine.stopped k h e = tt

-- ---- the test of the reader

not_more : (n : ℕ) → n ≤ most_open → nat_lt most_open n ≡ false
not_more n h = le-ltb most_open n h

extend_low : {K : Sorts} (k : TokenKind) (st : machine.Stack K) → machine.extend_depth k st ≤ machine.depth_on st
extend_low (kinds.Mark ParenClose) st = out_lower st
extend_low (kinds.Mark BracketClose) st = out_lower st
extend_low (kinds.Mark BraceClose) st = out_lower st
extend_low (kinds.Mark AngleClose) st = out_lower st
extend_low (kinds.Mark Comma) st = out_lower st
extend_low (kinds.Mark Equals) st = out_lower st
extend_low (kinds.Mark Bar) st = out_lower st
extend_low (kinds.Keyword keywords.Then) st = out_lower st
extend_low (kinds.Keyword keywords.Else) st = out_lower st
extend_low (kinds.Keyword keywords.Let) st = out_lower st
extend_low (kinds.Keyword keywords.In) st = out_lower st
extend_low kinds.InterpolationClose st = out_lower st
extend_low kinds.End st = out_lower st
extend_low _ st = omega arith

module _ {K : Sorts} (m : Making K) where
  item_depth : (st : machine.Stack K) → machine.depth_on st ≤ suc most_open → runs_still (machine.no_item m st) ≡ true → nat_lt most_open (machine.depth_out st) ≡ false
  item_depth (machine.shut (machine.items c is) ∷ st) h e = not_more (machine.depth_on st) (omega arith)
  item_depth _ h e = absurd cc

  comma_depth : (st : machine.Stack K) → machine.depth_on st ≤ suc most_open → runs_still (machine.item_comma m st) ≡ true → nat_lt most_open (machine.depth_out st) ≡ false
  comma_depth (machine.shut (machine.items c is) ∷ st) h e = not_more (machine.depth_on st) (omega arith)
  comma_depth _ h e = absurd cc

  need_depth : (k : TokenKind) (st : machine.Stack K) → machine.depth_on st ≤ suc most_open → runs_still (machine.begin m k st) ≡ true → nat_lt most_open (machine.begin_depth k st) ≡ opens_many (machine.need st) k
  need_depth (kinds.Mark BracketClose) st h e = item_depth st h e
  need_depth (kinds.Mark Comma) st h e = comma_depth st h e
  need_depth _ st h e = refl

  pub tests_depth : TestsDepth m
  tests_depth (machine.need st) k h e = need_depth k st h e
  tests_depth (machine.have st x) k h e = let l = extend_low k st in not_more (machine.extend_depth k st) (omega arith)
  tests_depth (machine.wait w st) k h e = not_more (machine.depth_on st) h
  tests_depth (machine.done x) k h e = refl
  tests_depth machine.stopped k h e = refl
