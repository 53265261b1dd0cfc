-- A machine that reads the tokens of the whole grammar one at a time and never looks ahead.
use Rattle.std.specs.Prelude.{ℕ, suc, nat_le, Bool, true, false, ◌&&◌, if◌then◌else◌, List, [], ◌∷◌, Option, Some, None, codes}
use Rattle.dh_syntax.specs.declared.locations.Digest.{Digest}
use Rattle.dh_syntax.specs.declared.locations.Mode.TheVariants as modes
use Rattle.dh_syntax.specs.declared.operators.BinOp.{BinOp}
use Rattle.dh_syntax.specs.declared.operators.Builtin.TheVariants as builtins
use Rattle.dh_syntax.specs.declared.tokens.Keyword.TheVariants as keywords
use Rattle.dh_syntax.specs.declared.tokens.Mark.TheVariants.{ParenOpen, ParenClose, BracketOpen, BracketClose, BraceOpen, BraceClose, AngleOpen, AngleClose, Comma, Dot, Colon, Equals, At, Bar, Arrow, Lambda, Forall, Operator}
use Rattle.dh_syntax.specs.declared.tokens.TextForm.{TextForm}
use Rattle.dh_syntax.specs.declared.tokens.TokenKind.{TokenKind}
use Rattle.dh_syntax.specs.declared.tokens.TokenKind.TheVariants as kinds
use Rattle.dh_syntax.specs.Text.Derivation.{NameToken, plain, quoted, Key, name_key, truth_key, builtin_key, some_key, key_label, labels, Keys, one_key, more_keys, ImportType, path, url, environment, missing}
use Rattle.dh_syntax.specs.Text.Derived.{among}
use Rattle.dh_syntax.specs.Expressions.Levels.{level_of, left_level}
use Rattle.dh_syntax.specs.Expressions.Numbers.{bytes_eq}
use Rattle.dh_syntax.specs.Text.Yield.{Written, token, apart, free, gap_after}
pub use Rattle.dh_grammar.specs.Making.{Sorts, Making}

-- ---- what is on the stack

-- A tree with a place for its last part, which ends where what follows cannot go on with it. The place is written [ ].
pub data Open (K : Sorts) : Type 0 where
  -- l o [ ]
  left : K.tree → BinOp → Open K
  -- f [ ]
  applied : K.tree → Open K
  -- merge t [ ]
  merged : K.tree → Open K
  -- Some [ ], toMap [ ]
  somed : Open K
  mapped : Open K
  -- x with ks = [ ], where x may be updates
  update : K.tree → Keys → Open K
  -- λ(w : a) → [ ], or ∀
  body : Bool → NameToken → K.tree → Open K
  -- a → [ ]
  target : K.tree → Open K
  -- if p then t else [ ]
  otherwise : K.tree → K.tree → Open K
  -- lets in [ ]
  bound : K.lets → Open K
  -- t : [ ]
  noted : K.tree → Open K
  -- [] : [ ]
  emptied : Bool → Open K
  -- assert : [ ]
  asserted : Open K

-- what stands between the opening of a text and an interpolation, or between two
pub data Front (K : Sorts) : Type 0 where
  opening : Front K
  behind : K.chunks → K.tree → Front K

-- A tree with a place that a token ends.
pub data Shut (K : Sorts) : Type 0 where
  -- ( [ ] )
  bracket : Shut K
  -- λ(w : [ ] )
  domain : Bool → NameToken → Shut K
  -- if [ ] then, if p then [ ] else
  condition : Shut K
  branch : K.tree → Shut K
  -- lets let w : [ ] =, lets let w note = [ ] let or in
  let_type : Option (K.lets) → NameToken → Shut K
  let_value : Option (K.lets) → NameToken → K.note → Shut K
  -- x.( [ ] )
  selected : K.tree → Shut K
  -- merge [ ]: the next operand ends it
  first : Shut K
  -- [ is, [ ]
  items : Bool → Option (K.items) → Shut K
  -- < as | k : [ ]
  alternative_type : Bool → Option (K.alternatives) → Key → Shut K
  -- { fs, k : [ ], { es, ks = [ ]
  field_type : Bool → Option (K.fields) → Key → Shut K
  entry_value : Bool → Option (K.entries) → Keys → Shut K
  -- " .. ${ [ ]
  chunk : TextForm → K.chunks → Shut K

-- a place on the stack: one that a token ends, or one that what follows ends
pub data Frame (K : Sorts) : Type 0 where
  «open» : Open K → Frame K
  shut : Shut K → Frame K

-- An operand whose last token may be followed by more of it.
pub data Held (K : Sorts) : Type 0 where
  named : NameToken → Held K
  imported : ImportType → Option Digest → Held K
  ready : K.tree → Held K

-- Where a token of a production is awaited that is no part's.
pub data Wait (K : Sorts) : Type 0 where
  -- λ, λ( , λ(w , λ(w : a)
  quantifier : Bool → Wait K
  quantified : Bool → Wait K
  quantity : Bool → NameToken → Wait K
  domained : Bool → NameToken → K.tree → Wait K
  -- assert
  asserting : Wait K
  -- lets let, lets let w
  letting : Option (K.lets) → Wait K
  lettered : Option (K.lets) → NameToken → Wait K
  -- x with, x with ks, x with ks.
  with_start : K.tree → Wait K
  with_keys : K.tree → Keys → Wait K
  with_dot : K.tree → Keys → Wait K
  -- w@
  indexed : NameToken → Wait K
  -- i as
  moded : ImportType → Option Digest → Wait K
  -- x. , x.{ , x.{ ks , x.{ ks,
  dotted : K.tree → Wait K
  projecting : K.tree → Bool → Wait K
  projected : K.tree → Bool → Keys → Wait K
  projected_comma : K.tree → Bool → Keys → Wait K
  -- [ ]
  empty : Bool → Wait K
  -- < , < as | k , < as |
  union_start : Bool → Wait K
  alternative : Bool → Option (K.alternatives) → Key → Wait K
  alternative_bar : Bool → K.alternatives → Wait K
  -- { , {=
  record_start : Bool → Wait K
  record_equals : Bool → Bool → Wait K
  -- { fs, and { fs, k
  field_comma : Bool → K.fields → Wait K
  field_key : Bool → K.fields → Key → Wait K
  -- { es, and { es, ks and { es, ks. ; the first key of a record may yet be a field's
  entry_comma : Bool → K.entries → Wait K
  entry_keys : Bool → Option (K.entries) → Keys → Wait K
  entry_dot : Bool → Option (K.entries) → Keys → Wait K
  -- " .. , and the same with a piece
  text_front : TextForm → Front K → Wait K
  text_piece : TextForm → K.chunks → Wait K

-- the places that stand open, the innermost first
abbrev pub Stack : Sorts → Type 0
Stack K = List (Frame K)

-- what the machine awaits: an operand, what may follow one, a token of a production, or nothing
pub data State (K : Sorts) : Type 0 where
  need : Stack K → State K
  have : Stack K → Held K → State K
  wait : Wait K → Stack K → State K
  done : K.tree → State K
  stopped : State K

-- ---- levels and depths

-- how tightly the tree of an open frame binds, and how tightly its place asks
abbrev pub level : {K : Sorts} → Open K → ℕ
level (left l o) = level_of o
level (applied f) = 14
level (merged t) = 14
level somed = 14
level mapped = 14
level _ = 0

-- the least level of a tree in the place of an open frame
abbrev pub asks : {K : Sorts} → Open K → ℕ
asks (left l o) = suc (level_of o)
asks (applied f) = 15
asks (merged t) = 15
asks somed = 15
asks mapped = 15
asks (update x ks) = 1
asks _ = 0

-- the least level of a tree in a place that a token ends
abbrev pub shut_asks : {K : Sorts} → Shut K → ℕ
shut_asks first = 15
shut_asks _ = 0

-- how tightly the tree binds whose place a token ends
abbrev pub shut_level : {K : Sorts} → Shut K → ℕ
shut_level (domain b w) = 0
shut_level condition = 0
shut_level (branch p) = 0
shut_level (let_type ls w) = 0
shut_level (let_value ls w a) = 0
shut_level (selected x) = 16
shut_level first = 14
shut_level _ = 17

-- the least level that may stand on a stack
abbrev pub least : {K : Sorts} → Stack K → ℕ
least [] = 0
least («open» f ∷ st) = asks f
least (shut f ∷ st) = shut_asks f

-- whether white space is needed before the place of an open frame
abbrev pub open_gap : {K : Sorts} → Open K → Bool
open_gap (left l o) = gap_after o
open_gap (update x ks) = free
open_gap (body b w a) = free
open_gap (target a) = free
open_gap _ = apart

-- whether white space is needed before a place that a token ends
abbrev pub shut_gap : {K : Sorts} → Shut K → Bool
shut_gap (domain b w) = apart
shut_gap condition = apart
shut_gap (branch p) = apart
shut_gap (let_type ls w) = apart
shut_gap first = apart
shut_gap (alternative_type c as' k) = apart
shut_gap (field_type c fs k) = apart
shut_gap _ = free

-- whether white space is needed where an operand begins on a stack
abbrev pub gap_on : {K : Sorts} → Stack K → Bool
gap_on [] = free
gap_on («open» f ∷ st) = open_gap f
gap_on (shut f ∷ st) = shut_gap f

-- how many productions `expr` stand open in the place of a frame where n stand open outside
abbrev pub open_depth : {K : Sorts} → Open K → ℕ → ℕ
open_depth (left l o) n = n
open_depth (applied f) n = n
open_depth (merged t) n = n
open_depth somed n = n
open_depth mapped n = n
open_depth (update x ks) n = n
open_depth _ n = suc n

-- how many productions `expr` stand open in a place that a token ends, where n stand open outside
abbrev pub shut_depth : {K : Sorts} → Shut K → ℕ → ℕ
shut_depth first n = n
shut_depth _ n = suc n

-- how many productions `expr` stand open in the topmost place of a stack
abbrev pub depth_on : {K : Sorts} → Stack K → ℕ
depth_on [] = 1
depth_on («open» f ∷ st) = open_depth f (depth_on st)
depth_on (shut f ∷ st) = shut_depth f (depth_on st)

-- the same at the token that ends the topmost place which a token ends
abbrev pub depth_out : {K : Sorts} → Stack K → ℕ
depth_out [] = 0
depth_out («open» f ∷ st) = depth_out st
depth_out (shut f ∷ st) = depth_on st

-- ---- tests of one token

-- a token that is a name, or a key
abbrev pub name_of : TokenKind → Option NameToken
name_of (kinds.Name x) = Some (plain x)
name_of (kinds.Quoted x) = Some (quoted x)
name_of _ = None

-- the key that a token is, if it can be one
abbrev pub key_of : TokenKind → Option Key
key_of (kinds.Name x) = Some (name_key (plain x))
key_of (kinds.Quoted x) = Some (name_key (quoted x))
key_of (kinds.Bool b) = Some (truth_key b)
key_of (kinds.Builtin b) = Some (builtin_key b)
key_of (kinds.Keyword keywords.Some) = Some some_key
key_of _ = None

-- go on with a name, or stop where there is none
abbrev pub with_name : {K : Sorts} → (NameToken → State K) → Option NameToken → State K
with_name f None = stopped
with_name f (Some w) = f w

-- go on with a key, or stop where there is none
abbrev pub with_key : {K : Sorts} → (Key → State K) → Option Key → State K
with_key f None = stopped
with_key f (Some k) = f k

-- where a tree of this level may stand
abbrev pub fits : {K : Sorts} → ℕ → Stack K → State K → State K
fits n st s = if nat_le (least st) n then s else stopped

-- where a whole expression may stand
abbrev pub expression : {K : Sorts} → Stack K → State K → State K
expression st s = fits 0 st s

-- a key that is repeated is refused
abbrev pub unless : {K : Sorts} → Bool → State K → State K
unless b s = if b then stopped else s

-- the only key, if there is just one
abbrev pub one_of : Keys → Option Key
one_of (one_key k) = Some k
one_of (more_keys ks k) = None

-- a record type can begin only where no entry came before and one key stands alone
abbrev pub first_field : {K : Sorts} → Option (K.entries) → Keys → (Key → State K) → State K
first_field None (one_key k) f = f k
first_field _ _ f = stopped

-- ---- what the tree of a token says beside its kind

-- whether white space is needed before the token that is awaited
abbrev pub wait_gap : {K : Sorts} → Wait K → Bool
wait_gap (letting ls) = apart
wait_gap (with_start x) = apart
wait_gap (moded i d) = apart
wait_gap _ = free

-- behind an operand: an argument, a digest, `with`, `let` and `in` need a gap
abbrev pub extend_gap : TokenKind → Bool
extend_gap (kinds.Mark ParenOpen) = apart
extend_gap (kinds.Mark BracketOpen) = apart
extend_gap (kinds.Mark BraceOpen) = apart
extend_gap (kinds.Mark AngleOpen) = apart
extend_gap (kinds.Mark Lambda) = apart
extend_gap (kinds.Mark Forall) = apart
extend_gap (kinds.Mark m) = free
extend_gap (kinds.Keyword keywords.Then) = free
extend_gap (kinds.Keyword keywords.Else) = free
extend_gap (kinds.Keyword keywords.As) = free
extend_gap kinds.InterpolationClose = free
extend_gap kinds.End = free
extend_gap _ = apart

-- whether white space is needed before this token in a state
abbrev pub gap_at : {K : Sorts} → State K → TokenKind → Bool
gap_at (need st) k = gap_on st
gap_at (have st h) k = extend_gap k
gap_at (wait w st) k = wait_gap w
gap_at _ k = free

-- how many expressions stand open at a token where an operand may begin
abbrev pub begin_depth : {K : Sorts} → TokenKind → Stack K → ℕ
begin_depth (kinds.Mark BracketClose) st = depth_out st
begin_depth (kinds.Mark Comma) st = depth_out st
begin_depth _ st = depth_on st

-- how many expressions stand open at a token behind an operand
abbrev pub extend_depth : {K : Sorts} → TokenKind → Stack K → ℕ
extend_depth (kinds.Mark ParenClose) st = depth_out st
extend_depth (kinds.Mark BracketClose) st = depth_out st
extend_depth (kinds.Mark BraceClose) st = depth_out st
extend_depth (kinds.Mark AngleClose) st = depth_out st
extend_depth (kinds.Mark Comma) st = depth_out st
extend_depth (kinds.Mark Equals) st = depth_out st
extend_depth (kinds.Mark Bar) st = depth_out st
extend_depth (kinds.Keyword keywords.Then) st = depth_out st
extend_depth (kinds.Keyword keywords.Else) st = depth_out st
extend_depth (kinds.Keyword keywords.Let) st = depth_out st
extend_depth (kinds.Keyword keywords.In) st = depth_out st
extend_depth kinds.InterpolationClose st = depth_out st
extend_depth kinds.End st = depth_out st
extend_depth _ st = depth_on st

-- how many expressions stand open at this token in a state
abbrev pub depth_at : {K : Sorts} → State K → TokenKind → ℕ
depth_at (need st) k = begin_depth k st
depth_at (have st h) k = extend_depth k st
depth_at (wait w st) k = depth_on st
depth_at _ k = 0

-- a token with its depth and the gap that it needs in a state
abbrev pub written : {K : Sorts} → State K → TokenKind → Written
written s k = token (depth_at s k) (gap_at s k) k

-- ---- the machine

module _ {K : Sorts} (m : Making K) where
  abbrev pub build : Open K → K.tree → K.tree
  build (left l o) x = m.operation o l x
  build (applied f) x = m.application f x
  build (merged t) x = m.merging t x
  build somed x = m.some_of x
  build mapped x = m.to_map x
  build (update y ks) x = m.updating y ks x
  build (body b w a) x = m.quantify b w a x
  build (target a) x = m.arrow a x
  build (otherwise p t) x = m.choice p t x
  build (bound ls) x = m.lets ls x
  build (noted t) x = m.noting t x
  build (emptied c) x = m.empty_list c x
  build asserted x = m.assertion x

  abbrev pub finish : Held K → K.tree
  finish (named w) = m.variable w None
  finish (imported i d) = m.import i d modes.Code
  finish (ready x) = x

  abbrev pub sealed : Front K → Option (List ℕ) → K.chunks
  sealed opening p = m.start p
  sealed (behind cs e) p = m.more_chunks cs e p

  -- the operand joined with the open frames above the topmost shut one that bind at least as tightly as k
  abbrev pub join : ℕ → Stack K → K.tree → State K
  join k [] x = have [] (ready x)
  join k («open» f ∷ st) x = if nat_le k (level f) then join k st (build f x) else have («open» f ∷ st) (ready x)
  join k (shut f ∷ st) x = have (shut f ∷ st) (ready x)

  abbrev pub joined : ℕ → State K → State K
  joined k (have st h) = join k st (finish h)
  joined k s = s

  -- `]` where an item may stand
  abbrev pub no_item : Stack K → State K
  no_item (shut (items c None) ∷ st) = expression st (wait (empty c) st)
  no_item (shut (items c (Some is)) ∷ st) = have st (ready (m.list c is true))
  no_item _ = stopped

  abbrev pub item_comma : Stack K → State K
  item_comma (shut (items false None) ∷ st) = need (shut (items true None) ∷ st)
  item_comma _ = stopped

  -- a token where an operand or an expression begins
  abbrev pub begin : TokenKind → Stack K → State K
  begin (kinds.Name x) st = have st (named (plain x))
  begin (kinds.Quoted x) st = have st (named (quoted x))
  begin (kinds.Bool b) st = have st (ready (m.truth b))
  begin (kinds.Builtin b) st = have st (ready (m.builtin b))
  begin (kinds.Natural n) st = have st (ready (m.natural n))
  begin (kinds.Integer z) st = have st (ready (m.integer z))
  begin (kinds.TextOpen f) st = wait (text_front f opening) st
  begin (kinds.Path l) st = fits 15 st (have st (imported (path l) None))
  begin (kinds.Url l) st = fits 15 st (have st (imported (url l) None))
  begin (kinds.Environment x) st = fits 15 st (have st (imported (environment x) None))
  begin (kinds.Keyword keywords.Missing) st = fits 15 st (have st (imported missing None))
  begin (kinds.Keyword keywords.If) st = expression st (need (shut condition ∷ st))
  begin (kinds.Keyword keywords.Let) st = expression st (wait (letting None) st)
  begin (kinds.Keyword keywords.Assert) st = expression st (wait asserting st)
  begin (kinds.Keyword keywords.Merge) st = fits 14 st (need (shut first ∷ st))
  begin (kinds.Keyword keywords.Some) st = fits 14 st (need («open» somed ∷ st))
  begin (kinds.Keyword keywords.ToMap) st = fits 14 st (need («open» mapped ∷ st))
  begin (kinds.Mark ParenOpen) st = need (shut bracket ∷ st)
  begin (kinds.Mark BracketOpen) st = need (shut (items false None) ∷ st)
  begin (kinds.Mark BracketClose) st = no_item st
  begin (kinds.Mark Comma) st = item_comma st
  begin (kinds.Mark BraceOpen) st = wait (record_start false) st
  begin (kinds.Mark AngleOpen) st = wait (union_start false) st
  begin (kinds.Mark Lambda) st = expression st (wait (quantifier true) st)
  begin (kinds.Mark Forall) st = expression st (wait (quantifier false) st)
  begin _ st = stopped

  -- an operator, `.`, `→`, `:` and `with` behind an operand
  abbrev pub operate : BinOp → State K → State K
  operate o (have st (ready x)) =
      if nat_le (left_level o) (m.binds x) && nat_le (least st) (level_of o) then need («open» (left x o) ∷ st) else stopped
  operate o _ = stopped

  abbrev pub select : State K → State K
  select (have st (ready x)) = if nat_le 16 (m.binds x) then wait (dotted x) st else stopped
  select _ = stopped

  abbrev pub point : State K → State K
  point (have st (ready x)) = expression st (need («open» (target x) ∷ st))
  point _ = stopped

  abbrev pub annotate : State K → State K
  annotate (have st (ready x)) = expression st (need («open» (noted x) ∷ st))
  annotate _ = stopped

  abbrev pub start_update : Stack K → K.tree → State K
  start_update («open» (update y ks) ∷ st) v = wait (with_start (m.updating y ks v)) st
  start_update st x = if nat_le 15 (m.binds x) then expression st (wait (with_start x) st) else stopped

  abbrev pub renew : State K → State K
  renew (have st (ready x)) = start_update st x
  renew _ = stopped

  -- the token of an argument, or of the second operand of `merge`
  abbrev pub argue_on : TokenKind → Stack K → K.tree → State K
  argue_on k (shut first ∷ st) x = begin k («open» (merged x) ∷ st)
  argue_on k st x = fits 14 st (begin k («open» (applied x) ∷ st))

  abbrev pub argue : TokenKind → State K → State K
  argue k (have st (ready x)) = argue_on k st x
  argue k _ = stopped

  -- a token that ends the place of a frame
  abbrev pub closed : TokenKind → Shut K → K.tree → Stack K → State K
  closed (kinds.Mark ParenClose) bracket x st = have st (ready (m.brackets x))
  closed (kinds.Mark ParenClose) (domain b w) x st = wait (domained b w x) st
  closed (kinds.Mark ParenClose) (selected t) x st = have st (ready (m.project_by t x))
  closed (kinds.Mark Equals) (let_type ls w) x st = need (shut (let_value ls w (m.typed x)) ∷ st)
  closed (kinds.Mark Comma) (items c is) x st = need (shut (items c (Some (m.add_item is x))) ∷ st)
  closed (kinds.Mark Comma) (field_type c fs k) x st = wait (field_comma c (m.add_field fs k x)) st
  closed (kinds.Mark Comma) (entry_value c es ks) x st = wait (entry_comma c (m.add_entry es (m.given ks x))) st
  closed (kinds.Mark BracketClose) (items c is) x st = have st (ready (m.list c (m.add_item is x) false))
  closed (kinds.Mark BraceClose) (field_type c fs k) x st = have st (ready (m.record_type c (m.add_field fs k x) false))
  closed (kinds.Mark BraceClose) (entry_value c es ks) x st = have st (ready (m.record_of c (m.add_entry es (m.given ks x)) false))
  closed (kinds.Mark Bar) (alternative_type c as' k) x st = wait (alternative_bar c (m.add_alternative as' k (m.typed x))) st
  closed (kinds.Mark AngleClose) (alternative_type c as' k) x st = have st (ready (m.union c (m.add_alternative as' k (m.typed x)) false))
  closed (kinds.Keyword keywords.Then) condition x st = need (shut (branch x) ∷ st)
  closed (kinds.Keyword keywords.Else) (branch p) x st = need («open» (otherwise p x) ∷ st)
  closed (kinds.Keyword keywords.Let) (let_value ls w a) x st = wait (letting (Some (m.add_let ls w a x))) st
  closed (kinds.Keyword keywords.In) (let_value ls w a) x st = need («open» (bound (m.add_let ls w a x)) ∷ st)
  closed kinds.InterpolationClose (chunk f cs) x st = wait (text_front f (behind cs x)) st
  closed _ _ x st = stopped

  abbrev pub close_on : TokenKind → Stack K → K.tree → State K
  close_on kinds.End [] x = done x
  close_on k (shut f ∷ st) x = closed k f x st
  close_on k _ x = stopped

  abbrev pub close : TokenKind → State K → State K
  close k (have st (ready x)) = close_on k st x
  close k _ = stopped

  -- `@`, a digest and `as`
  abbrev pub index_on : Stack K → Held K → State K
  index_on st (named w) = wait (indexed w) st
  index_on st _ = stopped

  abbrev pub digest_on : Digest → Stack K → Held K → State K
  digest_on d st (imported i None) = have st (imported i (Some d))
  digest_on d st _ = stopped

  abbrev pub mode_on : Stack K → Held K → State K
  mode_on st (imported i d) = wait (moded i d) st
  mode_on st _ = stopped

  -- a token behind an operand
  abbrev pub extend : TokenKind → Stack K → Held K → State K
  extend (kinds.Mark (Operator o)) st h = operate o (join (left_level o) st (finish h))
  extend (kinds.Mark Dot) st h = select (join 16 st (finish h))
  extend (kinds.Mark Arrow) st h = point (join 1 st (finish h))
  extend (kinds.Mark Colon) st h = annotate (join 1 st (finish h))
  extend (kinds.Mark At) st h = index_on st h
  extend (kinds.Digest d) st h = digest_on d st h
  extend (kinds.Keyword keywords.As) st h = mode_on st h
  extend (kinds.Keyword keywords.With) st h = renew (join 1 st (finish h))
  extend (kinds.Mark ParenClose) st h = close (kinds.Mark ParenClose) (join 0 st (finish h))
  extend (kinds.Mark BracketClose) st h = close (kinds.Mark BracketClose) (join 0 st (finish h))
  extend (kinds.Mark BraceClose) st h = close (kinds.Mark BraceClose) (join 0 st (finish h))
  extend (kinds.Mark AngleClose) st h = close (kinds.Mark AngleClose) (join 0 st (finish h))
  extend (kinds.Mark Comma) st h = close (kinds.Mark Comma) (join 0 st (finish h))
  extend (kinds.Mark Equals) st h = close (kinds.Mark Equals) (join 0 st (finish h))
  extend (kinds.Mark Bar) st h = close (kinds.Mark Bar) (join 0 st (finish h))
  extend (kinds.Keyword keywords.Then) st h = close (kinds.Keyword keywords.Then) (join 0 st (finish h))
  extend (kinds.Keyword keywords.Else) st h = close (kinds.Keyword keywords.Else) (join 0 st (finish h))
  extend (kinds.Keyword keywords.Let) st h = close (kinds.Keyword keywords.Let) (join 0 st (finish h))
  extend (kinds.Keyword keywords.In) st h = close (kinds.Keyword keywords.In) (join 0 st (finish h))
  extend kinds.InterpolationClose st h = close kinds.InterpolationClose (join 0 st (finish h))
  extend kinds.End st h = close kinds.End (join 0 st (finish h))
  extend k st h = argue k (join 14 st (finish h))

  -- the end of an entry that is a label alone, and of the first key of a record that is a field's
  abbrev pub lone : Option (K.entries) → Keys → (K.entries → State K) → State K
  lone es (one_key k) f = f (m.add_entry es (m.alone k))
  lone es (more_keys ks k) f = stopped

  -- a token within a production
  abbrev pub waited : Wait K → TokenKind → Stack K → State K
  waited (quantifier b) (kinds.Mark ParenOpen) st = wait (quantified b) st
  waited (quantified b) k st = with_name (λ w. wait (quantity b w) st) (name_of k)
  waited (quantity b w) (kinds.Mark Colon) st = need (shut (domain b w) ∷ st)
  waited (domained b w a) (kinds.Mark Arrow) st = need («open» (body b w a) ∷ st)
  waited asserting (kinds.Mark Colon) st = need («open» asserted ∷ st)
  waited (letting ls) k st = with_name (λ w. wait (lettered ls w) st) (name_of k)
  waited (lettered ls w) (kinds.Mark Colon) st = need (shut (let_type ls w) ∷ st)
  waited (lettered ls w) (kinds.Mark Equals) st = need (shut (let_value ls w m.untyped) ∷ st)
  waited (with_start x) k st = with_key (λ k. wait (with_keys x (one_key k)) st) (key_of k)
  waited (with_keys x ks) (kinds.Mark Dot) st = wait (with_dot x ks) st
  waited (with_keys x ks) (kinds.Mark Equals) st = need («open» (update x ks) ∷ st)
  waited (with_dot x ks) k st = with_key (λ k. wait (with_keys x (more_keys ks k)) st) (key_of k)
  waited (indexed w) (kinds.Natural n) st = have st (ready (m.variable w (Some n)))
  waited (moded i d) (kinds.Builtin builtins.Text) st = have st (ready (m.import i d modes.Text))
  waited (moded i d) (kinds.Name x) st = if bytes_eq x (codes "Location") then have st (ready (m.import i d modes.Location)) else stopped
  waited (dotted x) (kinds.Mark BraceOpen) st = wait (projecting x false) st
  waited (dotted x) (kinds.Mark ParenOpen) st = need (shut (selected x) ∷ st)
  waited (dotted x) k st = with_key (λ k. have st (ready (m.field x k))) (key_of k)
  waited (projecting x false) (kinds.Mark Comma) st = wait (projecting x true) st
  waited (projecting x c) (kinds.Mark BraceClose) st = have st (ready (m.project_none x c))
  waited (projecting x c) k st = with_key (λ k. wait (projected x c (one_key k)) st) (key_of k)
  waited (projected x c ks) (kinds.Mark Comma) st = wait (projected_comma x c ks) st
  waited (projected x c ks) (kinds.Mark BraceClose) st = have st (ready (m.project x c ks false))
  waited (projected_comma x c ks) (kinds.Mark BraceClose) st = have st (ready (m.project x c ks true))
  waited (projected_comma x c ks) k st = with_key (λ k. unless (among (key_label k) (labels ks)) (wait (projected x c (more_keys ks k)) st)) (key_of k)
  waited (empty c) (kinds.Mark Colon) st = need («open» (emptied c) ∷ st)
  waited (union_start false) (kinds.Mark Bar) st = wait (union_start true) st
  waited (union_start c) (kinds.Mark AngleClose) st = have st (ready (m.union_none c))
  waited (union_start c) k st = with_key (λ k. wait (alternative c None k) st) (key_of k)
  waited (alternative c as' k) (kinds.Mark Colon) st = need (shut (alternative_type c as' k) ∷ st)
  waited (alternative c as' k) (kinds.Mark Bar) st = wait (alternative_bar c (m.add_alternative as' k m.untyped)) st
  waited (alternative c as' k) (kinds.Mark AngleClose) st = have st (ready (m.union c (m.add_alternative as' k m.untyped) false))
  waited (alternative_bar c as') (kinds.Mark AngleClose) st = have st (ready (m.union c as' true))
  waited (alternative_bar c as') k st = with_key (λ k. unless (among (key_label k) (m.alternative_labels as')) (wait (alternative c (Some as') k) st)) (key_of k)
  waited (record_start false) (kinds.Mark Comma) st = wait (record_start true) st
  waited (record_start c) (kinds.Mark Equals) st = wait (record_equals c false) st
  waited (record_start c) (kinds.Mark BraceClose) st = have st (ready (m.record_type_none c))
  waited (record_start c) k st = with_key (λ k. wait (entry_keys c None (one_key k)) st) (key_of k)
  waited (record_equals c false) (kinds.Mark Comma) st = wait (record_equals c true) st
  waited (record_equals c d) (kinds.Mark BraceClose) st = have st (ready (m.record_none c d))
  waited (field_comma c fs) (kinds.Mark BraceClose) st = have st (ready (m.record_type c fs true))
  waited (field_comma c fs) k st = with_key (λ k. unless (among (key_label k) (m.field_labels fs)) (wait (field_key c fs k) st)) (key_of k)
  waited (field_key c fs k) (kinds.Mark Colon) st = need (shut (field_type c (Some fs) k) ∷ st)
  waited (entry_comma c es) (kinds.Mark BraceClose) st = have st (ready (m.record_of c es true))
  waited (entry_comma c es) k st = with_key (λ k. wait (entry_keys c (Some es) (one_key k)) st) (key_of k)
  waited (entry_keys c es ks) (kinds.Mark Colon) st = first_field es ks (λ k. need (shut (field_type c None k) ∷ st))
  waited (entry_keys c es ks) (kinds.Mark Dot) st = wait (entry_dot c es ks) st
  waited (entry_keys c es ks) (kinds.Mark Equals) st = need (shut (entry_value c es ks) ∷ st)
  waited (entry_keys c es ks) (kinds.Mark Comma) st = lone es ks (λ es. wait (entry_comma c es) st)
  waited (entry_keys c es ks) (kinds.Mark BraceClose) st = lone es ks (λ es. have st (ready (m.record_of c es false)))
  waited (entry_dot c es ks) k st = with_key (λ k. wait (entry_keys c es (more_keys ks k)) st) (key_of k)
  waited (text_front f cs) (kinds.TextPiece p) st = wait (text_piece f (sealed cs (Some p))) st
  waited (text_front f cs) kinds.InterpolationOpen st = need (shut (chunk f (sealed cs None)) ∷ st)
  waited (text_front f cs) kinds.TextClose st = have st (ready (m.text f (sealed cs None)))
  waited (text_piece f cs) kinds.InterpolationOpen st = need (shut (chunk f cs) ∷ st)
  waited (text_piece f cs) kinds.TextClose st = have st (ready (m.text f cs))
  waited _ _ st = stopped

  abbrev pub after : TokenKind → State K → State K
  after k (need st) = begin k st
  after k (have st h) = extend k st h
  after k (wait w st) = waited w k st
  after k (done d) = stopped
  after k stopped = stopped
