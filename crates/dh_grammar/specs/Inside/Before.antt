-- What a state has read.
use Rattle.std.specs.Prelude.{ℕ, suc, Bool, true, false, List, [], ◌∷◌, ◌++◌, Option, Some, None}
use Rattle.dh_syntax.specs.declared.tokens.Keyword.TheVariants as keywords
use Rattle.dh_syntax.specs.declared.tokens.Mark.{Mark}
use Rattle.dh_syntax.specs.declared.tokens.Mark.TheVariants.{ParenOpen, ParenClose, BracketOpen, BracketClose, BraceOpen, AngleOpen, Comma, Dot, Colon, Equals, At, Bar, Arrow, Lambda, Forall, Operator}
use Rattle.dh_syntax.specs.declared.tokens.TokenKind.TheVariants as kinds
use Rattle.dh_syntax.specs.Text.Derivation.{Derivation, Lets, Items, Alternatives, Fields, Entries}
use Rattle.dh_syntax.specs.Text.Yield.{Written, token, mark, keyword, name, key, apart, free, import_type_kind, separator, keys_yield, digest_yield, yield, note_yield, lets_yield, chunks_yield, items_yield, alternatives_yield, fields_yield, entries_yield, text_yield}
use Rattle.dh_grammar.specs.Machine.{left, applied, merged, somed, mapped, update, body, target, otherwise, bound, noted, emptied, asserted, opening, behind, bracket, domain, condition, branch, let_type, let_value, selected, first, items, alternative_type, field_type, entry_value, chunk, «open», shut, quantifier, quantified, quantity, domained, asserting, letting, lettered, with_start, with_keys, with_dot, indexed, moded, dotted, projecting, projected, projected_comma, empty, union_start, alternative, alternative_bar, record_start, record_equals, field_comma, field_key, entry_comma, entry_keys, entry_dot, text_front, text_piece, need, have, wait, done, stopped}
use Rattle.dh_grammar.specs.Trees.{Open, Front, Shut, finish, Wait, Stack, State, depth_on, gap_on}

-- Each function writes the tokens read before some that follow.
abbrev pub Text : Type 0
Text = List Written → List Written

-- the mark `λ` or `∀`
abbrev pub quantifier_mark : Bool → Mark
quantifier_mark true = Lambda
quantifier_mark false = Forall

-- what an open frame has before its place
abbrev pub open_before : ℕ → Bool → Open → Text
open_before n g (left l o) r = yield n g l ++ mark n free (Operator o) ∷ r
open_before n g (applied f) r = yield n g f ++ r
open_before n g (merged t) r = keyword n g keywords.Merge ∷ (yield n apart t ++ r)
open_before n g somed r = keyword n g keywords.Some ∷ r
open_before n g mapped r = keyword n g keywords.ToMap ∷ r
open_before n g (update x ks) r = yield n g x ++ (keyword n apart keywords.With ∷ (keys_yield n apart Dot ks ++ (mark n free Equals ∷ r)))
open_before n g (body b w a) r =
    mark n g (quantifier_mark b) ∷ mark n free ParenOpen ∷ name n free w ∷ mark n free Colon ∷ (yield (suc n) apart a ++ (mark n free ParenClose ∷ mark n free Arrow ∷ r))
open_before n g (target a) r = yield n g a ++ (mark n free Arrow ∷ r)
open_before n g (otherwise p t) r =
    keyword n g keywords.If ∷ (yield (suc n) apart p ++ (keyword n free keywords.Then ∷ (yield (suc n) apart t ++ (keyword n free keywords.Else ∷ r))))
open_before n g (bound ls) r = lets_yield n g ls ++ (keyword n apart keywords.In ∷ r)
open_before n g (noted t) r = yield n g t ++ (mark n free Colon ∷ r)
open_before n g (emptied c) r = mark n g BracketOpen ∷ (separator n c Comma ++ (mark n free BracketClose ∷ mark n free Colon ∷ r))
open_before n g asserted r = keyword n g keywords.Assert ∷ mark n free Colon ∷ r

-- what stands before the next binding of a let
abbrev pub let_before : ℕ → Bool → Option Lets → Text
let_before n g None r = keyword n g keywords.Let ∷ r
let_before n g (Some ls) r = lets_yield n g ls ++ (keyword n apart keywords.Let ∷ r)

-- what stands before the next item of a list
abbrev pub items_before : ℕ → Option Items → Text
items_before n None r = r
items_before n (Some is) r = items_yield n is ++ (mark n free Comma ∷ r)

-- what stands before the next alternative of a union
abbrev pub alternatives_before : ℕ → Option Alternatives → Text
alternatives_before n None r = r
alternatives_before n (Some as') r = alternatives_yield n as' ++ (mark n free Bar ∷ r)

-- what stands before the next field of a record type
abbrev pub fields_before : ℕ → Option Fields → Text
fields_before n None r = r
fields_before n (Some fs) r = fields_yield n fs ++ (mark n free Comma ∷ r)

-- what stands before the next entry of a record
abbrev pub entries_before : ℕ → Option Entries → Text
entries_before n None r = r
entries_before n (Some es) r = entries_yield n es ++ (mark n free Comma ∷ r)

-- what stands before the next piece of a text
abbrev pub front_before : ℕ → Front → Text
front_before n opening r = r
front_before n (behind cs e) r =
    chunks_yield n cs ++ (token n free kinds.InterpolationOpen ∷ (yield (suc n) free e ++ (token n free kinds.InterpolationClose ∷ r)))

-- `{`, perhaps with a comma, and what follows
abbrev pub in_braces : ℕ → Bool → Bool → Text
in_braces n g c r = mark n g BraceOpen ∷ (separator n c Comma ++ r)

-- `<`, perhaps with a bar, and what follows
abbrev pub in_angles : ℕ → Bool → Bool → Text
in_angles n g c r = mark n g AngleOpen ∷ (separator n c Bar ++ r)

-- an expression with `.{`, perhaps with a comma, and what follows
abbrev pub in_projection : ℕ → Bool → Derivation → Bool → Text
in_projection n g x c r = yield n g x ++ (mark n free Dot ∷ mark n free BraceOpen ∷ (separator n c Comma ++ r))

-- what a frame whose place a token ends has before that place
abbrev pub shut_before : ℕ → Bool → Shut → Text
shut_before n g bracket r = mark n g ParenOpen ∷ r
shut_before n g (domain b w) r = mark n g (quantifier_mark b) ∷ mark n free ParenOpen ∷ name n free w ∷ mark n free Colon ∷ r
shut_before n g condition r = keyword n g keywords.If ∷ r
shut_before n g (branch p) r = keyword n g keywords.If ∷ (yield (suc n) apart p ++ (keyword n free keywords.Then ∷ r))
shut_before n g (let_type ls w) r = let_before n g ls (name n apart w ∷ mark n free Colon ∷ r)
shut_before n g (let_value ls w a) r = let_before n g ls (name n apart w ∷ (note_yield n a ++ (mark n free Equals ∷ r)))
shut_before n g (selected x) r = yield n g x ++ (mark n free Dot ∷ mark n free ParenOpen ∷ r)
shut_before n g first r = keyword n g keywords.Merge ∷ r
shut_before n g (items c is) r = mark n g BracketOpen ∷ (separator n c Comma ++ items_before n is r)
shut_before n g (alternative_type c as' k) r = in_angles n g c (alternatives_before n as' (key n free k ∷ mark n free Colon ∷ r))
shut_before n g (field_type c fs k) r = in_braces n g c (fields_before n fs (key n free k ∷ mark n free Colon ∷ r))
shut_before n g (entry_value c es ks) r = in_braces n g c (entries_before n es (keys_yield n free Dot ks ++ (mark n free Equals ∷ r)))
shut_before n g (chunk f cs) r = token n g (kinds.TextOpen f) ∷ (chunks_yield n cs ++ (token n free kinds.InterpolationOpen ∷ r))

-- what was read of a production before the token that is awaited
abbrev pub wait_before : ℕ → Bool → Wait → Text
wait_before n g (quantifier b) r = mark n g (quantifier_mark b) ∷ r
wait_before n g (quantified b) r = mark n g (quantifier_mark b) ∷ mark n free ParenOpen ∷ r
wait_before n g (quantity b w) r = mark n g (quantifier_mark b) ∷ mark n free ParenOpen ∷ name n free w ∷ r
wait_before n g (domained b w a) r =
    mark n g (quantifier_mark b) ∷ mark n free ParenOpen ∷ name n free w ∷ mark n free Colon ∷ (yield (suc n) apart a ++ (mark n free ParenClose ∷ r))
wait_before n g asserting r = keyword n g keywords.Assert ∷ r
wait_before n g (letting ls) r = let_before n g ls r
wait_before n g (lettered ls w) r = let_before n g ls (name n apart w ∷ r)
wait_before n g (with_start x) r = yield n g x ++ (keyword n apart keywords.With ∷ r)
wait_before n g (with_keys x ks) r = yield n g x ++ (keyword n apart keywords.With ∷ (keys_yield n apart Dot ks ++ r))
wait_before n g (with_dot x ks) r = yield n g x ++ (keyword n apart keywords.With ∷ (keys_yield n apart Dot ks ++ (mark n free Dot ∷ r)))
wait_before n g (indexed w) r = name n g w ∷ mark n free At ∷ r
wait_before n g (moded i d) r = token n g (import_type_kind i) ∷ (digest_yield n d ++ (keyword n free keywords.As ∷ r))
wait_before n g (dotted x) r = yield n g x ++ (mark n free Dot ∷ r)
wait_before n g (projecting x c) r = in_projection n g x c r
wait_before n g (projected x c ks) r = in_projection n g x c (keys_yield n free Comma ks ++ r)
wait_before n g (projected_comma x c ks) r = in_projection n g x c (keys_yield n free Comma ks ++ (mark n free Comma ∷ r))
wait_before n g (empty c) r = mark n g BracketOpen ∷ (separator n c Comma ++ (mark n free BracketClose ∷ r))
wait_before n g (union_start c) r = in_angles n g c r
wait_before n g (alternative c as' k) r = in_angles n g c (alternatives_before n as' (key n free k ∷ r))
wait_before n g (alternative_bar c as') r = in_angles n g c (alternatives_before n (Some as') r)
wait_before n g (record_start c) r = in_braces n g c r
wait_before n g (record_equals c d) r = in_braces n g c (mark n free Equals ∷ (separator n d Comma ++ r))
wait_before n g (field_comma c fs) r = in_braces n g c (fields_before n (Some fs) r)
wait_before n g (field_key c fs k) r = in_braces n g c (fields_before n (Some fs) (key n free k ∷ r))
wait_before n g (entry_comma c es) r = in_braces n g c (entries_before n (Some es) r)
wait_before n g (entry_keys c es ks) r = in_braces n g c (entries_before n es (keys_yield n free Dot ks ++ r))
wait_before n g (entry_dot c es ks) r = in_braces n g c (entries_before n es (keys_yield n free Dot ks ++ (mark n free Dot ∷ r)))
wait_before n g (text_front f cs) r = token n g (kinds.TextOpen f) ∷ front_before n cs r
wait_before n g (text_piece f cs) r = token n g (kinds.TextOpen f) ∷ (chunks_yield n cs ++ r)

-- the tokens read for the frames of a stack
abbrev pub before_stack : Stack → Text
before_stack [] r = r
before_stack («open» f ∷ st) r = before_stack st (open_before (depth_on st) (gap_on st) f r)
before_stack (shut f ∷ st) r = before_stack st (shut_before (depth_on st) (gap_on st) f r)

-- what was read where a stack has this tree in its topmost place
abbrev pub before_with : Stack → Derivation → Text
before_with st x r = before_stack st (yield (depth_on st) (gap_on st) x ++ r)

-- the tokens that a state has read
abbrev pub before : State → Text
before (need st) r = before_stack st r
before (have st h) r = before_with st (finish h) r
before (wait w st) r = before_stack st (wait_before (depth_on st) (gap_on st) w r)
before (done d) r = text_yield d ++ r
before stopped r = r
