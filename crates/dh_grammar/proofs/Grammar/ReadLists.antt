-- What the machine reads of lists of parts.
use Rattle.std.proofs.Common.{◌≡◌, ℕ, zero, suc, ◌≤◌, Bool, true, false, List, [], ◌∷◌, ◌++◌, refl, ◌∙◌, ap, subst, arith, leb-true}
use Rattle.std.specs.Prelude.{IsTrue, not, Option, Some, None}
use Rattle.std.proofs.lemmas.List.{append_assoc}
use Rattle.dh_syntax.specs.declared.locations.Digest.{Digest}
use Rattle.dh_syntax.specs.declared.locations.Mode.{Mode}
use Rattle.dh_syntax.specs.declared.locations.Mode.TheVariants as modes
use Rattle.dh_syntax.specs.declared.tokens.Keyword.TheVariants as keywords
use Rattle.dh_syntax.specs.declared.tokens.Mark.TheVariants.{ParenOpen, ParenClose, BracketOpen, BracketClose, BraceOpen, BraceClose, AngleOpen, AngleClose, Comma, Dot, Colon, Equals, Bar, Arrow}
use Rattle.dh_syntax.specs.declared.tokens.TextForm.{TextForm}
use Rattle.dh_syntax.specs.declared.tokens.TokenKind.{TokenKind}
use Rattle.dh_syntax.specs.declared.tokens.TokenKind.TheVariants as kinds
use Rattle.dh_syntax.specs.Text.Derivation.{NameToken, Key, key_label, Keys, ImportType, Derivation, choice, updates, merge_as, to_map_as, empty_list, annotation, merging, to_map, import, project_none, project, project_by, variable, text, list, union_none, union, record_type_none, record_type, record_none, record_of, Note, typed, Lets, more_lets, Updates, one_update, more_updates, Chunks, more_chunks, Items, Alternatives, more_alternatives, Fields, more_fields, given, Entries}
use Rattle.dh_syntax.specs.Text.Derived.{binds, is_imp, is_special, among, distinct, field_labels, alternative_labels}
use Rattle.dh_syntax.specs.Text.Yield.{Written, token, mark, keyword, name, key, apart, free, separator, keys_yield, index_yield, piece_yield, digest_yield, mode_yield, yield, note_yield, lets_yield, updates_yield, chunks_yield, items_yield, alternatives_yield, fields_yield, entries_yield}
use Rattle.dh_grammar.specs.Machine.{merged, mapped, update, body, otherwise, bound, noted, emptied, opening, behind, domain, condition, branch, let_value, selected, first, items, alternative_type, field_type, entry_value, chunk, «open», shut, named, imported, ready, quantifier, domained, letting, lettered, with_start, dotted, projecting, projected, empty, union_start, alternative, alternative_bar, record_start, field_comma, entry_comma, text_front, need, have, wait}
use Rattle.dh_grammar.specs.Trees.{Front, Stack, State, quantify, updating, noting, add_let, add_item, add_alternative, add_field, add_entry, sealed, after, least}
use Rattle.dh_grammar.specs.Running.{run}
use Rattle.dh_grammar.specs.Inside.Valid.{D}
use Rattle.dh_grammar.proofs.TruthValues.{left_of, right_of}
use Rattle.dh_grammar.proofs.Grammar.ReadTokens.{run-append, ReadTo, read_as, in_frame, at_once, ready_now, reads_colon, fits_in, reads_with, reads_with_again, ends, argues, argued, reads_with_keys, unrepeated, reads_project_keys, union_next, field_next, quantified_name, let_name, variable_name}

-- behind the last part, the list goes on or ends
pub record EndsAs (s : State) (a : TokenKind) (going : State) (b : TokenKind) (ended : State) : Type 0 where
  pub on : after a s ≡ going
  pub off : after b s ≡ ended

pub ends_as : (s t : State) (a : TokenKind) (going : State) (b : TokenKind) (ended : State) → s ≡ t → EndsAs t a going b ended → EndsAs s a going b ended
ends_as s t a going b ended e h = record { on = ap (after a) e ∙ h.on; off = ap (after b) e ∙ h.off }

abbrev pub LetsRead : State → Stack → Lets → Type 0
LetsRead s st ls = EndsAs s (kinds.Keyword keywords.Let) (wait (letting (Some ls)) st) (kinds.Keyword keywords.In) (need («open» (bound ls) ∷ st))

abbrev pub ItemsRead : State → Bool → Stack → Items → Type 0
ItemsRead s c st is = EndsAs s (kinds.Mark Comma) (need (shut (items c (Some is)) ∷ st)) (kinds.Mark BracketClose) (have st (ready (list c is false)))

abbrev pub AlternativesRead : State → Bool → Stack → Alternatives → Type 0
AlternativesRead s c st as' = EndsAs s (kinds.Mark Bar) (wait (alternative_bar c as') st) (kinds.Mark AngleClose) (have st (ready (union c as' false)))

abbrev pub FieldsRead : State → Bool → Stack → Fields → Type 0
FieldsRead s c st fs = EndsAs s (kinds.Mark Comma) (wait (field_comma c fs) st) (kinds.Mark BraceClose) (have st (ready (record_type c fs false)))

abbrev pub EntriesRead : State → Bool → Stack → Entries → Type 0
EntriesRead s c st es = EndsAs s (kinds.Mark Comma) (wait (entry_comma c es) st) (kinds.Mark BraceClose) (have st (ready (record_of c es false)))

abbrev pub ChunksRead : State → TextForm → Stack → Chunks → Type 0
ChunksRead s f st cs = EndsAs s kinds.InterpolationOpen (need (shut (chunk f cs) ∷ st)) kinds.TextClose (have st (ready (text f cs)))

pub record UpdatesRead (s : State) (st : Stack) (us : Updates) : Type 0 where
  pub again : after (kinds.Keyword keywords.With) s ≡ wait (with_start (updates us)) st
  pub read : ReadTo s 0 st (updates us)

pub front_read : (f : TextForm) (front : Front) (p : Option (List ℕ)) (st : Stack) (n : ℕ) → ChunksRead (run (wait (text_front f front) st) (piece_yield n p)) f st (sealed front p)
front_read f front None st n = record { on = refl; off = refl }
front_read f front (Some p) st n = record { on = refl; off = refl }

pub let_ends : (s : State) (ls : Option Lets) (w : NameToken) (a : Note) (st : Stack) (v : Derivation) → ReadTo s 0 (shut (let_value ls w a) ∷ st) v → LetsRead s st (add_let ls w a v)
let_ends s ls w a st v r = record {
  on = ends (kinds.Keyword keywords.Let) (let_value ls w a) s st v (λ st h. refl) refl r;
  off = ends (kinds.Keyword keywords.In) (let_value ls w a) s st v (λ st h. refl) refl r;
}

pub item_ends : (s : State) (c : Bool) (is : Option Items) (st : Stack) (x : Derivation) → ReadTo s 0 (shut (items c is) ∷ st) x → ItemsRead s c st (add_item is x)
item_ends s c is st x r = record {
  on = ends (kinds.Mark Comma) (items c is) s st x (λ st h. refl) refl r;
  off = ends (kinds.Mark BracketClose) (items c is) s st x (λ st h. refl) refl r;
}

pub alternative_ends : (s : State) (c : Bool) (as' : Option Alternatives) (k : Key) (st : Stack) (x : Derivation) → ReadTo s 0 (shut (alternative_type c as' k) ∷ st) x → AlternativesRead s c st (add_alternative as' k (typed x))
alternative_ends s c as' k st x r = record {
  on = ends (kinds.Mark Bar) (alternative_type c as' k) s st x (λ st h. refl) refl r;
  off = ends (kinds.Mark AngleClose) (alternative_type c as' k) s st x (λ st h. refl) refl r;
}

pub field_ends : (s : State) (c : Bool) (fs : Option Fields) (k : Key) (st : Stack) (x : Derivation) → ReadTo s 0 (shut (field_type c fs k) ∷ st) x → FieldsRead s c st (add_field fs k x)
field_ends s c fs k st x r = record {
  on = ends (kinds.Mark Comma) (field_type c fs k) s st x (λ st h. refl) refl r;
  off = ends (kinds.Mark BraceClose) (field_type c fs k) s st x (λ st h. refl) refl r;
}

pub entry_ends : (s : State) (c : Bool) (es : Option Entries) (ks : Keys) (st : Stack) (x : Derivation) → ReadTo s 0 (shut (entry_value c es ks) ∷ st) x → EntriesRead s c st (add_entry es (given ks x))
entry_ends s c es ks st x r = record {
  on = ends (kinds.Mark Comma) (entry_value c es ks) s st x (λ st h. refl) refl r;
  off = ends (kinds.Mark BraceClose) (entry_value c es ks) s st x (λ st h. refl) refl r;
}

updating_imp : (x : Derivation) (ks : Keys) (v : Derivation) → IsTrue (is_imp x) → updating x ks v ≡ updates (one_update x ks v)
updating_imp (updates us) ks v h = cc
updating_imp x ks v h = refl

pub noting_plain : (t a : Derivation) → is_special t ≡ false → noting t a ≡ annotation t a
noting_plain (merging t u) a h = cc
noting_plain (to_map t) a h = cc
noting_plain t a h = refl

pub read_is : (s : State) (k : ℕ) (st : Stack) (x y : Derivation) → x ≡ y → ReadTo s k st x → ReadTo s k st y
read_is s k st x y e r = subst (ReadTo s k st) e r

-- ---- whole trees

-- `λ(w : ` in place of an expression
pub quantifying : (b : Bool) (w : NameToken) (a x : Derivation) (st : Stack) (n : ℕ) (g : Bool) → least st ≤ 0 → ReadTo (run (need (shut (domain b w) ∷ st)) (yield (suc n) apart a)) 0 (shut (domain b w) ∷ st) a → run (need st) (yield n g (quantify b w a x)) ≡ run (need («open» (body b w a) ∷ st)) (yield (suc n) free x)
quantifying true w a x st n g l r =
    let closed : after (kinds.Mark ParenClose) (run (need (shut (domain true w) ∷ st)) (yield (suc n) apart a)) ≡ wait (domained true w a) st = ends (kinds.Mark ParenClose) (domain true w) _ st a (λ st h. refl) refl r in
    ap (λ s. run s (mark n free ParenOpen ∷ name n free w ∷ mark n free Colon ∷ (yield (suc n) apart a ++ mark n free ParenClose ∷ mark n free Arrow ∷ yield (suc n) free x))) (fits_in 0 st (wait (quantifier true) st) l)
    ∙ ap (λ s. run s (mark n free Colon ∷ (yield (suc n) apart a ++ mark n free ParenClose ∷ mark n free Arrow ∷ yield (suc n) free x))) (quantified_name true st w)
    ∙ run-append (need (shut (domain true w) ∷ st)) (yield (suc n) apart a) (mark n free ParenClose ∷ mark n free Arrow ∷ yield (suc n) free x)
    ∙ ap (λ s. run s (mark n free Arrow ∷ yield (suc n) free x)) closed
quantifying false w a x st n g l r =
    let closed : after (kinds.Mark ParenClose) (run (need (shut (domain false w) ∷ st)) (yield (suc n) apart a)) ≡ wait (domained false w a) st = ends (kinds.Mark ParenClose) (domain false w) _ st a (λ st h. refl) refl r in
    ap (λ s. run s (mark n free ParenOpen ∷ name n free w ∷ mark n free Colon ∷ (yield (suc n) apart a ++ mark n free ParenClose ∷ mark n free Arrow ∷ yield (suc n) free x))) (fits_in 0 st (wait (quantifier false) st) l)
    ∙ ap (λ s. run s (mark n free Colon ∷ (yield (suc n) apart a ++ mark n free ParenClose ∷ mark n free Arrow ∷ yield (suc n) free x))) (quantified_name false st w)
    ∙ run-append (need (shut (domain false w) ∷ st)) (yield (suc n) apart a) (mark n free ParenClose ∷ mark n free Arrow ∷ yield (suc n) free x)
    ∙ ap (λ s. run s (mark n free Arrow ∷ yield (suc n) free x)) closed

-- one part and a mark behind it
pub part_then : (s : State) (ws vs : List Written) (k : Written) (t : State) → after k.kind (run s ws) ≡ t → run s (ws ++ k ∷ vs) ≡ run t vs
part_then s ws vs k t e = run-append s ws (k ∷ vs) ∙ ap (λ s. run s vs) e

pub merging_read : (t u : Derivation) (st : Stack) (n : ℕ) (g : Bool) (k : ℕ) → D (merging t u) → least st ≤ 14 → k ≤ 14 → ReadTo (run (need (shut first ∷ st)) (yield n apart t)) 14 (shut first ∷ st) t → ReadTo (run (need («open» (merged t) ∷ st)) (yield n apart u)) k («open» (merged t) ∷ st) u → ReadTo (run (need st) (yield n g (merging t u))) k st (merging t u)
merging_read t u st n g k d l m r q =
    read_as _ (run (need («open» (merged t) ∷ st)) (yield n apart u)) k st (merging t u)
    (ap (λ s. run s (yield n apart t ++ yield n apart u)) (fits_in 14 st (need (shut first ∷ st)) l)
    ∙ run-append (need (shut first ∷ st)) (yield n apart t) (yield n apart u)
    ∙ argued (yield n apart u) _ (shut first ∷ st) t («open» (merged t) ∷ st) (argues u n apart (right_of _ _ d) (let b = leb-true 15 (binds u) (right_of _ _ (left_of _ _ (left_of _ _ d))) in b)) r refl (λ k. refl))
    (in_frame _ k (merged t) st u m q)

pub to_map_read : (t : Derivation) (st : Stack) (n : ℕ) (g : Bool) (k : ℕ) → least st ≤ 14 → k ≤ 14 → ReadTo (run (need («open» mapped ∷ st)) (yield n apart t)) k («open» mapped ∷ st) t → ReadTo (run (need st) (yield n g (to_map t))) k st (to_map t)
to_map_read t st n g k l m q =
    read_as _ (run (need («open» mapped ∷ st)) (yield n apart t)) k st (to_map t) (ap (λ s. run s (yield n apart t)) (fits_in 14 st (need («open» mapped ∷ st)) l)) (in_frame _ k mapped st t m q)

pub noted_read : (t a : Derivation) (ws : List Written) (st : Stack) (n : ℕ) (k : ℕ) → k ≤ 0 → least st ≤ 0 → ReadTo (run (need st) ws) 1 st t → ReadTo (run (need («open» (noted t) ∷ st)) (yield (suc n) apart a)) k («open» (noted t) ∷ st) a → ReadTo (run (need st) (ws ++ mark n free Colon ∷ yield (suc n) apart a)) k st (noting t a)
noted_read t a ws st n k m l r q =
    read_as _ (run (need («open» (noted t) ∷ st)) (yield (suc n) apart a)) k st (noting t a)
    (part_then (need st) ws _ (mark n free Colon) (need («open» (noted t) ∷ st)) (reads_colon _ st t r l))
    (in_frame _ k (noted t) st a m q)

pub indexed_read : (w : NameToken) (i : Option ℕ) (st : Stack) (n : ℕ) (g : Bool) (k : ℕ) → ReadTo (run (need st) (yield n g (variable w i))) k st (variable w i)
indexed_read w None st n g k = read_as _ (have st (named w)) k st (variable w None) (variable_name st w) (at_once k st (named w))
indexed_read w (Some i) st n g k = ready_now _ k st (variable w (Some i)) (ap (λ s. run s (index_yield n (Some i))) (variable_name st w))

pub import_read : (i : ImportType) (d : Option Digest) (m : Mode) (st : Stack) (n : ℕ) (k : ℕ) → ReadTo (run (have st (imported i None)) (digest_yield n d ++ mode_yield n m)) k st (import i d m)
import_read i None modes.Code st n k = at_once k st (imported i None)
import_read i (Some d) modes.Code st n k = at_once k st (imported i (Some d))
import_read i None modes.Text st n k = at_once k st (ready (import i None modes.Text))
import_read i (Some d) modes.Text st n k = at_once k st (ready (import i (Some d) modes.Text))
import_read i None modes.Location st n k = at_once k st (ready (import i None modes.Location))
import_read i (Some d) modes.Location st n k = at_once k st (ready (import i (Some d) modes.Location))

bracket_opened : (c : Bool) (st : Stack) (n : ℕ) (g : Bool) → run (need st) (mark n g BracketOpen ∷ separator n c Comma) ≡ need (shut (items c None) ∷ st)
bracket_opened true st n g = refl
bracket_opened false st n g = refl

brace_opened : (c : Bool) (st : Stack) (n : ℕ) (g : Bool) → run (need st) (mark n g BraceOpen ∷ separator n c Comma) ≡ wait (record_start c) st
brace_opened true st n g = refl
brace_opened false st n g = refl

angle_opened : (c : Bool) (st : Stack) (n : ℕ) (g : Bool) → run (need st) (mark n g AngleOpen ∷ separator n c Bar) ≡ wait (union_start c) st
angle_opened true st n g = refl
angle_opened false st n g = refl

projection_opened : (c : Bool) (x : Derivation) (st : Stack) (n : ℕ) → run (wait (dotted x) st) (mark n free BraceOpen ∷ separator n c Comma) ≡ wait (projecting x c) st
projection_opened true x st n = refl
projection_opened false x st n = refl

list_closed : (s : State) (c : Bool) (is : Items) (d : Bool) (st : Stack) (n : ℕ) → ItemsRead s c st is → run s (separator n d Comma ++ mark n free BracketClose ∷ []) ≡ have st (ready (list c is d))
list_closed s c is true st n h = ap (after (kinds.Mark BracketClose)) h.on
list_closed s c is false st n h = h.off

union_closed : (s : State) (c : Bool) (as' : Alternatives) (d : Bool) (st : Stack) (n : ℕ) → AlternativesRead s c st as' → run s (separator n d Bar ++ mark n free AngleClose ∷ []) ≡ have st (ready (union c as' d))
union_closed s c as' true st n h = ap (after (kinds.Mark AngleClose)) h.on
union_closed s c as' false st n h = h.off

fields_closed : (s : State) (c : Bool) (fs : Fields) (d : Bool) (st : Stack) (n : ℕ) → FieldsRead s c st fs → run s (separator n d Comma ++ mark n free BraceClose ∷ []) ≡ have st (ready (record_type c fs d))
fields_closed s c fs true st n h = ap (after (kinds.Mark BraceClose)) h.on
fields_closed s c fs false st n h = h.off

entries_closed : (s : State) (c : Bool) (es : Entries) (d : Bool) (st : Stack) (n : ℕ) → EntriesRead s c st es → run s (separator n d Comma ++ mark n free BraceClose ∷ []) ≡ have st (ready (record_of c es d))
entries_closed s c es true st n h = ap (after (kinds.Mark BraceClose)) h.on
entries_closed s c es false st n h = h.off

projection_closed : (x : Derivation) (c : Bool) (ks : Keys) (d : Bool) (st : Stack) (n : ℕ) → run (wait (projected x c ks) st) (separator n d Comma ++ mark n free BraceClose ∷ []) ≡ have st (ready (project x c ks d))
projection_closed x c ks true st n = refl
projection_closed x c ks false st n = refl

pub union_none_read : (c : Bool) (st : Stack) (n : ℕ) (g : Bool) → run (need st) (mark n g AngleOpen ∷ separator n c Bar ++ mark n free AngleClose ∷ []) ≡ have st (ready (union_none c))
union_none_read true st n g = refl
union_none_read false st n g = refl

pub record_type_none_read : (c : Bool) (st : Stack) (n : ℕ) (g : Bool) → run (need st) (mark n g BraceOpen ∷ separator n c Comma ++ mark n free BraceClose ∷ []) ≡ have st (ready (record_type_none c))
record_type_none_read true st n g = refl
record_type_none_read false st n g = refl

pub record_none_read : (c d : Bool) (st : Stack) (n : ℕ) (g : Bool) → run (need st) (yield n g (record_none c d)) ≡ have st (ready (record_none c d))
record_none_read true true st n g = refl
record_none_read true false st n g = refl
record_none_read false true st n g = refl
record_none_read false false st n g = refl

pub project_none_read : (x : Derivation) (c : Bool) (st : Stack) (n : ℕ) → run (wait (dotted x) st) (mark n free BraceOpen ∷ separator n c Comma ++ mark n free BraceClose ∷ []) ≡ have st (ready (project_none x c))
project_none_read x true st n = refl
project_none_read x false st n = refl

empty_read : (c : Bool) (st : Stack) (n : ℕ) (g : Bool) → least st ≤ 0 → run (need st) (mark n g BracketOpen ∷ separator n c Comma ++ mark n free BracketClose ∷ mark n free Colon ∷ []) ≡ need («open» (emptied c) ∷ st)
empty_read true st n g l = ap (after (kinds.Mark Colon)) (fits_in 0 st (wait (empty true) st) l)
empty_read false st n g l = ap (after (kinds.Mark Colon)) (fits_in 0 st (wait (empty false) st) l)

-- lists of tokens, with brackets to the right
choice_shape : (n : ℕ) (g : Bool) (p t e : Derivation) → yield n g (choice p t e) ≡ keyword n g keywords.If ∷ (yield (suc n) apart p ++ (keyword n free keywords.Then ∷ (yield (suc n) apart t ++ (keyword n free keywords.Else ∷ yield (suc n) apart e))))
choice_shape n g p t e = simp append_assoc

merge_as_shape : (n : ℕ) (g : Bool) (t u a : Derivation) → yield n g (merge_as t u a) ≡ yield n g (merging t u) ++ mark n free Colon ∷ yield (suc n) apart a
merge_as_shape n g t u a = simp append_assoc

pub project_none_shape : (n : ℕ) (g : Bool) (t : Derivation) (c : Bool) → yield n g (project_none t c) ≡ yield n g t ++ (mark n free Dot ∷ (mark n free BraceOpen ∷ (separator n c Comma ++ mark n free BraceClose ∷ [])))
project_none_shape n g t c = simp append_assoc

project_shape : (n : ℕ) (g : Bool) (t : Derivation) (c : Bool) (ks : Keys) (e : Bool) → yield n g (project t c ks e) ≡ yield n g t ++ (mark n free Dot ∷ ((mark n free BraceOpen ∷ separator n c Comma) ++ (keys_yield n free Comma ks ++ (separator n e Comma ++ (mark n free BraceClose ∷ [])))))
project_shape n g t c ks e = simp append_assoc

project_by_shape : (n : ℕ) (g : Bool) (t a : Derivation) → yield n g (project_by t a) ≡ yield n g t ++ (mark n free Dot ∷ mark n free ParenOpen ∷ (yield (suc n) free a ++ (mark n free ParenClose ∷ [])))
project_by_shape n g t a = simp append_assoc

list_shape : (a : Written) (s is e : List Written) (b : Written) → (a ∷ s ++ is ++ e ++ b ∷ []) ≡ (a ∷ s) ++ (is ++ (e ++ (b ∷ [])))
list_shape a s is e b = simp append_assoc

update_shape : (t : List Written) (a : Written) (ks : List Written) (b : Written) (v : List Written) → (t ++ a ∷ ks ++ b ∷ v) ≡ t ++ (a ∷ (ks ++ (b ∷ v)))
update_shape t a ks b v = simp append_assoc

keyed_shape : (t : List Written) (a b : Written) (v : List Written) → (t ++ a ∷ b ∷ v) ≡ t ++ (a ∷ (b ∷ v))
keyed_shape t a b v = refl

more_let_shape : (n : ℕ) (g : Bool) (ls : Lets) (w : NameToken) (a : Note) (v : Derivation) → lets_yield n g (more_lets ls w a v) ≡ lets_yield n g ls ++ (keyword n apart keywords.Let ∷ (name n apart w ∷ (note_yield n a ++ mark n free Equals ∷ yield (suc n) free v)))
more_let_shape n g ls w a v = simp append_assoc

pub choice_steps : (p t e : Derivation) (st : Stack) (n : ℕ) (g : Bool) → least st ≤ 0 → after (kinds.Keyword keywords.Then) (run (need (shut condition ∷ st)) (yield (suc n) apart p)) ≡ need (shut (branch p) ∷ st) → after (kinds.Keyword keywords.Else) (run (need (shut (branch p) ∷ st)) (yield (suc n) apart t)) ≡ need («open» (otherwise p t) ∷ st) → run (need st) (yield n g (choice p t e)) ≡ run (need («open» (otherwise p t) ∷ st)) (yield (suc n) apart e)
choice_steps p t e st n g l ep et =
    ap (run (need st)) (choice_shape n g p t e)
    ∙ ap (λ s. run s (yield (suc n) apart p ++ (keyword n free keywords.Then ∷ (yield (suc n) apart t ++ (keyword n free keywords.Else ∷ yield (suc n) apart e))))) (fits_in 0 st (need (shut condition ∷ st)) l)
    ∙ part_then (need (shut condition ∷ st)) (yield (suc n) apart p) _ (keyword n free keywords.Then) _ ep
    ∙ part_then (need (shut (branch p) ∷ st)) (yield (suc n) apart t) _ (keyword n free keywords.Else) _ et

pub empty_steps : (c : Bool) (a : Derivation) (st : Stack) (n : ℕ) (g : Bool) → least st ≤ 0 → run (need st) (yield n g (empty_list c a)) ≡ run (need («open» (emptied c) ∷ st)) (yield (suc n) apart a)
empty_steps true a st n g l = ap (λ s. run (after (kinds.Mark Colon) s) (yield (suc n) apart a)) (fits_in 0 st (wait (empty true) st) l)
empty_steps false a st n g l = ap (λ s. run (after (kinds.Mark Colon) s) (yield (suc n) apart a)) (fits_in 0 st (wait (empty false) st) l)

pub merge_noted : (t u a : Derivation) (st : Stack) (n : ℕ) (g : Bool) (k : ℕ) → k ≤ 0 → least st ≤ 0 → ReadTo (run (need st) (yield n g (merging t u))) 1 st (merging t u) → ReadTo (run (need («open» (noted (merging t u)) ∷ st)) (yield (suc n) apart a)) k («open» (noted (merging t u)) ∷ st) a → ReadTo (run (need st) (yield n g (merge_as t u a))) k st (merge_as t u a)
merge_noted t u a st n g k m l r q = read_as _ _ k st (merge_as t u a) (ap (run (need st)) (merge_as_shape n g t u a)) (noted_read (merging t u) a (yield n g (merging t u)) st n k m l r q)

pub map_noted : (t a : Derivation) (st : Stack) (n : ℕ) (g : Bool) (k : ℕ) → k ≤ 0 → least st ≤ 0 → ReadTo (run (need st) (yield n g (to_map t))) 1 st (to_map t) → ReadTo (run (need («open» (noted (to_map t)) ∷ st)) (yield (suc n) apart a)) k («open» (noted (to_map t)) ∷ st) a → ReadTo (run (need st) (yield n g (to_map_as t a))) k st (to_map_as t a)
map_noted t a st n g k m l r q = noted_read (to_map t) a (yield n g (to_map t)) st n k m l r q

pub project_steps : (t : Derivation) (c : Bool) (ks : Keys) (e : Bool) (st : Stack) (n : ℕ) (g : Bool) → after (kinds.Mark Dot) (run (need st) (yield n g t)) ≡ wait (dotted t) st → IsTrue (distinct ks) → run (need st) (yield n g (project t c ks e)) ≡ have st (ready (project t c ks e))
project_steps t c ks e st n g dot h =
    ap (run (need st)) (project_shape n g t c ks e)
    ∙ part_then (need st) (yield n g t) _ (mark n free Dot) _ dot
    ∙ run-append (wait (dotted t) st) (mark n free BraceOpen ∷ separator n c Comma) (keys_yield n free Comma ks ++ (separator n e Comma ++ (mark n free BraceClose ∷ [])))
    ∙ ap (λ s. run s (keys_yield n free Comma ks ++ (separator n e Comma ++ (mark n free BraceClose ∷ [])))) (projection_opened c t st n)
    ∙ run-append (wait (projecting t c) st) (keys_yield n free Comma ks) (separator n e Comma ++ (mark n free BraceClose ∷ []))
    ∙ ap (λ s. run s (separator n e Comma ++ (mark n free BraceClose ∷ []))) (reads_project_keys ks n t c st h)
    ∙ projection_closed t c ks e st n

pub project_by_steps : (t a : Derivation) (st : Stack) (n : ℕ) (g : Bool) → after (kinds.Mark Dot) (run (need st) (yield n g t)) ≡ wait (dotted t) st → after (kinds.Mark ParenClose) (run (need (shut (selected t) ∷ st)) (yield (suc n) free a)) ≡ have st (ready (project_by t a)) → run (need st) (yield n g (project_by t a)) ≡ have st (ready (project_by t a))
project_by_steps t a st n g dot e =
    ap (run (need st)) (project_by_shape n g t a)
    ∙ part_then (need st) (yield n g t) _ (mark n free Dot) _ dot
    ∙ part_then (need (shut (selected t) ∷ st)) (yield (suc n) free a) [] (mark n free ParenClose) _ e

pub list_steps : (c : Bool) (is : Items) (e : Bool) (st : Stack) (n : ℕ) (g : Bool) → ItemsRead (run (need (shut (items c None) ∷ st)) (items_yield n is)) c st is → run (need st) (yield n g (list c is e)) ≡ have st (ready (list c is e))
list_steps c is e st n g h =
    ap (run (need st)) (list_shape (mark n g BracketOpen) (separator n c Comma) (items_yield n is) (separator n e Comma) (mark n free BracketClose))
    ∙ run-append (need st) (mark n g BracketOpen ∷ separator n c Comma) (items_yield n is ++ (separator n e Comma ++ (mark n free BracketClose ∷ [])))
    ∙ ap (λ s. run s (items_yield n is ++ (separator n e Comma ++ (mark n free BracketClose ∷ [])))) (bracket_opened c st n g)
    ∙ run-append (need (shut (items c None) ∷ st)) (items_yield n is) (separator n e Comma ++ (mark n free BracketClose ∷ []))
    ∙ list_closed _ c is e st n h

pub union_steps : (c : Bool) (as' : Alternatives) (e : Bool) (st : Stack) (n : ℕ) (g : Bool) → AlternativesRead (run (wait (union_start c) st) (alternatives_yield n as')) c st as' → run (need st) (yield n g (union c as' e)) ≡ have st (ready (union c as' e))
union_steps c as' e st n g h =
    ap (run (need st)) (list_shape (mark n g AngleOpen) (separator n c Bar) (alternatives_yield n as') (separator n e Bar) (mark n free AngleClose))
    ∙ run-append (need st) (mark n g AngleOpen ∷ separator n c Bar) (alternatives_yield n as' ++ (separator n e Bar ++ (mark n free AngleClose ∷ [])))
    ∙ ap (λ s. run s (alternatives_yield n as' ++ (separator n e Bar ++ (mark n free AngleClose ∷ [])))) (angle_opened c st n g)
    ∙ run-append (wait (union_start c) st) (alternatives_yield n as') (separator n e Bar ++ (mark n free AngleClose ∷ []))
    ∙ union_closed _ c as' e st n h

pub record_type_steps : (c : Bool) (fs : Fields) (e : Bool) (st : Stack) (n : ℕ) (g : Bool) → FieldsRead (run (wait (record_start c) st) (fields_yield n fs)) c st fs → run (need st) (yield n g (record_type c fs e)) ≡ have st (ready (record_type c fs e))
record_type_steps c fs e st n g h =
    ap (run (need st)) (list_shape (mark n g BraceOpen) (separator n c Comma) (fields_yield n fs) (separator n e Comma) (mark n free BraceClose))
    ∙ run-append (need st) (mark n g BraceOpen ∷ separator n c Comma) (fields_yield n fs ++ (separator n e Comma ++ (mark n free BraceClose ∷ [])))
    ∙ ap (λ s. run s (fields_yield n fs ++ (separator n e Comma ++ (mark n free BraceClose ∷ [])))) (brace_opened c st n g)
    ∙ run-append (wait (record_start c) st) (fields_yield n fs) (separator n e Comma ++ (mark n free BraceClose ∷ []))
    ∙ fields_closed _ c fs e st n h

pub record_of_steps : (c : Bool) (es : Entries) (e : Bool) (st : Stack) (n : ℕ) (g : Bool) → EntriesRead (run (wait (record_start c) st) (entries_yield n es)) c st es → run (need st) (yield n g (record_of c es e)) ≡ have st (ready (record_of c es e))
record_of_steps c es e st n g h =
    ap (run (need st)) (list_shape (mark n g BraceOpen) (separator n c Comma) (entries_yield n es) (separator n e Comma) (mark n free BraceClose))
    ∙ run-append (need st) (mark n g BraceOpen ∷ separator n c Comma) (entries_yield n es ++ (separator n e Comma ++ (mark n free BraceClose ∷ [])))
    ∙ ap (λ s. run s (entries_yield n es ++ (separator n e Comma ++ (mark n free BraceClose ∷ [])))) (brace_opened c st n g)
    ∙ run-append (wait (record_start c) st) (entries_yield n es) (separator n e Comma ++ (mark n free BraceClose ∷ []))
    ∙ entries_closed _ c es e st n h

pub let_steps : (ls : Option Lets) (w : NameToken) (a : Note) (v : Derivation) (st : Stack) (n : ℕ) → after (kinds.Mark Equals) (run (wait (lettered ls w) st) (note_yield n a)) ≡ need (shut (let_value ls w a) ∷ st) → run (wait (letting ls) st) (name n apart w ∷ (note_yield n a ++ mark n free Equals ∷ yield (suc n) free v)) ≡ run (need (shut (let_value ls w a) ∷ st)) (yield (suc n) free v)
let_steps ls w a v st n e =
    ap (λ s. run s (note_yield n a ++ mark n free Equals ∷ yield (suc n) free v)) (let_name ls st w)
    ∙ part_then (wait (lettered ls w) st) (note_yield n a) _ (mark n free Equals) _ e

pub more_let_steps : (ls : Lets) (w : NameToken) (a : Note) (v : Derivation) (st : Stack) (n : ℕ) (g : Bool) → after (kinds.Keyword keywords.Let) (run (need st) (lets_yield n g ls)) ≡ wait (letting (Some ls)) st → run (need st) (lets_yield n g (more_lets ls w a v)) ≡ run (wait (letting (Some ls)) st) (name n apart w ∷ (note_yield n a ++ mark n free Equals ∷ yield (suc n) free v))
more_let_steps ls w a v st n g e =
    ap (run (need st)) (more_let_shape n g ls w a v)
    ∙ part_then (need st) (lets_yield n g ls) (name n apart w ∷ (note_yield n a ++ mark n free Equals ∷ yield (suc n) free v)) (keyword n apart keywords.Let) _ e

pub update_at : (k : ℕ) (s : State) (st : Stack) (us : Updates) → k ≤ 0 → UpdatesRead s st us → ReadTo s k st (updates us)
update_at zero s st us m h = h.read
update_at (suc k) s st us m h = absurd (omega arith)

key_steps : (s : State) (x : Derivation) (ks : Keys) (v : Derivation) (ws : List Written) (st : Stack) (n : ℕ) → after (kinds.Keyword keywords.With) (run s ws) ≡ wait (with_start x) st → run s (ws ++ (keyword n apart keywords.With ∷ (keys_yield n apart Dot ks ++ (mark n free Equals ∷ yield n free v)))) ≡ run (need («open» (update x ks) ∷ st)) (yield n free v)
key_steps s x ks v ws st n e =
    part_then s ws (keys_yield n apart Dot ks ++ (mark n free Equals ∷ yield n free v)) (keyword n apart keywords.With) (wait (with_start x) st) e
    ∙ part_then (wait (with_start x) st) (keys_yield n apart Dot ks) _ (mark n free Equals) _ (ap (after (kinds.Mark Equals)) (reads_with_keys ks n apart x st))

updated_read : (s : State) (x : Derivation) (ks : Keys) (v : Derivation) (us : Updates) (st : Stack) → updating x ks v ≡ updates us → ReadTo s 1 («open» (update x ks) ∷ st) v → ReadTo s 0 («open» (update x ks) ∷ st) v → UpdatesRead s st us
updated_read s x ks v us st e r q = record {
  again = reads_with_again s x ks st v r ∙ ap (λ y. wait (with_start y) st) e;
  read = read_is s 0 st (updating x ks v) (updates us) e (in_frame s 0 (update x ks) st v (omega arith) q);
}

updates_as : (s t : State) (st : Stack) (us : Updates) → s ≡ t → UpdatesRead t st us → UpdatesRead s st us
updates_as s t st us e h = record { again = ap (after (kinds.Keyword keywords.With)) e ∙ h.again; read = read_as s t 0 st (updates us) e h.read }

pub update_read : (t : Derivation) (ks : Keys) (v : Derivation) (st : Stack) (n : ℕ) (g : Bool) → least st ≤ 0 → IsTrue (is_imp t) → ReadTo (run (need st) (yield n g t)) 1 st t → ReadTo (run (need («open» (update t ks) ∷ st)) (yield n free v)) 1 («open» (update t ks) ∷ st) v → ReadTo (run (need («open» (update t ks) ∷ st)) (yield n free v)) 0 («open» (update t ks) ∷ st) v → UpdatesRead (run (need st) (updates_yield n g (one_update t ks v))) st (one_update t ks v)
update_read t ks v st n g l it r q q' =
    updates_as _ (run (need («open» (update t ks) ∷ st)) (yield n free v)) st (one_update t ks v)
    (ap (run (need st)) (update_shape (yield n g t) (keyword n apart keywords.With) (keys_yield n apart Dot ks) (mark n free Equals) (yield n free v)) ∙ key_steps (need st) t ks v (yield n g t) st n (reads_with _ st t r l it))
    (updated_read _ t ks v (one_update t ks v) st (updating_imp t ks v it) q q')

pub more_update_read : (us : Updates) (ks : Keys) (v : Derivation) (st : Stack) (n : ℕ) (g : Bool) → after (kinds.Keyword keywords.With) (run (need st) (updates_yield n g us)) ≡ wait (with_start (updates us)) st → ReadTo (run (need («open» (update (updates us) ks) ∷ st)) (yield n free v)) 1 («open» (update (updates us) ks) ∷ st) v → ReadTo (run (need («open» (update (updates us) ks) ∷ st)) (yield n free v)) 0 («open» (update (updates us) ks) ∷ st) v → UpdatesRead (run (need st) (updates_yield n g (more_updates us ks v))) st (more_updates us ks v)
more_update_read us ks v st n g e q q' =
    updates_as _ (run (need («open» (update (updates us) ks) ∷ st)) (yield n free v)) st (more_updates us ks v)
    (ap (run (need st)) (update_shape (updates_yield n g us) (keyword n apart keywords.With) (keys_yield n apart Dot ks) (mark n free Equals) (yield n free v)) ∙ key_steps (need st) (updates us) ks v (updates_yield n g us) st n e)
    (updated_read _ (updates us) ks v (more_updates us ks v) st refl q q')

pub chunk_steps : (cs : Chunks) (e : Derivation) (p : Option (List ℕ)) (f : TextForm) (st : Stack) (n : ℕ) → after kinds.InterpolationOpen (run (wait (text_front f opening) st) (chunks_yield n cs)) ≡ need (shut (chunk f cs) ∷ st) → after kinds.InterpolationClose (run (need (shut (chunk f cs) ∷ st)) (yield (suc n) free e)) ≡ wait (text_front f (behind cs e)) st → run (wait (text_front f opening) st) (chunks_yield n (more_chunks cs e p)) ≡ run (wait (text_front f (behind cs e)) st) (piece_yield n p)
chunk_steps cs e p f st n c i =
    ap (run (wait (text_front f opening) st)) (update_shape (chunks_yield n cs) (token n free kinds.InterpolationOpen) (yield (suc n) free e) (token n free kinds.InterpolationClose) (piece_yield n p))
    ∙ part_then (wait (text_front f opening) st) (chunks_yield n cs) (yield (suc n) free e ++ (token n free kinds.InterpolationClose ∷ piece_yield n p)) (token n free kinds.InterpolationOpen) _ c
    ∙ part_then (need (shut (chunk f cs) ∷ st)) (yield (suc n) free e) (piece_yield n p) (token n free kinds.InterpolationClose) _ i

pub alternative_steps : (as' : Alternatives) (k : Key) (a : Note) (c : Bool) (st : Stack) (n : ℕ) → after (kinds.Mark Bar) (run (wait (union_start c) st) (alternatives_yield n as')) ≡ wait (alternative_bar c as') st → IsTrue (not (among (key_label k) (alternative_labels as'))) → run (wait (union_start c) st) (alternatives_yield n (more_alternatives as' k a)) ≡ run (wait (alternative c (Some as') k) st) (note_yield n a)
alternative_steps as' k a c st n e h =
    ap (run (wait (union_start c) st)) (keyed_shape (alternatives_yield n as') (mark n free Bar) (key n free k) (note_yield n a))
    ∙ part_then (wait (union_start c) st) (alternatives_yield n as') (key n free k ∷ note_yield n a) (mark n free Bar) _ e
    ∙ ap (λ s. run s (note_yield n a)) (union_next c as' st k ∙ unrepeated (among (key_label k) (alternative_labels as')) _ h)

pub field_steps : (fs : Fields) (k : Key) (a : Derivation) (c : Bool) (st : Stack) (n : ℕ) → after (kinds.Mark Comma) (run (wait (record_start c) st) (fields_yield n fs)) ≡ wait (field_comma c fs) st → IsTrue (not (among (key_label k) (field_labels fs))) → run (wait (record_start c) st) (fields_yield n (more_fields fs k a)) ≡ run (need (shut (field_type c (Some fs) k) ∷ st)) (yield (suc n) apart a)
field_steps fs k a c st n e h =
    part_then (wait (record_start c) st) (fields_yield n fs) (key n free k ∷ mark n free Colon ∷ yield (suc n) apart a) (mark n free Comma) _ e
    ∙ ap (λ s. run s (mark n free Colon ∷ yield (suc n) apart a)) (field_next c fs st k ∙ unrepeated (among (key_label k) (field_labels fs)) _ h)
