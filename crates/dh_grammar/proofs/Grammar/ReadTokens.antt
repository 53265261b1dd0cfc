-- What the machine reads of single tokens, keys and arguments.
use Rattle.std.proofs.Common.{◌≡◌, ℕ, suc, ◌<◌, ◌≤◌, Bool, true, false, List, [], ◌∷◌, ◌++◌, refl, sym, ◌∙◌, ap, subst, arith, leb-true, le-leb}
use Rattle.std.specs.Prelude.{IsTrue, if◌then◌else◌, not, Option, Some, None}
use Rattle.std.proofs.lemmas.Bool.{lt-leb}
use Rattle.std.proofs.lemmas.List.{append_assoc}
use Rattle.dh_syntax.specs.declared.operators.BinOp.{BinOp}
use Rattle.dh_syntax.specs.declared.operators.BinOp.TheVariants as binary
use Rattle.dh_syntax.specs.declared.operators.Builtin.{Builtin}
use Rattle.dh_syntax.specs.declared.tokens.Keyword.TheVariants as keywords
use Rattle.dh_syntax.specs.declared.tokens.Mark.TheVariants.{ParenOpen, ParenClose, BraceOpen, BraceClose, Comma, Dot, Colon, Arrow, Operator}
use Rattle.dh_syntax.specs.declared.tokens.TokenKind.{TokenKind}
use Rattle.dh_syntax.specs.declared.tokens.TokenKind.TheVariants as kinds
use Rattle.dh_syntax.specs.Text.Derivation.{NameToken, plain, quoted, Key, name_key, truth_key, builtin_key, some_key, key_label, labels, Keys, one_key, more_keys, ImportType, path, url, environment, missing, Derivation, operation, import, field, project_none, project, project_by, natural, integer, truth, builtin, variable, text, brackets, list, union_none, union, record_type_none, record_type, record_none, record_of, Lets, Alternatives, Fields, Entries}
use Rattle.dh_syntax.specs.Text.Derived.{binds, is_imp, is_sel, among, distinct, field_labels, alternative_labels}
use Rattle.dh_syntax.specs.Expressions.Levels.{level_of, left_level}
use Rattle.dh_syntax.specs.Text.Yield.{Written, token, mark, name, key, name_kind, key_kind, import_type_kind, free, separator, keys_yield, index_yield, digest_yield, mode_yield, yield}
use Rattle.dh_grammar.specs.Machine.{left, applied, merged, somed, mapped, update, target, noted, first, «open», shut, named, imported, ready, quantified, quantity, letting, lettered, with_start, with_keys, with_dot, dotted, projecting, projected, projected_comma, union_start, alternative, alternative_bar, record_start, field_comma, field_key, entry_comma, entry_keys, entry_dot, need, have, wait}
use Rattle.dh_grammar.specs.Trees.{Open, Shut, Held, finish, Stack, State, build, updating, join, begin, operate, select, point, annotate, start_update, renew, argue_on, argue, closed, close_on, close, extend, after, least, level, asks, fits, unless}
use Rattle.dh_grammar.specs.Running.{run}
use Rattle.dh_grammar.specs.Inside.Valid.{D}
use Rattle.dh_grammar.proofs.TruthValues.{left_of, right_of, not_false}
use Rattle.dh_grammar.proofs.Grammar.Joining.{least_low}

pub run-append : (s : State) (ws vs : List Written) → run s (ws ++ vs) ≡ run (run s ws) vs
run-append s [] vs = refl
run-append s (w ∷ ws) vs = run-append (after w.kind s) ws vs

-- the machine holds what is as good as this operand on this stack, once it joins what binds as tightly as k
pub record ReadTo (s : State) (k : ℕ) (st : Stack) (x : Derivation) : Type 0 where
  pub stack : Stack
  pub held : Held
  pub is : s ≡ have stack held
  pub joins : join k stack (finish held) ≡ join k st x

pub read_as : (s t : State) (k : ℕ) (st : Stack) (x : Derivation) → s ≡ t → ReadTo t k st x → ReadTo s k st x
read_as s t k st x e r = record { stack = r.stack; held = r.held; is = e ∙ r.is; joins = r.joins }

-- a part read in an open frame
pub in_frame : (s : State) (k : ℕ) (f : Open) (st : Stack) (x : Derivation) → k ≤ level f → ReadTo s k («open» f ∷ st) x → ReadTo s k st (build f x)
in_frame s k f st x l r = record { stack = r.stack; held = r.held; is = r.is; joins = r.joins ∙ ap (λ b. if b then join k st (build f x) else have («open» f ∷ st) (ready x)) (le-leb k (level f) l) }

-- an operand that is ready
pub at_once : (k : ℕ) (st : Stack) (h : Held) → ReadTo (have st h) k st (finish h)
at_once k st h = record { stack = st; held = h; is = refl; joins = refl }

pub ready_now : (s : State) (k : ℕ) (st : Stack) (x : Derivation) → s ≡ have st (ready x) → ReadTo s k st x
ready_now s k st x e = record { stack = st; held = ready x; is = e; joins = refl }

-- nothing is joined where the place asks for no more than the level
frame_low : (k : ℕ) (f : Open) → 1 ≤ k → asks f ≤ k → level f < k
frame_low k (left l o) p h = omega arith
frame_low k (applied f) p h = omega arith
frame_low k (merged f) p h = omega arith
frame_low k somed p h = omega arith
frame_low k mapped p h = omega arith
frame_low k _ p h = omega arith

pub join_low : (k : ℕ) (st : Stack) (x : Derivation) → 1 ≤ k → least st ≤ k → join k st x ≡ have st (ready x)
join_low k [] x p h = refl
join_low k (shut f ∷ st) x p h = refl
join_low k («open» f ∷ st) x p h = rw (lt-leb k (level f) (frame_low k f p h))

-- ---- a token behind an operand

-- it is read from what was joined
pub read_on : (k : TokenKind) (m : ℕ) (go : State → State) (s : State) (st : Stack) (x : Derivation) → ((st : Stack) (h : Held) → extend k st h ≡ go (join m st (finish h))) → ReadTo s m st x → after k s ≡ go (join m st x)
read_on k m go s st x e r = ap (after k) r.is ∙ e r.stack r.held ∙ ap go r.joins

pub left_above : (o : BinOp) → level_of o ≤ left_level o
left_above binary.Complete = omega arith
left_above binary.Equivalent = omega arith
left_above _ = omega arith

left_positive : (o : BinOp) → 1 ≤ left_level o
left_positive binary.Complete = omega arith
left_positive binary.Equivalent = omega arith
left_positive _ = omega arith

pub reads_operator : (o : BinOp) (s : State) (st : Stack) (l : Derivation) → ReadTo s (left_level o) st l → least st ≤ level_of o → left_level o ≤ binds l → after (kinds.Mark (Operator o)) s ≡ need («open» (left l o) ∷ st)
reads_operator o s st l r a b =
    let above = left_above o in
    read_on (kinds.Mark (Operator o)) (left_level o) (operate o) s st l (λ st h. refl) r
    ∙ ap (operate o) (join_low (left_level o) st l (left_positive o) (omega arith))
    ∙ rw (le-leb (left_level o) (binds l) b, le-leb (least st) (level_of o) a)

pub reads_dot : (s : State) (st : Stack) (x : Derivation) → ReadTo s 16 st x → 16 ≤ binds x → after (kinds.Mark Dot) s ≡ wait (dotted x) st
reads_dot s st x r b = read_on (kinds.Mark Dot) 16 select s st x (λ st h. refl) r ∙ ap select (join_low 16 st x (omega arith) (least_low st)) ∙ rw (le-leb 16 (binds x) b)

pub reads_arrow : (s : State) (st : Stack) (x : Derivation) → ReadTo s 1 st x → least st ≤ 0 → after (kinds.Mark Arrow) s ≡ need («open» (target x) ∷ st)
reads_arrow s st x r l = read_on (kinds.Mark Arrow) 1 point s st x (λ st h. refl) r ∙ ap point (join_low 1 st x (omega arith) (omega arith)) ∙ rw (le-leb (least st) 0 l)

pub reads_colon : (s : State) (st : Stack) (x : Derivation) → ReadTo s 1 st x → least st ≤ 0 → after (kinds.Mark Colon) s ≡ need («open» (noted x) ∷ st)
reads_colon s st x r l = read_on (kinds.Mark Colon) 1 annotate s st x (λ st h. refl) r ∙ ap annotate (join_low 1 st x (omega arith) (omega arith)) ∙ rw (le-leb (least st) 0 l)

pub fits_in : (n : ℕ) (st : Stack) (s : State) → least st ≤ n → fits n st s ≡ s
fits_in n st s l = rw (le-leb (least st) n l)

first_with : (st : Stack) (x : Derivation) → least st ≤ 0 → is_imp x ≡ true → start_update st x ≡ wait (with_start x) st
first_with [] x l e = rw e
first_with («open» (update y ks) ∷ st) x l e = absurd (omega arith)
first_with («open» (left a o) ∷ st) x l e = absurd (omega arith)
first_with (f ∷ st) x l e = rw e (fits_in 0 (f ∷ st) _ l)

pub reads_with : (s : State) (st : Stack) (x : Derivation) → ReadTo s 1 st x → least st ≤ 0 → is_imp x ≡ true → after (kinds.Keyword keywords.With) s ≡ wait (with_start x) st
reads_with s st x r l e = read_on (kinds.Keyword keywords.With) 1 renew s st x (λ st h. refl) r ∙ ap renew (join_low 1 st x (omega arith) (omega arith)) ∙ first_with st x l e

pub reads_with_again : (s : State) (y : Derivation) (ks : Keys) (st : Stack) (v : Derivation) → ReadTo s 1 («open» (update y ks) ∷ st) v → after (kinds.Keyword keywords.With) s ≡ wait (with_start (updating y ks v)) st
reads_with_again s y ks st v r = read_on (kinds.Keyword keywords.With) 1 renew s («open» (update y ks) ∷ st) v (λ st h. refl) r

-- a place is ended
pub ends : (k : TokenKind) (f : Shut) (s : State) (st : Stack) (x : Derivation) → ((st : Stack) (h : Held) → extend k st h ≡ close k (join 0 st (finish h))) → close_on k (shut f ∷ st) x ≡ closed k f x st → ReadTo s 0 (shut f ∷ st) x → after k s ≡ closed k f x st
ends k f s st x e c r = read_on k 0 (close k) s (shut f ∷ st) x e r ∙ c

-- ---- arguments

-- the first token of an operand begins an argument where one may stand
abbrev Argues : List Written → Type 0
Argues [] = ⊥
Argues (w ∷ ws) = (st : Stack) (h : Held) → extend w.kind st h ≡ argue w.kind (join 14 st (finish h))

argues-append : (ws vs : List Written) → Argues ws → Argues (ws ++ vs)
argues-append [] vs h = absurd h
argues-append (w ∷ ws) vs h = h

name_argues : (n : ℕ) (g : Bool) (w : NameToken) (ws : List Written) → Argues (name n g w ∷ ws)
name_argues n g (plain x) ws st h = refl
name_argues n g (quoted x) ws st h = refl

import_argues : (n : ℕ) (g : Bool) (i : ImportType) (ws : List Written) → Argues (token n g (import_type_kind i) ∷ ws)
import_argues n g (path l) ws st h = refl
import_argues n g (url l) ws st h = refl
import_argues n g (environment x) ws st h = refl
import_argues n g missing ws st h = refl

complete_only : (o : BinOp) → 15 ≤ level_of o → 16 ≤ left_level o
complete_only binary.Complete h = omega arith
complete_only binary.Equivalent h = absurd (omega arith)
complete_only _ h = absurd (omega arith)

pub operation_left : (o : BinOp) (l r : Derivation) → D (operation o l r) → left_level o ≤ binds l
operation_left o l r d = leb-true (left_level o) (binds l) (left_of _ _ (left_of _ _ (left_of _ _ d)))

-- a selection begins with what it selects from
sel_argues : (ws vs us : List Written) → us ≡ ws ++ vs → Argues ws → Argues us
sel_argues ws vs us e h = subst Argues (sym e) (argues-append ws vs h)

sel_low : (t : Derivation) → IsTrue (is_sel t) → 15 ≤ binds t
sel_low t h = let low = leb-true 16 (binds t) h in omega arith

pub argues : (x : Derivation) (n : ℕ) (g : Bool) → D x → 15 ≤ binds x → Argues (yield n g x)
argues (operation o l r) n g d b =
    let low = operation_left o l r d in let high = complete_only o b in
    argues-append (yield n g l) _ (argues l n g (right_of _ _ (left_of _ _ d)) (omega arith))
argues (import i d m) n g h b = import_argues n g i (digest_yield n d ++ mode_yield n m)
argues (field t k) n g d b = argues-append (yield n g t) _ (argues t n g (right_of _ _ d) (sel_low t (left_of _ _ d)))
argues (project_none t c) n g d b = sel_argues (yield n g t) (mark n free Dot ∷ mark n free BraceOpen ∷ (separator n c Comma ++ (mark n free BraceClose ∷ []))) _ (simp append_assoc) (argues t n g (right_of _ _ d) (sel_low t (left_of _ _ d)))
argues (project t c ks e) n g d b = sel_argues (yield n g t) (mark n free Dot ∷ mark n free BraceOpen ∷ (separator n c Comma ++ (keys_yield n free Comma ks ++ (separator n e Comma ++ (mark n free BraceClose ∷ []))))) _ (simp append_assoc) (argues t n g (right_of _ _ (left_of _ _ d)) (sel_low t (left_of _ _ (left_of _ _ d))))
argues (project_by t a) n g d b = sel_argues (yield n g t) (mark n free Dot ∷ mark n free ParenOpen ∷ (yield (suc n) free a ++ (mark n free ParenClose ∷ []))) _ (simp append_assoc) (argues t n g (right_of _ _ (left_of _ _ d)) (sel_low t (left_of _ _ (left_of _ _ d))))
argues (natural i) n g d b = λ st h. refl
argues (integer z) n g d b = λ st h. refl
argues (truth v) n g d b = λ st h. refl
argues (builtin v) n g d b = λ st h. refl
argues (variable w i) n g d b = name_argues n g w (index_yield n i)
argues (text f cs) n g d b = λ st h. refl
argues (brackets e) n g d b = λ st h. refl
argues (list c is e) n g d b = λ st h. refl
argues (union_none c) n g d b = λ st h. refl
argues (union c as' e) n g d b = λ st h. refl
argues (record_type_none c) n g d b = λ st h. refl
argues (record_type c fs e) n g d b = λ st h. refl
argues (record_none c e) n g d b = λ st h. refl
argues (record_of c es e) n g d b = λ st h. refl
argues x n g d b = absurd (omega arith)

-- so an operand is read as the next one of a frame
pub argued : (ws : List Written) (s : State) (st : Stack) (x : Derivation) (st' : Stack) → Argues ws → ReadTo s 14 st x → join 14 st x ≡ have st (ready x) → ((k : TokenKind) → argue_on k st x ≡ begin k st') → run s ws ≡ run (need st') ws
argued [] s st x st' a r low e = absurd a
argued (w ∷ ws) s st x st' a r low e =
    ap (λ s. run s ws) (ap (after w.kind) r.is ∙ a r.stack r.held ∙ ap (argue w.kind) (r.joins ∙ low) ∙ e w.kind)

pub applies : (k : TokenKind) (st : Stack) (x : Derivation) → least st ≤ 14 → argue_on k st x ≡ begin k («open» (applied x) ∷ st)
applies k [] x l = refl
applies k («open» f ∷ st) x l = fits_in 14 («open» f ∷ st) _ l
applies k (shut first ∷ st) x l = absurd (omega arith)
applies k (shut f ∷ st) x l = refl

-- ---- keys

by_key : (P : Key → Type 0) → ((x : _) → P (name_key (plain x))) → ((x : _) → P (name_key (quoted x))) → ((b : Bool) → P (truth_key b)) → ((b : Builtin) → P (builtin_key b)) → P some_key → (k : Key) → P k
by_key P f g h i j (name_key (plain x)) = f x
by_key P f g h i j (name_key (quoted x)) = g x
by_key P f g h i j (truth_key b) = h b
by_key P f g h i j (builtin_key b) = i b
by_key P f g h i j some_key = j

by_name : (P : NameToken → Type 0) → ((x : _) → P (plain x)) → ((x : _) → P (quoted x)) → (w : NameToken) → P w
by_name P f g (plain x) = f x
by_name P f g (quoted x) = g x

with_first : (x : Derivation) (st : Stack) (k : Key) → after (key_kind k) (wait (with_start x) st) ≡ wait (with_keys x (one_key k)) st
with_first x st k = by_key (λ k. after (key_kind k) (wait (with_start x) st) ≡ wait (with_keys x (one_key k)) st) (λ x. refl) (λ x. refl) (λ b. refl) (λ b. refl) refl k

with_next : (x : Derivation) (ks : Keys) (st : Stack) (k : Key) → after (key_kind k) (wait (with_dot x ks) st) ≡ wait (with_keys x (more_keys ks k)) st
with_next x ks st k = by_key (λ k. after (key_kind k) (wait (with_dot x ks) st) ≡ wait (with_keys x (more_keys ks k)) st) (λ x. refl) (λ x. refl) (λ b. refl) (λ b. refl) refl k

pub reads_with_keys : (ks : Keys) (n : ℕ) (g : Bool) (x : Derivation) (st : Stack) → run (wait (with_start x) st) (keys_yield n g Dot ks) ≡ wait (with_keys x ks) st
reads_with_keys (one_key k) n g x st = with_first x st k
reads_with_keys (more_keys ks k) n g x st =
    run-append (wait (with_start x) st) (keys_yield n g Dot ks) _ ∙ ap (λ s. run s (mark n free Dot ∷ key n free k ∷ [])) (reads_with_keys ks n g x st) ∙ with_next x ks st k

entry_next : (c : Bool) (es : Option Entries) (ks : Keys) (st : Stack) (k : Key) → after (key_kind k) (wait (entry_dot c es ks) st) ≡ wait (entry_keys c es (more_keys ks k)) st
entry_next c es ks st k = by_key (λ k. after (key_kind k) (wait (entry_dot c es ks) st) ≡ wait (entry_keys c es (more_keys ks k)) st) (λ x. refl) (λ x. refl) (λ b. refl) (λ b. refl) refl k

-- a state where the first key of an entry may stand
abbrev pub IsEntryStart : State → Bool → Option Entries → Stack → Type 0
IsEntryStart s c es st = (k : Key) → after (key_kind k) s ≡ wait (entry_keys c es (one_key k)) st

pub record_entry : (c : Bool) (st : Stack) → IsEntryStart (wait (record_start c) st) c None st
record_entry true st k = by_key (λ k. after (key_kind k) (wait (record_start true) st) ≡ wait (entry_keys true None (one_key k)) st) (λ x. refl) (λ x. refl) (λ b. refl) (λ b. refl) refl k
record_entry false st k = by_key (λ k. after (key_kind k) (wait (record_start false) st) ≡ wait (entry_keys false None (one_key k)) st) (λ x. refl) (λ x. refl) (λ b. refl) (λ b. refl) refl k

pub comma_entry : (c : Bool) (es : Entries) (st : Stack) → IsEntryStart (wait (entry_comma c es) st) c (Some es) st
comma_entry c es st k = by_key (λ k. after (key_kind k) (wait (entry_comma c es) st) ≡ wait (entry_keys c (Some es) (one_key k)) st) (λ x. refl) (λ x. refl) (λ b. refl) (λ b. refl) refl k

pub reads_entry_keys : (ks : Keys) (n : ℕ) (s : State) (c : Bool) (es : Option Entries) (st : Stack) → IsEntryStart s c es st → run s (keys_yield n free Dot ks) ≡ wait (entry_keys c es ks) st
reads_entry_keys (one_key k) n s c es st h = h k
reads_entry_keys (more_keys ks k) n s c es st h =
    run-append s (keys_yield n free Dot ks) _ ∙ ap (λ s. run s (mark n free Dot ∷ key n free k ∷ [])) (reads_entry_keys ks n s c es st h) ∙ entry_next c es ks st k

pub reads_field : (x : Derivation) (st : Stack) (k : Key) → after (key_kind k) (wait (dotted x) st) ≡ have st (ready (field x k))
reads_field x st k = by_key (λ k. after (key_kind k) (wait (dotted x) st) ≡ have st (ready (field x k))) (λ x. refl) (λ x. refl) (λ b. refl) (λ b. refl) refl k

project_first : (x : Derivation) (c : Bool) (st : Stack) (k : Key) → after (key_kind k) (wait (projecting x c) st) ≡ wait (projected x c (one_key k)) st
project_first x true st k = by_key (λ k. after (key_kind k) (wait (projecting x true) st) ≡ wait (projected x true (one_key k)) st) (λ x. refl) (λ x. refl) (λ b. refl) (λ b. refl) refl k
project_first x false st k = by_key (λ k. after (key_kind k) (wait (projecting x false) st) ≡ wait (projected x false (one_key k)) st) (λ x. refl) (λ x. refl) (λ b. refl) (λ b. refl) refl k

project_next : (x : Derivation) (c : Bool) (ks : Keys) (st : Stack) (k : Key) → after (key_kind k) (wait (projected_comma x c ks) st) ≡ unless (among (key_label k) (labels ks)) (wait (projected x c (more_keys ks k)) st)
project_next x c ks st k =
    by_key (λ k. after (key_kind k) (wait (projected_comma x c ks) st) ≡ unless (among (key_label k) (labels ks)) (wait (projected x c (more_keys ks k)) st)) (λ x. refl) (λ x. refl) (λ b. refl) (λ b. refl) refl k

pub unrepeated : (b : Bool) (s : State) → IsTrue (not b) → unless b s ≡ s
unrepeated b s h = rw (not_false b h)

pub reads_project_keys : (ks : Keys) (n : ℕ) (x : Derivation) (c : Bool) (st : Stack) → IsTrue (distinct ks) → run (wait (projecting x c) st) (keys_yield n free Comma ks) ≡ wait (projected x c ks) st
reads_project_keys (one_key k) n x c st h = project_first x c st k
reads_project_keys (more_keys ks k) n x c st h =
    run-append (wait (projecting x c) st) (keys_yield n free Comma ks) _
    ∙ ap (λ s. run s (mark n free Comma ∷ key n free k ∷ [])) (reads_project_keys ks n x c st (left_of _ _ h))
    ∙ project_next x c ks st k ∙ unrepeated (among (key_label k) (labels ks)) _ (right_of _ _ h)

pub union_first : (c : Bool) (st : Stack) (k : Key) → after (key_kind k) (wait (union_start c) st) ≡ wait (alternative c None k) st
union_first true st k = by_key (λ k. after (key_kind k) (wait (union_start true) st) ≡ wait (alternative true None k) st) (λ x. refl) (λ x. refl) (λ b. refl) (λ b. refl) refl k
union_first false st k = by_key (λ k. after (key_kind k) (wait (union_start false) st) ≡ wait (alternative false None k) st) (λ x. refl) (λ x. refl) (λ b. refl) (λ b. refl) refl k

pub union_next : (c : Bool) (as' : Alternatives) (st : Stack) (k : Key) → after (key_kind k) (wait (alternative_bar c as') st) ≡ unless (among (key_label k) (alternative_labels as')) (wait (alternative c (Some as') k) st)
union_next c as' st k =
    by_key (λ k. after (key_kind k) (wait (alternative_bar c as') st) ≡ unless (among (key_label k) (alternative_labels as')) (wait (alternative c (Some as') k) st)) (λ x. refl) (λ x. refl) (λ b. refl) (λ b. refl) refl k

pub field_next : (c : Bool) (fs : Fields) (st : Stack) (k : Key) → after (key_kind k) (wait (field_comma c fs) st) ≡ unless (among (key_label k) (field_labels fs)) (wait (field_key c fs k) st)
field_next c fs st k =
    by_key (λ k. after (key_kind k) (wait (field_comma c fs) st) ≡ unless (among (key_label k) (field_labels fs)) (wait (field_key c fs k) st)) (λ x. refl) (λ x. refl) (λ b. refl) (λ b. refl) refl k

pub quantified_name : (b : Bool) (st : Stack) (w : NameToken) → after (name_kind w) (wait (quantified b) st) ≡ wait (quantity b w) st
quantified_name b st w = by_name (λ w. after (name_kind w) (wait (quantified b) st) ≡ wait (quantity b w) st) (λ x. refl) (λ x. refl) w

pub let_name : (ls : Option Lets) (st : Stack) (w : NameToken) → after (name_kind w) (wait (letting ls) st) ≡ wait (lettered ls w) st
let_name ls st w = by_name (λ w. after (name_kind w) (wait (letting ls) st) ≡ wait (lettered ls w) st) (λ x. refl) (λ x. refl) w

pub variable_name : (st : Stack) (w : NameToken) → after (name_kind w) (need st) ≡ have st (named w)
variable_name st w = by_name (λ w. after (name_kind w) (need st) ≡ have st (named w)) (λ x. refl) (λ x. refl) w

pub begins_import : (st : Stack) (i : ImportType) → after (import_type_kind i) (need st) ≡ fits 15 st (have st (imported i None))
begins_import st (path l) = refl
begins_import st (url l) = refl
begins_import st (environment x) = refl
begins_import st missing = refl
