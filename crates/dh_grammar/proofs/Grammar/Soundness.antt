-- Each token leads from a valid state to a valid one that has read it.
use Rattle.std.proofs.Common.{◌≡◌, ℕ, ◌≤◌, Bool, true, false, List, [], ◌∷◌, ◌++◌, refl, sym, ◌∙◌, ap, arith, leb-true, le-leb}
use Rattle.std.specs.Prelude.{IsTrue, nat_le, if◌then◌else◌, ◌&&◌, Option, Some, None, codes}
use Rattle.std.proofs.lemmas.List.{append_assoc}
use Rattle.dh_syntax.proofs.Numbers.{bytes_eq-true}
use Rattle.dh_syntax.specs.Expressions.Numbers.{bytes_eq}
use Rattle.dh_syntax.specs.declared.locations.Digest.{Digest}
use Rattle.dh_syntax.specs.declared.locations.Mode.TheVariants as modes
use Rattle.dh_syntax.specs.declared.operators.BinOp.{BinOp}
use Rattle.dh_syntax.specs.declared.operators.BinOp.TheVariants as binary
use Rattle.dh_syntax.specs.declared.operators.Builtin.TheVariants as builtins
use Rattle.dh_syntax.specs.declared.tokens.Keyword.TheVariants as keywords
use Rattle.dh_syntax.specs.declared.tokens.Mark.TheVariants.{ParenOpen, ParenClose, BracketOpen, BracketClose, BraceOpen, BraceClose, AngleOpen, AngleClose, Comma, Dot, Colon, Equals, At, Bar, Arrow, Lambda, Forall, Operator}
use Rattle.dh_syntax.specs.declared.tokens.TextForm.{TextForm}
use Rattle.dh_syntax.specs.declared.tokens.TokenKind.{TokenKind}
use Rattle.dh_syntax.specs.declared.tokens.TokenKind.TheVariants as kinds
use Rattle.dh_syntax.specs.Text.Derivation.{key_label, labels, Keys, one_key, more_keys, Derivation, updates, import, field, project, text, Chunks, Alternatives, Fields, Entries, alone, record_of}
use Rattle.dh_syntax.specs.Text.Derived.{binds, is_imp, is_sel, derived, among, distinct, field_labels, alternative_labels}
use Rattle.dh_syntax.specs.Expressions.Levels.{level_of, left_level}
use Rattle.dh_syntax.specs.Text.Yield.{Written, token, mark, keyword, apart, free, yield, keys_yield, separator, chunks_yield}
use Rattle.dh_grammar.specs.Inside.Before.{Text, before, before_stack, before_with, wait_before, in_projection, front_before}
use Rattle.dh_grammar.specs.Machine.{left, applied, merged, update, target, noted, bracket, domain, condition, branch, let_type, let_value, selected, first, items, alternative_type, field_type, entry_value, chunk, «open», shut, named, imported, ready, quantifier, quantified, quantity, domained, asserting, letting, lettered, with_start, with_keys, with_dot, indexed, moded, dotted, projecting, projected, projected_comma, empty, union_start, alternative, alternative_bar, record_start, record_equals, field_comma, field_key, entry_comma, entry_keys, entry_dot, text_front, text_piece, need, have, wait, done, stopped, key_of, extend_gap}
use Rattle.dh_grammar.specs.Trees.{Open, Front, Shut, Held, finish, Wait, Stack, State, updating, join, sealed, begin, no_item, item_comma, operate, select, point, annotate, start_update, renew, argue_on, argue, closed, close_on, close, index_on, digest_on, mode_on, extend, lone, waited, after, least, open_gap, depth_on, depth_out, gap_on, fits, expression, unless, with_key, first_field, wait_gap, begin_depth, extend_depth, written}
use Rattle.dh_grammar.specs.Inside.Valid.{D, is_base, StackOk, Holds, Valid}
use Rattle.dh_grammar.proofs.TruthValues.{by_test, both, left_of, right_of, not_true}
use Rattle.dh_grammar.proofs.Grammar.Joining.{least_low, built_holds, build_yield, Joined, JoinedTo, held_joins}
use Rattle.dh_grammar.proofs.Grammar.Leading.{Leads, leads_same, fits_leads, with_name_leads, with_key_leads}
use Rattle.dh_grammar.proofs.Grammar.Parts.{add_let_ok, add_item_ok, add_entry_ok, add_alternative_ok, add_field_ok, sealed_ok, let_yield, item_yield, alternative_yield, field_yield, added_entry_yield, sealed_yield}

-- a primitive
prim : (st : Stack) (x : Derivation) → StackOk st → D x → 17 ≤ binds x → Holds 15 st x
prim st x h d b = record { stack = h; derived = d; stands = let low = least_low st in omega arith; tight = omega arith }

-- what stands where its level lets it
stood : (st : Stack) (x : Derivation) → StackOk st → D x → least st ≤ binds x → 15 ≤ binds x → Holds 15 st x
stood st x h d a b = record { stack = h; derived = d; stands = a; tight = b }

-- ---- where an operand begins

no_item_leads : (st : Stack) → StackOk st → Leads (λ r. before_stack st (mark (depth_out st) (gap_on st) BracketClose ∷ r)) (no_item st)
no_item_leads (shut (items c None) ∷ st) h = fits_leads 0 st _ (wait (empty c) st) (λ l. ((l, tt, h.2), λ r. refl))
no_item_leads (shut (items c (Some is)) ∷ st) h = (prim st _ h.2 h.1 (omega arith), λ r. simp append_assoc)
no_item_leads _ h = (tt, tt)

item_comma_leads : (st : Stack) → StackOk st → Leads (λ r. before_stack st (mark (depth_out st) (gap_on st) Comma ∷ r)) (item_comma st)
item_comma_leads (shut (items false None) ∷ st) h = (h, λ r. refl)
item_comma_leads _ h = (tt, tt)

pub begin_leads : (k : TokenKind) (st : Stack) → StackOk st → Leads (λ r. before_stack st (token (begin_depth k st) (gap_on st) k ∷ r)) (begin k st)
begin_leads (kinds.Name x) st h = (prim st _ h refl (omega arith), λ r. refl)
begin_leads (kinds.Quoted x) st h = (prim st _ h refl (omega arith), λ r. refl)
begin_leads (kinds.Bool b) st h = (prim st _ h refl (omega arith), λ r. refl)
begin_leads (kinds.Builtin b) st h = (prim st _ h refl (omega arith), λ r. refl)
begin_leads (kinds.Natural n) st h = (prim st _ h refl (omega arith), λ r. refl)
begin_leads (kinds.Integer z) st h = (prim st _ h refl (omega arith), λ r. refl)
begin_leads (kinds.TextOpen f) st h = ((let low = least_low st in omega arith, tt, h), λ r. refl)
begin_leads (kinds.Path l) st h = fits_leads 15 st _ _ (λ l. (stood st _ h refl l (omega arith), λ r. refl))
begin_leads (kinds.Url l) st h = fits_leads 15 st _ _ (λ l. (stood st _ h refl l (omega arith), λ r. refl))
begin_leads (kinds.Environment x) st h = fits_leads 15 st _ _ (λ l. (stood st _ h refl l (omega arith), λ r. refl))
begin_leads (kinds.Keyword keywords.Missing) st h = fits_leads 15 st _ _ (λ l. (stood st _ h refl l (omega arith), λ r. refl))
begin_leads (kinds.Keyword keywords.If) st h = fits_leads 0 st _ _ (λ l. ((l, tt, h), λ r. refl))
begin_leads (kinds.Keyword keywords.Let) st h = fits_leads 0 st _ _ (λ l. ((l, tt, h), λ r. refl))
begin_leads (kinds.Keyword keywords.Assert) st h = fits_leads 0 st _ _ (λ l. ((l, tt, h), λ r. refl))
begin_leads (kinds.Keyword keywords.Merge) st h = fits_leads 14 st _ _ (λ l. ((l, tt, h), λ r. refl))
begin_leads (kinds.Keyword keywords.Some) st h = fits_leads 14 st _ _ (λ l. ((l, tt, h), λ r. refl))
begin_leads (kinds.Keyword keywords.ToMap) st h = fits_leads 14 st _ _ (λ l. ((l, tt, h), λ r. refl))
begin_leads (kinds.Mark ParenOpen) st h = ((let low = least_low st in omega arith, tt, h), λ r. refl)
begin_leads (kinds.Mark BracketOpen) st h = ((let low = least_low st in omega arith, tt, h), λ r. refl)
begin_leads (kinds.Mark BracketClose) st h = no_item_leads st h
begin_leads (kinds.Mark Comma) st h = item_comma_leads st h
begin_leads (kinds.Mark BraceOpen) st h = ((let low = least_low st in omega arith, tt, h), λ r. refl)
begin_leads (kinds.Mark AngleOpen) st h = ((let low = least_low st in omega arith, tt, h), λ r. refl)
begin_leads (kinds.Mark Lambda) st h = fits_leads 0 st _ _ (λ l. ((l, tt, h), λ r. refl))
begin_leads (kinds.Mark Forall) st h = fits_leads 0 st _ _ (λ l. ((l, tt, h), λ r. refl))
begin_leads _ st h = (tt, tt)

-- ---- behind an operand

-- the text with a token behind the operand
abbrev behind_operand : Stack → Derivation → (ℕ → Written) → Text
behind_operand st x w r = before_with st x (w (depth_on st) ∷ r)

moved : (m k : ℕ) (st : Stack) (x : Derivation) (st' : Stack) (x' : Derivation) (w : ℕ → Written) → Joined m k st x st' x' → 1 ≤ k → (r : List Written) → behind_operand st x w r ≡ behind_operand st' x' w r
moved m k st x st' x' w j p r = j.same (w (depth_on st) ∷ r) ∙ ap (λ n. before_with st' x' (w n ∷ r)) (j.on p)

left_level_positive : (o : BinOp) → 1 ≤ left_level o
left_level_positive binary.Complete = omega arith
left_level_positive binary.Equivalent = omega arith
left_level_positive _ = omega arith

operate_leads : (o : BinOp) (k : ℕ) (st : Stack) (x : Derivation) (s : State) → 1 ≤ k → JoinedTo 0 k st x s → Leads (behind_operand st x (λ n. mark n free (Operator o))) (operate o s)
operate_leads o k st x (have st' (ready x')) p j =
    by_test (Leads (behind_operand st x (λ n. mark n free (Operator o)))) (nat_le (left_level o) (binds x') && nat_le (least st') (level_of o)) (need («open» (left x' o) ∷ st')) stopped
    (λ e. (
      (
        leb-true (least st') (level_of o) (right_of (nat_le (left_level o) (binds x')) (nat_le (least st') (level_of o)) e),
        (j.held.derived, leb-true (left_level o) (binds x') (left_of (nat_le (left_level o) (binds x')) (nat_le (least st') (level_of o)) e)),
        j.held.stack,
      ),
      moved 0 k st x st' x' (λ n. mark n free (Operator o)) j p,
    ))
    (λ e. (tt, tt))
operate_leads o k st x _ p j = absurd j

select_leads : (st : Stack) (x : Derivation) (s : State) → JoinedTo 0 16 st x s → Leads (behind_operand st x (λ n. mark n free Dot)) (select s)
select_leads st x (have st' (ready x')) j =
    by_test (Leads (behind_operand st x (λ n. mark n free Dot))) (nat_le 16 (binds x')) (wait (dotted x') st') stopped
    (λ e. let b = leb-true 16 (binds x') e in ((least_low st', (j.held.derived, b), j.held.stack), moved 0 16 st x st' x' (λ n. mark n free Dot) j (omega arith)))
    (λ e. (tt, tt))
select_leads st x _ j = absurd j

point_leads : (st : Stack) (x : Derivation) (s : State) → JoinedTo 1 1 st x s → Leads (behind_operand st x (λ n. mark n free Arrow)) (point s)
point_leads st x (have st' (ready x')) j =
    fits_leads 0 st' _ (need («open» (target x') ∷ st')) (λ l. ((l, (j.held.derived, j.held.tight), j.held.stack), moved 1 1 st x st' x' (λ n. mark n free Arrow) j (omega arith)))
point_leads st x _ j = absurd j

annotate_leads : (st : Stack) (x : Derivation) (s : State) → JoinedTo 1 1 st x s → Leads (behind_operand st x (λ n. mark n free Colon)) (annotate s)
annotate_leads st x (have st' (ready x')) j =
    fits_leads 0 st' _ (need («open» (noted x') ∷ st')) (λ l. ((l, (j.held.derived, j.held.tight), j.held.stack), moved 1 1 st x st' x' (λ n. mark n free Colon) j (omega arith)))
annotate_leads st x _ j = absurd j

abbrev with_mark : ℕ → Written
with_mark n = keyword n apart keywords.With

updating_base : (x : Derivation) (ks : Keys) (v : Derivation) → is_base (updating x ks v) ≡ true
updating_base (updates us) ks v = refl
updating_base x ks v = refl

imp_base : (x : Derivation) → IsTrue (is_imp x) → IsTrue (is_base x)
imp_base (updates us) h = refl
imp_base x h = h

first_update_leads : (st : Stack) (x : Derivation) → Holds 1 st x → Leads (behind_operand st x with_mark) (if is_imp x then expression st (wait (with_start x) st) else stopped)
first_update_leads st x h =
    by_test (Leads (behind_operand st x with_mark)) (is_imp x) (expression st (wait (with_start x) st)) stopped
    (λ e. fits_leads 0 st _ (wait (with_start x) st) (λ l. ((l, (h.derived, imp_base x e), h.stack), λ r. refl)))
    (λ e. (tt, tt))

start_update_leads : (st : Stack) (x : Derivation) → Holds 1 st x → Leads (behind_operand st x with_mark) (start_update st x)
start_update_leads («open» (update y ks) ∷ st) v h =
    let b = built_holds 0 (update y ks) st v h.stack h.derived h.stands (omega arith) in
    ((h.stack.0, (b.derived, updating_base y ks v), h.stack.2), λ r. ap (before_stack st) (sym (build_yield (depth_on st) (gap_on st) (update y ks) v (with_mark (depth_on st) ∷ r))))
start_update_leads st x h = first_update_leads st x h

renew_leads : (st : Stack) (x : Derivation) (s : State) → JoinedTo 1 1 st x s → Leads (behind_operand st x with_mark) (renew s)
renew_leads st x (have st' (ready x')) j =
    leads_same _ (behind_operand st' x' with_mark) (start_update st' x') (moved 1 1 st x st' x' with_mark j (omega arith)) (start_update_leads st' x' j.held)
renew_leads st x _ j = absurd j

abbrev IsBeginning : TokenKind → Type 0
IsBeginning k = (st : Stack) → begin_depth k st ≡ depth_on st

-- a beginning token on an open frame
argued : (k : TokenKind) (f : Open) (st : Stack) → IsBeginning k → StackOk («open» f ∷ st) → Leads (λ r. before_stack («open» f ∷ st) (token (depth_on («open» f ∷ st)) (open_gap f) k ∷ r)) (begin k («open» f ∷ st))
argued k f st e h = leads_same _ _ (begin k («open» f ∷ st)) (λ r. ap (λ n. before_stack («open» f ∷ st) (token n (open_gap f) k ∷ r)) (sym (e («open» f ∷ st)))) (begin_leads k («open» f ∷ st) h)

apply_leads : (k : TokenKind) (st : Stack) (x : Derivation) → IsBeginning k → Holds 14 st x → Leads (behind_operand st x (λ n. token n apart k)) (fits 14 st (begin k («open» (applied x) ∷ st)))
apply_leads k st x e h = fits_leads 14 st _ (begin k («open» (applied x) ∷ st)) (λ l. argued k (applied x) st e (l, (h.derived, h.tight), h.stack))

argue_on_leads : (k : TokenKind) (st : Stack) (x : Derivation) → IsBeginning k → Holds 14 st x → Leads (behind_operand st x (λ n. token n apart k)) (argue_on k st x)
argue_on_leads k (shut first ∷ st) x e h = argued k (merged x) st e (h.stack.0, (h.derived, h.stands), h.stack.2)
argue_on_leads k st x e h = apply_leads k st x e h

argue_leads : (k : TokenKind) (st : Stack) (x : Derivation) (s : State) → IsBeginning k → JoinedTo 14 14 st x s → Leads (behind_operand st x (λ n. token n apart k)) (argue k s)
argue_leads k st x (have st' (ready x')) e j =
    leads_same _ (behind_operand st' x' (λ n. token n apart k)) (argue_on k st' x') (moved 14 14 st x st' x' (λ n. token n apart k) j (omega arith)) (argue_on_leads k st' x' e j.held)
argue_leads k st x _ e j = absurd j

-- a token that ends a place
closed_leads : (k : TokenKind) (f : Shut) (x : Derivation) (st : Stack) → D x → StackOk (shut f ∷ st) → Leads (λ r. before_with (shut f ∷ st) x (token (depth_on st) (extend_gap k) k ∷ r)) (closed k f x st)
closed_leads (kinds.Mark ParenClose) bracket x st d h = (prim st _ h.2 d (omega arith), λ r. simp append_assoc)
closed_leads (kinds.Mark ParenClose) (domain b w) x st d h = ((h.0, d, h.2), λ r. refl)
closed_leads (kinds.Mark ParenClose) (selected t) x st d h = (stood st _ h.2 (rw (le-leb 16 (binds t) h.1.1, h.1.0, d)) h.0 (omega arith), λ r. simp append_assoc)
closed_leads (kinds.Mark Equals) (let_type ls w) x st d h = ((h.0, (h.1, d), h.2), λ r. refl)
closed_leads (kinds.Mark Comma) (items c is) x st d h = ((h.0, add_item_ok is x h.1 d, h.2), λ r. simp (← (item_yield (depth_on st) is x)))
closed_leads (kinds.Mark Comma) (field_type c fs k) x st d h = ((h.0, add_field_ok fs k x h.1 d, h.2), λ r. simp (field_yield (depth_on st) fs k x))
closed_leads (kinds.Mark Comma) (entry_value c es ks) x st d h = ((h.0, add_entry_ok es _ h.1 d, h.2), λ r. simp (added_entry_yield (depth_on st) es, append_assoc))
closed_leads (kinds.Mark BracketClose) (items c is) x st d h = (prim st _ h.2 (add_item_ok is x h.1 d) (omega arith), λ r. simp (append_assoc, item_yield (depth_on st) is x))
closed_leads (kinds.Mark BraceClose) (field_type c fs k) x st d h = (prim st _ h.2 (add_field_ok fs k x h.1 d) (omega arith), λ r. simp (append_assoc, field_yield (depth_on st) fs k x))
closed_leads (kinds.Mark BraceClose) (entry_value c es ks) x st d h = (prim st _ h.2 (add_entry_ok es _ h.1 d) (omega arith), λ r. simp (append_assoc, added_entry_yield (depth_on st) es))
closed_leads (kinds.Mark Bar) (alternative_type c as' k) x st d h = ((h.0, add_alternative_ok as' k _ h.1 d, h.2), λ r. simp (alternative_yield (depth_on st) as' k))
closed_leads (kinds.Mark AngleClose) (alternative_type c as' k) x st d h = (prim st _ h.2 (add_alternative_ok as' k _ h.1 d) (omega arith), λ r. simp (append_assoc, alternative_yield (depth_on st) as' k))
closed_leads (kinds.Keyword keywords.Then) condition x st d h = ((h.0, d, h.2), λ r. refl)
closed_leads (kinds.Keyword keywords.Else) (branch p) x st d h = ((h.0, (h.1, d), h.2), λ r. refl)
closed_leads (kinds.Keyword keywords.Let) (let_value ls w a) x st d h = ((h.0, add_let_ok ls w a x h.1.0 h.1.1 d, h.2), λ r. simp (let_yield (depth_on st) (gap_on st) ls w a x))
closed_leads (kinds.Keyword keywords.In) (let_value ls w a) x st d h = ((h.0, add_let_ok ls w a x h.1.0 h.1.1 d, h.2), λ r. simp (let_yield (depth_on st) (gap_on st) ls w a x))
closed_leads kinds.InterpolationClose (chunk f cs) x st d h = ((h.0, (h.1, d), h.2), λ r. refl)
closed_leads _ _ x st d h = (tt, tt)

close_on_leads : (k : TokenKind) (st : Stack) (x : Derivation) → Holds 0 st x → Leads (λ r. before_with st x (token (depth_out st) (extend_gap k) k ∷ r)) (close_on k st x)
close_on_leads kinds.End [] x h = (h.derived, λ r. simp append_assoc)
close_on_leads k (shut f ∷ st) x h = closed_leads k f x st h.derived h.stack
close_on_leads k _ x h = (tt, tt)

close_leads : (k : TokenKind) (st : Stack) (x : Derivation) (s : State) → JoinedTo 0 0 st x s → Leads (λ r. before_with st x (token (depth_out st) (extend_gap k) k ∷ r)) (close k s)
close_leads k st x (have st' (ready x')) j =
    leads_same _ (λ r. before_with st' x' (token (depth_out st') (extend_gap k) k ∷ r)) (close_on k st' x')
    (λ r. j.same _ ∙ ap (λ n. before_with st' x' (token n (extend_gap k) k ∷ r)) j.out) (close_on_leads k st' x' j.held)
close_leads k st x _ j = absurd j

index_leads : (st : Stack) (h : Held) → Holds 15 st (finish h) → Leads (behind_operand st (finish h) (λ n. mark n free At)) (index_on st h)
index_leads st (named w) h = ((h.stands, tt, h.stack), λ r. refl)
index_leads st _ h = (tt, tt)

digest_leads : (d : Digest) (st : Stack) (h : Held) → Holds 15 st (finish h) → Leads (behind_operand st (finish h) (λ n. token n apart (kinds.Digest d))) (digest_on d st h)
digest_leads d st (imported i None) h = (stood st _ h.stack refl h.stands (omega arith), λ r. refl)
digest_leads d st _ h = (tt, tt)

mode_leads : (st : Stack) (h : Held) → Holds 15 st (finish h) → Leads (behind_operand st (finish h) (λ n. keyword n free keywords.As)) (mode_on st h)
mode_leads st (imported i d) h = ((h.stands, tt, h.stack), λ r. simp append_assoc)
mode_leads st _ h = (tt, tt)

closing : (k : TokenKind) (st : Stack) (x : Derivation) → Holds 15 st x → Leads (λ r. before_with st x (token (depth_out st) (extend_gap k) k ∷ r)) (close k (join 0 st x))
closing k st x h = close_leads k st x (join 0 st x) (held_joins 0 0 st x (omega arith) (omega arith) h)

pub extend_leads : (k : TokenKind) (st : Stack) (h : Held) → Holds 15 st (finish h) → Leads (λ r. before_with st (finish h) (token (extend_depth k st) (extend_gap k) k ∷ r)) (extend k st h)
extend_leads (kinds.Mark (Operator o)) st x h = operate_leads o (left_level o) st (finish x) _ (left_level_positive o) (held_joins 0 (left_level o) st (finish x) (omega arith) (omega arith) h)
extend_leads (kinds.Mark Dot) st x h = select_leads st (finish x) _ (held_joins 0 16 st (finish x) (omega arith) (omega arith) h)
extend_leads (kinds.Mark Arrow) st x h = point_leads st (finish x) _ (held_joins 1 1 st (finish x) (omega arith) (omega arith) h)
extend_leads (kinds.Mark Colon) st x h = annotate_leads st (finish x) _ (held_joins 1 1 st (finish x) (omega arith) (omega arith) h)
extend_leads (kinds.Mark At) st x h = index_leads st x h
extend_leads (kinds.Digest d) st x h = digest_leads d st x h
extend_leads (kinds.Keyword keywords.As) st x h = mode_leads st x h
extend_leads (kinds.Keyword keywords.With) st x h = renew_leads st (finish x) _ (held_joins 1 1 st (finish x) (omega arith) (omega arith) h)
extend_leads (kinds.Mark ParenClose) st x h = closing (kinds.Mark ParenClose) st (finish x) h
extend_leads (kinds.Mark BracketClose) st x h = closing (kinds.Mark BracketClose) st (finish x) h
extend_leads (kinds.Mark BraceClose) st x h = closing (kinds.Mark BraceClose) st (finish x) h
extend_leads (kinds.Mark AngleClose) st x h = closing (kinds.Mark AngleClose) st (finish x) h
extend_leads (kinds.Mark Comma) st x h = closing (kinds.Mark Comma) st (finish x) h
extend_leads (kinds.Mark Equals) st x h = closing (kinds.Mark Equals) st (finish x) h
extend_leads (kinds.Mark Bar) st x h = closing (kinds.Mark Bar) st (finish x) h
extend_leads (kinds.Keyword keywords.Then) st x h = closing (kinds.Keyword keywords.Then) st (finish x) h
extend_leads (kinds.Keyword keywords.Else) st x h = closing (kinds.Keyword keywords.Else) st (finish x) h
extend_leads (kinds.Keyword keywords.Let) st x h = closing (kinds.Keyword keywords.Let) st (finish x) h
extend_leads (kinds.Keyword keywords.In) st x h = closing (kinds.Keyword keywords.In) st (finish x) h
extend_leads kinds.InterpolationClose st x h = closing kinds.InterpolationClose st (finish x) h
extend_leads kinds.End st x h = closing kinds.End st (finish x) h
extend_leads k st x h = argue_leads k st (finish x) _ (λ st. refl) (held_joins 14 14 st (finish x) (omega arith) (omega arith) h)

-- ---- within a production

unless_leads : (t : Text) (b : Bool) (s : State) → (b ≡ false → Leads t s) → Leads t (unless b s)
unless_leads t b s f = by_test (Leads t) b stopped s (λ e. (tt, tt)) f

moded_leads : (x : List ℕ) (st : Stack) (w : Wait) (t : Text) (s : State) → (x ≡ codes "Location" → Leads t s) → Leads t (if bytes_eq x (codes "Location") then s else stopped)
moded_leads x st w t s f = by_test (Leads t) (bytes_eq x (codes "Location")) s stopped (λ e. f (bytes_eq-true x (codes "Location") e)) (λ e. (tt, tt))

abbrev waiting : Wait → Stack → TokenKind → Text
waiting w st k r = before_stack st (wait_before (depth_on st) (gap_on st) w (token (depth_on st) (wait_gap w) k ∷ r))

abbrev IsLed : Wait → TokenKind → Stack → Type 0
IsLed w k st = Leads (waiting w st k) (waited w k st)

field_leads : (x : Derivation) (k : TokenKind) (st : Stack) → Valid (wait (dotted x) st) → Leads (waiting (dotted x) st k) (with_key (λ k. have st (ready (field x k))) (key_of k))
field_leads x k st h =
    with_key_leads (waiting (dotted x) st) k _ (λ w. (stood st _ h.2 (both (is_sel x) (derived x) (le-leb 16 (binds x) h.1.1) h.1.0) h.0 (omega arith), λ r. simp append_assoc))

projecting_leads : (x : Derivation) (c : Bool) (k : TokenKind) (st : Stack) → Valid (wait (projecting x c) st) → Leads (waiting (projecting x c) st k) (with_key (λ k. wait (projected x c (one_key k)) st) (key_of k))
projecting_leads x c k st h = with_key_leads (waiting (projecting x c) st) k _ (λ w. ((h.0, (h.1.0, h.1.1, refl), h.2), λ r. refl))

projected_leads : (x : Derivation) (c : Bool) (ks : Keys) (k : TokenKind) (st : Stack) → Valid (wait (projected_comma x c ks) st) → Leads (waiting (projected_comma x c ks) st k) (with_key (λ k. unless (among (key_label k) (labels ks)) (wait (projected x c (more_keys ks k)) st)) (key_of k))
projected_leads x c ks k st h =
    with_key_leads (waiting (projected_comma x c ks) st) k _ (λ w. unless_leads _ _ (wait (projected x c (more_keys ks w)) st) (λ e. ((h.0, (h.1.0, h.1.1, both (distinct ks) _ h.1.2 (not_true _ e)), h.2), λ r. simp append_assoc)))

union_leads : (c : Bool) (k : TokenKind) (st : Stack) → Valid (wait (union_start c) st) → Leads (waiting (union_start c) st k) (with_key (λ k. wait (alternative c None k) st) (key_of k))
union_leads c k st h = with_key_leads (waiting (union_start c) st) k _ (λ w. ((h.0, tt, h.2), λ r. refl))

bar_leads : (c : Bool) (as' : Alternatives) (k : TokenKind) (st : Stack) → Valid (wait (alternative_bar c as') st) → Leads (waiting (alternative_bar c as') st k) (with_key (λ k. unless (among (key_label k) (alternative_labels as')) (wait (alternative c (Some as') k) st)) (key_of k))
bar_leads c as' k st h =
    with_key_leads (waiting (alternative_bar c as') st) k _ (λ w. unless_leads _ _ (wait (alternative c (Some as') w) st) (λ e. ((h.0, (h.1, not_true _ e), h.2), λ r. refl)))

record_leads : (c : Bool) (k : TokenKind) (st : Stack) → Valid (wait (record_start c) st) → Leads (waiting (record_start c) st k) (with_key (λ k. wait (entry_keys c None (one_key k)) st) (key_of k))
record_leads c k st h = with_key_leads (waiting (record_start c) st) k _ (λ w. ((h.0, tt, h.2), λ r. refl))

fields_leads : (c : Bool) (fs : Fields) (k : TokenKind) (st : Stack) → Valid (wait (field_comma c fs) st) → Leads (waiting (field_comma c fs) st k) (with_key (λ k. unless (among (key_label k) (field_labels fs)) (wait (field_key c fs k) st)) (key_of k))
fields_leads c fs k st h =
    with_key_leads (waiting (field_comma c fs) st) k _ (λ w. unless_leads _ _ (wait (field_key c fs w) st) (λ e. ((h.0, (h.1, not_true _ e), h.2), λ r. refl)))

entries_leads : (c : Bool) (es : Entries) (k : TokenKind) (st : Stack) → Valid (wait (entry_comma c es) st) → Leads (waiting (entry_comma c es) st k) (with_key (λ k. wait (entry_keys c (Some es) (one_key k)) st) (key_of k))
entries_leads c es k st h = with_key_leads (waiting (entry_comma c es) st) k _ (λ w. ((h.0, h.1, h.2), λ r. refl))

first_field_leads : (c : Bool) (es : Option Entries) (ks : Keys) (st : Stack) → Valid (wait (entry_keys c es ks) st) → Leads (waiting (entry_keys c es ks) st (kinds.Mark Colon)) (first_field es ks (λ k. need (shut (field_type c None k) ∷ st)))
first_field_leads c None (one_key k) st h = ((h.0, tt, h.2), λ r. refl)
first_field_leads c None (more_keys ks k) st h = (tt, tt)
first_field_leads c (Some es) ks st h = (tt, tt)

lone_comma_leads : (c : Bool) (es : Option Entries) (ks : Keys) (st : Stack) → Valid (wait (entry_keys c es ks) st) → Leads (waiting (entry_keys c es ks) st (kinds.Mark Comma)) (lone es ks (λ es. wait (entry_comma c es) st))
lone_comma_leads c es (one_key k) st h = ((h.0, add_entry_ok es (alone k) h.1 refl, h.2), λ r. simp (added_entry_yield (depth_on st) es))
lone_comma_leads c es (more_keys ks k) st h = (tt, tt)

lone_close_leads : (c : Bool) (es : Option Entries) (ks : Keys) (st : Stack) → Valid (wait (entry_keys c es ks) st) → Leads (waiting (entry_keys c es ks) st (kinds.Mark BraceClose)) (lone es ks (λ es. have st (ready (record_of c es false))))
lone_close_leads c es (one_key k) st h = (prim st _ h.2 (add_entry_ok es (alone k) h.1 refl) (omega arith), λ r. simp (append_assoc, added_entry_yield (depth_on st) es))
lone_close_leads c es (more_keys ks k) st h = (tt, tt)

project_shape : (y s k t : List Written) (p q z : Written) (r : List Written) → (y ++ p ∷ q ∷ s ++ k ++ t ++ z ∷ []) ++ r ≡ y ++ (p ∷ q ∷ (s ++ (k ++ (t ++ (z ∷ r)))))
project_shape y s k t p q z r =
    append_assoc (y ++ (p ∷ q ∷ s) ++ k ++ t) (z ∷ []) r ∙ append_assoc (y ++ (p ∷ q ∷ s) ++ k) t (z ∷ r) ∙ append_assoc (y ++ (p ∷ q ∷ s)) k (t ++ (z ∷ r)) ∙ append_assoc y (p ∷ q ∷ s) (k ++ (t ++ (z ∷ r)))

project_yield : (n : ℕ) (g : Bool) (x : Derivation) (c : Bool) (ks : Keys) (d : Bool) (r : List Written) → yield n g (project x c ks d) ++ r ≡ in_projection n g x c (keys_yield n free Comma ks ++ (separator n d Comma ++ (mark n free BraceClose ∷ r)))
project_yield n g x c ks d r = project_shape (yield n g x) (separator n c Comma) (keys_yield n free Comma ks) (separator n d Comma) _ _ _ r

whole_text : (n : ℕ) (g : Bool) (f : TextForm) (cs : Chunks) (r : List Written) → yield n g (text f cs) ++ r ≡ token n g (kinds.TextOpen f) ∷ (chunks_yield n cs ++ (token n free kinds.TextClose ∷ r))
whole_text n g f cs r = simp append_assoc

text_end : (n : ℕ) (g : Bool) (f : TextForm) (cs : Front) (r : List Written) → token n g (kinds.TextOpen f) ∷ front_before n cs (token n free kinds.TextClose ∷ r) ≡ yield n g (text f (sealed cs None)) ++ r
text_end n g f cs r = sym (whole_text n g f (sealed cs None) r ∙ ap (λ ws. token n g (kinds.TextOpen f) ∷ ws) (sealed_yield n cs None (token n free kinds.TextClose ∷ r)))

pub waited_leads : (w : Wait) (k : TokenKind) (st : Stack) → Valid (wait w st) → IsLed w k st
waited_leads (quantifier b) (kinds.Mark ParenOpen) st h = ((h.0, tt, h.2), λ r. refl)
waited_leads (quantified b) k st h = with_name_leads (waiting (quantified b) st) k _ (λ w. ((h.0, tt, h.2), λ r. refl))
waited_leads (quantity b w) (kinds.Mark Colon) st h = ((h.0, tt, h.2), λ r. refl)
waited_leads (domained b w a) (kinds.Mark Arrow) st h = (h, λ r. refl)
waited_leads asserting (kinds.Mark Colon) st h = (h, λ r. refl)
waited_leads (letting ls) k st h = with_name_leads (waiting (letting ls) st) k _ (λ w. (h, λ r. refl))
waited_leads (lettered ls w) (kinds.Mark Colon) st h = (h, λ r. refl)
waited_leads (lettered ls w) (kinds.Mark Equals) st h = ((h.0, (h.1, refl), h.2), λ r. refl)
waited_leads (with_start x) k st h = with_key_leads (waiting (with_start x) st) k _ (λ w. (h, λ r. refl))
waited_leads (with_keys x ks) (kinds.Mark Dot) st h = (h, λ r. refl)
waited_leads (with_keys x ks) (kinds.Mark Equals) st h = (h, λ r. refl)
waited_leads (with_dot x ks) k st h = with_key_leads (waiting (with_dot x ks) st) k _ (λ w. (h, λ r. simp append_assoc))
waited_leads (indexed w) (kinds.Natural n) st h = (prim st _ h.2 refl (omega arith), λ r. refl)
waited_leads (moded i d) (kinds.Builtin builtins.Text) st h = (stood st _ h.2 refl h.0 (omega arith), λ r. simp append_assoc)
waited_leads (moded i d) (kinds.Name x) st h =
    moded_leads x st (moded i d) _ (have st (ready (import i d modes.Location))) (λ e. (stood st _ h.2 refl h.0 (omega arith), λ r. simp (append_assoc, e)))
waited_leads (dotted x) (kinds.Mark BraceOpen) st h = (h, λ r. refl)
waited_leads (dotted x) (kinds.Mark ParenOpen) st h = (h, λ r. refl)
waited_leads (dotted x) k st h = field_leads x k st h
waited_leads (projecting x false) (kinds.Mark Comma) st h = (h, λ r. refl)
waited_leads (projecting x c) (kinds.Mark BraceClose) st h = (stood st _ h.2 (both (is_sel x) (derived x) (le-leb 16 (binds x) h.1.1) h.1.0) h.0 (omega arith), λ r. simp append_assoc)
waited_leads (projecting x c) k st h = projecting_leads x c k st h
waited_leads (projected x c ks) (kinds.Mark Comma) st h = (h, λ r. refl)
waited_leads (projected x c ks) (kinds.Mark BraceClose) st h = (stood st _ h.2 (rw (le-leb 16 (binds x) h.1.1, h.1.0, h.1.2)) h.0 (omega arith), λ r. ap (before_stack st) (sym (project_yield (depth_on st) (gap_on st) x c ks false r)))
waited_leads (projected_comma x c ks) (kinds.Mark BraceClose) st h = (stood st _ h.2 (rw (le-leb 16 (binds x) h.1.1, h.1.0, h.1.2)) h.0 (omega arith), λ r. ap (before_stack st) (sym (project_yield (depth_on st) (gap_on st) x c ks true r)))
waited_leads (projected_comma x c ks) k st h = projected_leads x c ks k st h
waited_leads (empty c) (kinds.Mark Colon) st h = (h, λ r. refl)
waited_leads (union_start false) (kinds.Mark Bar) st h = (h, λ r. refl)
waited_leads (union_start c) (kinds.Mark AngleClose) st h = (prim st _ h.2 refl (omega arith), λ r. simp append_assoc)
waited_leads (union_start c) k st h = union_leads c k st h
waited_leads (alternative c as' k) (kinds.Mark Colon) st h = (h, λ r. refl)
waited_leads (alternative c as' k) (kinds.Mark Bar) st h = ((h.0, add_alternative_ok as' k _ h.1 refl, h.2), λ r. simp (alternative_yield (depth_on st) as' k))
waited_leads (alternative c as' k) (kinds.Mark AngleClose) st h = (prim st _ h.2 (add_alternative_ok as' k _ h.1 refl) (omega arith), λ r. simp (append_assoc, alternative_yield (depth_on st) as' k))
waited_leads (alternative_bar c as') (kinds.Mark AngleClose) st h = (prim st _ h.2 h.1 (omega arith), λ r. simp append_assoc)
waited_leads (alternative_bar c as') k st h = bar_leads c as' k st h
waited_leads (record_start false) (kinds.Mark Comma) st h = (h, λ r. refl)
waited_leads (record_start c) (kinds.Mark Equals) st h = (h, λ r. refl)
waited_leads (record_start c) (kinds.Mark BraceClose) st h = (prim st _ h.2 refl (omega arith), λ r. simp append_assoc)
waited_leads (record_start c) k st h = record_leads c k st h
waited_leads (record_equals c false) (kinds.Mark Comma) st h = (h, λ r. refl)
waited_leads (record_equals c d) (kinds.Mark BraceClose) st h = (prim st _ h.2 refl (omega arith), λ r. simp append_assoc)
waited_leads (field_comma c fs) (kinds.Mark BraceClose) st h = (prim st _ h.2 h.1 (omega arith), λ r. simp append_assoc)
waited_leads (field_comma c fs) k st h = fields_leads c fs k st h
waited_leads (field_key c fs k) (kinds.Mark Colon) st h = (h, λ r. refl)
waited_leads (entry_comma c es) (kinds.Mark BraceClose) st h = (prim st _ h.2 h.1 (omega arith), λ r. simp append_assoc)
waited_leads (entry_comma c es) k st h = entries_leads c es k st h
waited_leads (entry_keys c es ks) (kinds.Mark Colon) st h = first_field_leads c es ks st h
waited_leads (entry_keys c es ks) (kinds.Mark Dot) st h = (h, λ r. refl)
waited_leads (entry_keys c es ks) (kinds.Mark Equals) st h = (h, λ r. refl)
waited_leads (entry_keys c es ks) (kinds.Mark Comma) st h = lone_comma_leads c es ks st h
waited_leads (entry_keys c es ks) (kinds.Mark BraceClose) st h = lone_close_leads c es ks st h
waited_leads (entry_dot c es ks) k st h = with_key_leads (waiting (entry_dot c es ks) st) k _ (λ w. (h, λ r. simp append_assoc))
waited_leads (text_front f cs) (kinds.TextPiece p) st h = ((h.0, sealed_ok cs (Some p) h.1, h.2), λ r. simp (sealed_yield (depth_on st) cs (Some p)))
waited_leads (text_front f cs) kinds.InterpolationOpen st h = ((h.0, sealed_ok cs None h.1, h.2), λ r. simp (sealed_yield (depth_on st) cs None))
waited_leads (text_front f cs) kinds.TextClose st h = (prim st _ h.2 (sealed_ok cs None h.1) (omega arith), λ r. ap (before_stack st) (text_end (depth_on st) (gap_on st) f cs r))
waited_leads (text_piece f cs) kinds.InterpolationOpen st h = (h, λ r. refl)
waited_leads (text_piece f cs) kinds.TextClose st h = (prim st _ h.2 h.1 (omega arith), λ r. simp append_assoc)
waited_leads _ _ st h = (tt, tt)

pub after_leads : (k : TokenKind) (s : State) → Valid s → Leads (λ r. before s (written s k ∷ r)) (after k s)
after_leads k (need st) h = begin_leads k st h
after_leads k (have st x) h = extend_leads k st x h
after_leads k (wait w st) h = waited_leads w k st h
after_leads k (done d) h = (tt, tt)
after_leads k stopped h = (tt, tt)
