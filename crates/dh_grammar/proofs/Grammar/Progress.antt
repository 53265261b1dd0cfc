-- Every valid state can be completed.
use Rattle.std.proofs.Common.{◌≡◌, ℕ, ◌≤◌, true, false, List, [], ◌∷◌, refl, ◌∙◌, ap, arith, le-leb}
use Rattle.std.specs.Prelude.{if◌then◌else◌, Some}
use Rattle.dh_syntax.specs.declared.operators.Builtin.TheVariants as builtins
use Rattle.dh_syntax.specs.declared.tokens.Keyword.TheVariants as keywords
use Rattle.dh_syntax.specs.declared.tokens.Mark.TheVariants.{ParenOpen, ParenClose, BracketClose, BraceClose, AngleClose, Colon, Equals, Arrow}
use Rattle.dh_syntax.specs.declared.tokens.TokenKind.{TokenKind}
use Rattle.dh_syntax.specs.declared.tokens.TokenKind.TheVariants as kinds
use Rattle.dh_syntax.specs.Text.Derivation.{plain, Derivation, natural, untyped, more_keys, one_key}
use Rattle.dh_grammar.specs.Machine.{merged, update, body, otherwise, bound, emptied, asserted, behind, bracket, domain, condition, branch, let_type, let_value, selected, first, items, alternative_type, field_type, entry_value, chunk, «open», shut, ready, quantifier, quantified, quantity, domained, asserting, letting, lettered, with_start, with_keys, with_dot, indexed, moded, dotted, projecting, projected, projected_comma, empty, union_start, alternative, alternative_bar, record_start, record_equals, field_comma, field_key, entry_comma, entry_keys, entry_dot, text_front, text_piece, need, have, wait, done, stopped}
use Rattle.dh_grammar.specs.Trees.{Open, Shut, Held, finish, Wait, Stack, State, build, join, close, argue, extend, after, least, level}
use Rattle.dh_grammar.specs.Running.{IsRunning, runs}
use Rattle.dh_grammar.specs.Inside.Valid.{StackOk, Valid}
use Rattle.dh_grammar.proofs.Grammar.Joining.{level_asks}

-- some tokens lead to the end
pub record Finishes (s : State) : Type 0 where
  pub more : List TokenKind
  pub tree : Derivation
  pub ends : runs s more ≡ done tree

pub by : (k : TokenKind) (s : State) → Finishes (after k s) → Finishes s
by k s f = record { more = k ∷ f.more; tree = f.tree; ends = f.ends }

finishes_as : (s t : State) → s ≡ t → Finishes t → Finishes s
finishes_as s t e f = record { more = f.more; tree = f.tree; ends = ap (λ s. runs s f.more) e ∙ f.ends }

-- a token ends what stands open over the operand
record Ends (st : Stack) (x : Derivation) : Type 0 where
  pub kind : TokenKind
  pub least_joined : ℕ
  pub go : State → State
  pub on : (st : Stack) (h : Held) → extend kind st h ≡ go (join least_joined st (finish h))
  pub low : least_joined ≤ least st
  pub rest : Finishes (go (join least_joined st x))

from_have : (st : Stack) (h : Held) → Ends st (finish h) → Finishes (have st h)
from_have st h e = by e.kind (have st h) (finishes_as _ _ (e.on st h) e.rest)

from_need : (st : Stack) → ((x : Derivation) → Ends st x) → Finishes (need st)
from_need st f = by (kinds.Natural 0) (need st) (from_have st (ready (natural 0)) (f (natural 0)))

ends_open : (f : Open) (st : Stack) → least st ≤ level f → ((x : Derivation) → Ends st x) → (x : Derivation) → Ends («open» f ∷ st) x
ends_open f st l h x =
    let e = h (build f x) in
    record {
      kind = e.kind;
      least_joined = e.least_joined;
      go = e.go;
      on = e.on;
      low = let a = level_asks f in let b = e.low in omega arith;
      rest = finishes_as _ _ (ap (λ b. e.go (if b then join e.least_joined st (build f x) else have («open» f ∷ st) (ready x))) (le-leb e.least_joined (level f) (let b = e.low in omega arith))) e.rest;
    }

-- a place that a token ends
shut_by : (k : TokenKind) (f : Shut) (st : Stack) (x : Derivation) → ((st : Stack) (h : Held) → extend k st h ≡ close k (join 0 st (finish h))) → Finishes (close k (join 0 (shut f ∷ st) x)) → Ends (shut f ∷ st) x
shut_by k f st x e r = record { kind = k; least_joined = 0; go = close k; on = e; low = omega arith; rest = r }

ends_shut : (f : Shut) (st : Stack) → StackOk (shut f ∷ st) → ((x : Derivation) → Ends st x) → (x : Derivation) → Ends (shut f ∷ st) x
ends_shut bracket st h r x = shut_by (kinds.Mark ParenClose) bracket st x (λ st h. refl) (from_have st _ (r _))
ends_shut (domain b w) st h r x =
    shut_by (kinds.Mark ParenClose) (domain b w) st x (λ st h. refl) (by (kinds.Mark Arrow) (wait (domained b w x) st) (from_need («open» (body b w x) ∷ st) (ends_open (body b w x) st h.0 r)))
ends_shut condition st h r x =
    let e : (p : Derivation) (t : Derivation) → Ends (shut (branch p) ∷ st) t = λ p t. shut_by (kinds.Keyword keywords.Else) (branch p) st t (λ st h. refl) (from_need («open» (otherwise p t) ∷ st) (ends_open (otherwise p t) st h.0 r)) in
    shut_by (kinds.Keyword keywords.Then) condition st x (λ st h. refl) (from_need (shut (branch x) ∷ st) (e x))
ends_shut (branch p) st h r x = shut_by (kinds.Keyword keywords.Else) (branch p) st x (λ st h. refl) (from_need («open» (otherwise p x) ∷ st) (ends_open (otherwise p x) st h.0 r))
ends_shut (let_type ls w) st h r x =
    let e : (a : _) (v : Derivation) → Ends (shut (let_value ls w a) ∷ st) v = λ a v. shut_by (kinds.Keyword keywords.In) (let_value ls w a) st v (λ st h. refl) (from_need («open» (bound _) ∷ st) (ends_open (bound _) st h.0 r)) in
    shut_by (kinds.Mark Equals) (let_type ls w) st x (λ st h. refl) (from_need (shut (let_value ls w _) ∷ st) (e _))
ends_shut (let_value ls w a) st h r x = shut_by (kinds.Keyword keywords.In) (let_value ls w a) st x (λ st h. refl) (from_need («open» (bound _) ∷ st) (ends_open (bound _) st h.0 r))
ends_shut (selected t) st h r x = shut_by (kinds.Mark ParenClose) (selected t) st x (λ st h. refl) (from_have st _ (r _))
ends_shut first st h r x = record {
  kind = kinds.Natural 0;
  least_joined = 14;
  go = argue (kinds.Natural 0);
  on = λ st h. refl;
  low = omega arith;
  rest = from_have («open» (merged x) ∷ st) _ (ends_open (merged x) st h.0 r (natural 0));
}
ends_shut (items c is) st h r x = shut_by (kinds.Mark BracketClose) (items c is) st x (λ st h. refl) (from_have st _ (r _))
ends_shut (alternative_type c as' k) st h r x = shut_by (kinds.Mark AngleClose) (alternative_type c as' k) st x (λ st h. refl) (from_have st _ (r _))
ends_shut (field_type c fs k) st h r x = shut_by (kinds.Mark BraceClose) (field_type c fs k) st x (λ st h. refl) (from_have st _ (r _))
ends_shut (entry_value c es ks) st h r x = shut_by (kinds.Mark BraceClose) (entry_value c es ks) st x (λ st h. refl) (from_have st _ (r _))
ends_shut (chunk f cs) st h r x = shut_by kinds.InterpolationClose (chunk f cs) st x (λ st h. refl) (by kinds.TextClose (wait (text_front f (behind cs x)) st) (from_have st _ (r _)))

ends : (st : Stack) → StackOk st → (x : Derivation) → Ends st x
ends [] h x = record { kind = kinds.End; least_joined = 0; go = close kinds.End; on = λ st h. refl; low = omega arith; rest = record { more = []; tree = x; ends = refl } }
ends («open» f ∷ st) h x = ends_open f st h.0 (ends st h.2) x
ends (shut f ∷ st) h x = ends_shut f st h (ends st h.2) x

have_finishes : (st : Stack) (x : Held) → StackOk st → Finishes (have st x)
have_finishes st x h = from_have st x (ends st h (finish x))

need_finishes : (st : Stack) → StackOk st → Finishes (need st)
need_finishes st h = from_need st (ends st h)

wait_finishes : (w : Wait) (st : Stack) → Valid (wait w st) → Finishes (wait w st)
wait_finishes (quantifier b) st h = by (kinds.Mark ParenOpen) _ (by (kinds.Name []) _ (by (kinds.Mark Colon) _ (need_finishes (shut (domain b (plain [])) ∷ st) (h.0, tt, h.2))))
wait_finishes (quantified b) st h = by (kinds.Name []) _ (by (kinds.Mark Colon) _ (need_finishes (shut (domain b (plain [])) ∷ st) (h.0, tt, h.2)))
wait_finishes (quantity b w) st h = by (kinds.Mark Colon) _ (need_finishes (shut (domain b w) ∷ st) (h.0, tt, h.2))
wait_finishes (domained b w a) st h = by (kinds.Mark Arrow) _ (need_finishes («open» (body b w a) ∷ st) h)
wait_finishes asserting st h = by (kinds.Mark Colon) _ (need_finishes («open» asserted ∷ st) (h.0, tt, h.2))
wait_finishes (letting ls) st h = by (kinds.Name []) _ (by (kinds.Mark Equals) _ (need_finishes (shut (let_value ls (plain []) untyped) ∷ st) (h.0, (h.1, refl), h.2)))
wait_finishes (lettered ls w) st h = by (kinds.Mark Equals) _ (need_finishes (shut (let_value ls w untyped) ∷ st) (h.0, (h.1, refl), h.2))
wait_finishes (with_start x) st h = by (kinds.Name []) _ (by (kinds.Mark Equals) _ (need_finishes («open» (update x (one_key _)) ∷ st) h))
wait_finishes (with_keys x ks) st h = by (kinds.Mark Equals) _ (need_finishes («open» (update x ks) ∷ st) h)
wait_finishes (with_dot x ks) st h = by (kinds.Name []) _ (by (kinds.Mark Equals) _ (need_finishes («open» (update x (more_keys ks _)) ∷ st) h))
wait_finishes (indexed w) st h = by (kinds.Natural 0) _ (have_finishes st _ h.2)
wait_finishes (moded i d) st h = by (kinds.Builtin builtins.Text) _ (have_finishes st _ h.2)
wait_finishes (dotted x) st h = by (kinds.Name []) _ (have_finishes st _ h.2)
wait_finishes (projecting x true) st h = by (kinds.Mark BraceClose) _ (have_finishes st _ h.2)
wait_finishes (projecting x false) st h = by (kinds.Mark BraceClose) _ (have_finishes st _ h.2)
wait_finishes (projected x c ks) st h = by (kinds.Mark BraceClose) _ (have_finishes st _ h.2)
wait_finishes (projected_comma x c ks) st h = by (kinds.Mark BraceClose) _ (have_finishes st _ h.2)
wait_finishes (empty c) st h = by (kinds.Mark Colon) _ (need_finishes («open» (emptied c) ∷ st) (h.0, tt, h.2))
wait_finishes (union_start true) st h = by (kinds.Mark AngleClose) _ (have_finishes st _ h.2)
wait_finishes (union_start false) st h = by (kinds.Mark AngleClose) _ (have_finishes st _ h.2)
wait_finishes (alternative c as' k) st h = by (kinds.Mark AngleClose) _ (have_finishes st _ h.2)
wait_finishes (alternative_bar c as') st h = by (kinds.Mark AngleClose) _ (have_finishes st _ h.2)
wait_finishes (record_start true) st h = by (kinds.Mark BraceClose) _ (have_finishes st _ h.2)
wait_finishes (record_start false) st h = by (kinds.Mark BraceClose) _ (have_finishes st _ h.2)
wait_finishes (record_equals c true) st h = by (kinds.Mark BraceClose) _ (have_finishes st _ h.2)
wait_finishes (record_equals c false) st h = by (kinds.Mark BraceClose) _ (have_finishes st _ h.2)
wait_finishes (field_comma c fs) st h = by (kinds.Mark BraceClose) _ (have_finishes st _ h.2)
wait_finishes (field_key c fs k) st h = by (kinds.Mark Colon) _ (need_finishes (shut (field_type c (Some fs) k) ∷ st) h)
wait_finishes (entry_comma c es) st h = by (kinds.Mark BraceClose) _ (have_finishes st _ h.2)
wait_finishes (entry_keys c es ks) st h = by (kinds.Mark Equals) _ (need_finishes (shut (entry_value c es ks) ∷ st) h)
wait_finishes (entry_dot c es ks) st h = by (kinds.Name []) _ (by (kinds.Mark Equals) _ (need_finishes (shut (entry_value c es (more_keys ks _)) ∷ st) h))
wait_finishes (text_front f cs) st h = by kinds.TextClose _ (have_finishes st _ h.2)
wait_finishes (text_piece f cs) st h = by kinds.TextClose _ (have_finishes st _ h.2)

pub finishes : (s : State) → Valid s → IsRunning s → Finishes s
finishes (need st) h p = need_finishes st h
finishes (have st x) h p = have_finishes st x h.stack
finishes (wait w st) h p = wait_finishes w st h
finishes (done d) h p = record { more = []; tree = d; ends = refl }
finishes stopped h p = absurd p
