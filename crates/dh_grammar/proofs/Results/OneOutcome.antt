-- A right outcome is the one that the machine gives.
use Rattle.std.proofs.Common.{◌≡◌, Bool, true, false, List, [], ◌∷◌, ◌++◌, refl, sym, ◌∙◌, ap, subst, append-nil}
use Rattle.std.specs.Prelude.{not, ◌||◌, if◌then◌else◌, nat_lt}
use Rattle.dh_syntax.specs.declared.tokens.Token.{Token}
use Rattle.dh_syntax.specs.Text.Spelling.{OpensTooMany, opens_too_many}
use Rattle.dh_syntax.specs.Limits.{most_open}
use Rattle.dh_grammar.specs.Reading.{runs_still, Outcome, accepted, unfinished, refused, nested, reading, outcome_of}
use Rattle.dh_grammar.specs.Laws.Derivations.{OutcomeIsRight}
use Rattle.dh_grammar.specs.Machine.{need, have, wait, done, stopped}
use Rattle.dh_grammar.specs.Trees.{trees, State, after, gap_at, depth_at}
use Rattle.dh_grammar.specs.Running.{IsRunning, step, steps, spelled}
use Rattle.dh_grammar.proofs.Maps.Cutting.{by_bool}
use Rattle.dh_grammar.proofs.Lexed.EndsLast.{IsReached}
use Rattle.dh_grammar.proofs.Grammar.MachineLaws.{steps-append, was_stepping, accepts, knows_depths, no_dead_states, opens_at, opens_only}
use Rattle.dh_grammar.proofs.TruthValues.{by_test}
use Rattle.dh_syntax.specs.Text.Derivation.{Derivation}

is_true : (s : State) → IsRunning s → runs_still s ≡ true
is_true (need st) p = refl
is_true (have st x) p = refl
is_true (wait w st) p = refl
is_true (done d) p = refl
is_true stopped p = absurd p

is_false : (s : State) → (IsRunning s → ⊥) → runs_still s ≡ false
is_false (need st) p = absurd (p tt)
is_false (have st x) p = absurd (p tt)
is_false (wait w st) p = absurd (p tt)
is_false (done d) p = absurd (p tt)
is_false stopped p = refl

true_not_false : (b : Bool) → b ≡ true → b ≡ false → ⊥
true_not_false b p q = let e = sym p ∙ q in cc

-- a token read is a step of the machine
has_stepped : (s : State) (t : Token) → IsRunning (step s t) → step s t ≡ after t.kind s
has_stepped s t =
    by_test (λ u. IsRunning u → u ≡ after t.kind s) (not (gap_at s t.kind) || t.gap) (after t.kind s) stopped (λ b p. refl) (λ b p. absurd p)

or_left : (a b : Bool) → (a || b) ≡ false → a ≡ false
or_left true b h = h
or_left false b h = refl

or_right : (a b : Bool) → (a || b) ≡ false → b ≡ false
or_right true b h = cc
or_right false b h = h

goes_on : (s : State) (t : Token) (ts : List Token) → IsRunning (step s t) → nat_lt most_open (depth_at s t.kind) ≡ false → reading trees s (t ∷ ts) ≡ reading trees (step s t) ts
goes_on s t ts p few =
    ap (λ b. if b then (if nat_lt most_open (depth_at s t.kind) then nested else reading trees (step s t) ts) else refused t.from) (is_true (step s t) p)
    ∙ ap (λ b. if b then nested else reading trees (step s t) ts) few

goes_deep : (s : State) (t : Token) (ts : List Token) → IsRunning (step s t) → nat_lt most_open (depth_at s t.kind) ≡ true → reading trees s (t ∷ ts) ≡ nested
goes_deep s t ts p many =
    ap (λ b. if b then (if nat_lt most_open (depth_at s t.kind) then nested else reading trees (step s t) ts) else refused t.from) (is_true (step s t) p)
    ∙ ap (λ b. if b then nested else reading trees (step s t) ts) many

goes_wrong : (s : State) (t : Token) (ts : List Token) → (IsRunning (step s t) → ⊥) → reading trees s (t ∷ ts) ≡ refused t.from
goes_wrong s t ts p = ap (λ b. if b then (if nat_lt most_open (depth_at s t.kind) then nested else reading trees (step s t) ts) else refused t.from) (is_false (step s t) p)

passes : (ts us : List Token) (s : State) → IsRunning (steps s ts) → opens_too_many (spelled s ts) ≡ false → reading trees s (ts ++ us) ≡ reading trees (steps s ts) us
passes [] us s p few = refl
passes (t ∷ ts) us s p few =
    let q = was_stepping (step s t) ts p in
    goes_on s t (ts ++ us) q (or_left _ (opens_too_many (spelled (after t.kind s) ts)) few)
    ∙ passes ts us (step s t) p (ap (λ u. opens_too_many (spelled u ts)) (has_stepped s t q) ∙ or_right (nat_lt most_open (depth_at s t.kind)) _ few)

sinks : (ts us : List Token) (s : State) → IsRunning (steps s ts) → opens_too_many (spelled s ts) ≡ true → reading trees s (ts ++ us) ≡ nested
sinks [] us s p many = cc
sinks (t ∷ ts) us s p many =
    let q = was_stepping (step s t) ts p in
    by_bool (nat_lt most_open (depth_at s t.kind))
    (λ b. goes_deep s t (ts ++ us) q b)
    (λ b. goes_on s t (ts ++ us) q b
    ∙ sinks ts us (step s t) p (ap (λ u. opens_too_many (spelled u ts)) (has_stepped s t q) ∙ sym (ap (λ b. b || opens_too_many (spelled (after t.kind s) ts)) b) ∙ many))

few_open : (ts : List Token) → IsRunning (steps (need []) ts) → (OpensTooMany ts → ⊥) → opens_too_many (spelled (need []) ts) ≡ false
few_open ts p never = by_bool (opens_too_many (spelled (need []) ts)) (λ b. absurd (never (opens_at ts p b))) (λ b. b)

pub one_outcome : (ts : List Token) (v : Outcome Derivation) → IsReached v → OutcomeIsRight ts v → reading trees (need []) ts ≡ v
one_outcome ts unfinished r h = absurd r
one_outcome ts (accepted d) r h =
    let e = (accepts ts d).1 h.0 in
    ap (reading trees (need [])) (sym (append-nil ts))
    ∙ passes ts [] (need []) (subst IsRunning (sym e) tt) (sym (ap opens_too_many (knows_depths ts d h.0)) ∙ h.1)
    ∙ ap outcome_of e
one_outcome ts (refused n) r h =
    let p = (no_dead_states h.before).1 h.goes_on in
    let never : IsRunning (step (steps (need []) h.before) h.token) → ⊥ = λ q. h.stops ((no_dead_states (h.before ++ h.token ∷ [])).0 (subst IsRunning (sym (steps-append (need []) h.before (h.token ∷ []))) q)) in
    ap (reading trees (need [])) h.split
    ∙ passes h.before (h.token ∷ h.after) (need []) p (few_open h.before p h.few_open)
    ∙ goes_wrong (steps (need []) h.before) h.token h.after never
    ∙ ap refused h.at
one_outcome ts nested r h =
    ap (reading trees (need [])) h.split
    ∙ sinks h.before h.after (need []) ((no_dead_states h.before).1 (record { more = h.many_open.more; tree = h.many_open.tree; derives = h.many_open.derives })) (opens_only h.before h.many_open)
