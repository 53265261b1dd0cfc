-- The machine's outcome is right.
use Rattle.std.proofs.Common.{◌≡◌, ℕ, Bool, true, false, List, [], ◌∷◌, ◌++◌, refl, sym, ◌∙◌, ap, subst, append-nil}
use Rattle.std.specs.Prelude.{◌||◌, if◌then◌else◌, nat_lt}
use Rattle.std.proofs.lemmas.List.{append_assoc}
use Rattle.dh_syntax.specs.declared.tokens.Token.{Token}
use Rattle.dh_syntax.specs.Text.Derivation.{Derivation}
use Rattle.dh_syntax.specs.Text.Spelling.{StopsAt, StopsNested, opens_too_many}
use Rattle.dh_syntax.specs.Limits.{most_open}
use Rattle.dh_syntax.specs.Text.Yield.{Written}
use Rattle.dh_grammar.specs.Reading.{runs_still, unfinished, refused, nested, reading, outcome_of}
use Rattle.dh_grammar.specs.Laws.Derivations.{OutcomeIsRight, FirstFault}
use Rattle.dh_grammar.specs.Machine.{need, have, wait, done, stopped}
use Rattle.dh_grammar.specs.Trees.{trees, State, after, depth_at, written}
use Rattle.dh_grammar.specs.Running.{IsRunning, step, steps, spelled, runs_on}
use Rattle.dh_grammar.proofs.Grammar.MachineLaws.{steps-append, has_gaps, accepts, knows_depths, no_dead_states, opens_at, opens_only}

or_more : (b x y z : Bool) → x ≡ (y || z) → (b || x) ≡ ((b || y) || z)
or_more true x y z e = refl
or_more false x y z e = e

pub any-append : (ws vs : List Written) → opens_too_many (ws ++ vs) ≡ (opens_too_many ws || opens_too_many vs)
any-append [] vs = refl
any-append (w ∷ ws) vs = or_more (nat_lt most_open w.depth) _ (opens_too_many ws) (opens_too_many vs) (any-append ws vs)

spelled-append : (ts us : List Token) (s : State) → spelled s (ts ++ us) ≡ spelled s ts ++ spelled (runs_on s ts) us
spelled-append [] us s = refl
spelled-append (t ∷ ts) us s = ap (λ ws. written s t.kind ∷ ws) (spelled-append ts us (after t.kind s))

pub running_true : (s : State) → runs_still s ≡ true → IsRunning s
running_true (need st) e = tt
running_true (have st x) e = tt
running_true (wait w st) e = tt
running_true (done d) e = tt
running_true stopped e = absurd cc

pub running_false : (s : State) → runs_still s ≡ false → IsRunning s → ⊥
running_false stopped e p = p
running_false (need st) e p = cc
running_false (have st x) e p = cc
running_false (wait w st) e p = cc
running_false (done d) e p = cc

or_false : (b : Bool) → (b || false) ≡ b
or_false true = refl
or_false false = refl

true_false : (b : Bool) → b ≡ true → b ≡ false → ⊥
true_false b p q = let e = sym p ∙ q in cc

one_more : (past : List Token) (t : Token) → IsRunning (steps (need []) past) → opens_too_many (spelled (need []) past) ≡ false → opens_too_many (spelled (need []) (past ++ t ∷ [])) ≡ nat_lt most_open (depth_at (steps (need []) past) t.kind)
one_more past t p few =
    ap opens_too_many (spelled-append past (t ∷ []) (need []))
    ∙ any-append (spelled (need []) past) (written (runs_on (need []) past) t.kind ∷ [])
    ∙ ap (λ b. b || (nat_lt most_open (depth_at (runs_on (need []) past) t.kind) || false)) few
    ∙ or_false (nat_lt most_open (depth_at (runs_on (need []) past) t.kind))
    ∙ ap (λ s. nat_lt most_open (depth_at s t.kind)) (sym (has_gaps past (need []) p).is)

at_end : (past : List Token) (s : State) → steps (need []) past ≡ s → IsRunning s → opens_too_many (spelled (need []) past) ≡ false → ((d : Derivation) → s ≡ done d → ⊥) → OutcomeIsRight past unfinished
at_end past s e p few never = ((no_dead_states past).0 (subst IsRunning (sym e) p), λ d h. never d (sym e ∙ (accepts past d).1 h))

outcome_end : (past : List Token) (s : State) → steps (need []) past ≡ s → IsRunning s → opens_too_many (spelled (need []) past) ≡ false → OutcomeIsRight past (outcome_of s)
outcome_end past (done d) e p few =
    let h = (accepts past d).0 e in (h, ap opens_too_many (knows_depths past d h) ∙ few)
outcome_end past (need st) e p few = at_end past (need st) e p few (λ d h. cc)
outcome_end past (have st x) e p few = at_end past (have st x) e p few (λ d h. cc)
outcome_end past (wait w st) e p few = at_end past (wait w st) e p few (λ d h. cc)
outcome_end past stopped e p few = absurd p

stops : (past : List Token) (t : Token) (ts : List Token) → IsRunning (steps (need []) past) → opens_too_many (spelled (need []) past) ≡ false → (IsRunning (step (steps (need []) past) t) → ⊥) → StopsAt (past ++ t ∷ ts) t.from
stops past t ts p few never = record {
  before = past;
  token = t;
  after = ts;
  split = refl;
  at = refl;
  goes_on = (no_dead_states past).0 p;
  stops = λ h. never (subst IsRunning (steps-append (need []) past (t ∷ [])) ((no_dead_states (past ++ t ∷ [])).1 h));
  few_open = λ h. true_false _ (opens_only past h) few;
}

nests : (past : List Token) (t : Token) (ts : List Token) → IsRunning (steps (need []) (past ++ t ∷ [])) → opens_too_many (spelled (need []) (past ++ t ∷ [])) ≡ true → StopsNested (past ++ t ∷ ts)
nests past t ts p many = record { before = past ++ t ∷ []; after = ts; split = sym (append_assoc past (t ∷ []) ts); many_open = opens_at (past ++ t ∷ []) p many }

choose : (past : List Token) (b c : Bool) (on : _) (offset : ℕ) → (b ≡ true → c ≡ true → OutcomeIsRight past nested) → (b ≡ true → c ≡ false → OutcomeIsRight past on) → (b ≡ false → OutcomeIsRight past (refused offset)) → OutcomeIsRight past (if b then (if c then nested else on) else refused offset)
choose past true true on offset f g h = f refl refl
choose past true false on offset f g h = g refl refl
choose past false c on offset f g h = h refl

outcome_right : (ts past : List Token) → IsRunning (steps (need []) past) → opens_too_many (spelled (need []) past) ≡ false → OutcomeIsRight (past ++ ts) (reading trees (steps (need []) past) ts)
outcome_right [] past p few = subst (λ ts. OutcomeIsRight ts (outcome_of (steps (need []) past))) (sym (append-nil past)) (outcome_end past (steps (need []) past) refl p few)
outcome_right (t ∷ ts) past p few =
    let s = steps (need []) past in
    let on : runs_still (step s t) ≡ true → IsRunning (steps (need []) (past ++ t ∷ [])) = λ b. subst IsRunning (sym (steps-append (need []) past (t ∷ []))) (running_true (step s t) b) in
    choose (past ++ t ∷ ts) (runs_still (step s t)) (nat_lt most_open (depth_at s t.kind)) (reading trees (step s t) ts) t.from
    (λ b c. nests past t ts (on b) (one_more past t p few ∙ c))
    (λ b c. subst (λ us. OutcomeIsRight us (reading trees (step s t) ts)) (append_assoc past (t ∷ []) ts)
    (subst (λ u. OutcomeIsRight ((past ++ t ∷ []) ++ ts) (reading trees u ts)) (steps-append (need []) past (t ∷ [])) (outcome_right ts (past ++ t ∷ []) (on b) (one_more past t p few ∙ c))))
    (λ b. stops past t ts p few (running_false (step s t) b))

pub answers : FirstFault
answers ts = outcome_right ts [] tt refl
