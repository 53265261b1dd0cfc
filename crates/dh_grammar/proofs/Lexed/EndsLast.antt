-- The tokens of a text end in `End`, so the reading of them is never unfinished.
use Rattle.std.proofs.Common.{◌≡◌, ℕ, zero, suc, pred, true, List, [], ◌∷◌, refl, sym, ◌∙◌, subst}
use Rattle.std.specs.Prelude.{⊤, not, ◌||◌, nat_lt, if◌then◌else◌, Result, Ok, Err}
use Rattle.dh_syntax.specs.declared.tokens.Token.{Token}
use Rattle.dh_syntax.specs.declared.tokens.TokenKind.TheVariants as kinds
use Rattle.dh_syntax.specs.Text.Lexing.{LexFault, Place, Outside, Interpolated, Among, State, start, Step, Stops, Skips, Gives, by_step, with_token, end_at, step_at, form_at, tokens_from, lex}
use Rattle.dh_syntax.specs.Limits.{most_open}
use Rattle.dh_syntax.proofs.LexingLaws.{lex-from_start}
use Rattle.dh_grammar.specs.Machine.{need, have, wait, done, stopped}
use Rattle.dh_grammar.specs.Reading.{runs_still, Outcome, unfinished, refused, nested, reading, outcome_of}
use Rattle.dh_grammar.specs.Running.{step}
use Rattle.dh_grammar.specs.Trees.{trees, after, gap_at, depth_at}
use Rattle.dh_grammar.specs.Ends.{EndsLast, IsEnded}
use Rattle.dh_grammar.proofs.Results.Ending.{end_ends}
use Rattle.dh_grammar.proofs.TruthValues.{by_test}
use Rattle.dh_syntax.specs.Text.Derivation.{Derivation}
use Rattle.dh_grammar.specs.Trees as trees

abbrev Ends : Result (List Token) LexFault → Type 0
Ends (Ok ts) = EndsLast ts
Ends (Err fault) = ⊤

ends_after : (t : Token) (ts : List Token) → EndsLast ts → EndsLast (t ∷ ts)
ends_after t [] h = absurd h
ends_after t (u ∷ ts) h = h

ends_with : (t : Token) (r : Result (List Token) LexFault) → Ends r → Ends (with_token t r)
ends_with t (Ok ts) h = ends_after t ts h
ends_with t (Err fault) h = tt

ends_at : (s : State) (at : ℕ) (place : Place) → Ends (end_at s at place)
ends_at s at Outside = refl
ends_at s at (Interpolated b f n p) = tt
ends_at s at (Among f n p) = tt

ends_by : (x : Step) (rest : State → ℕ → Result (List Token) LexFault) → ((s : State) (n : ℕ) → Ends (rest s n)) → Ends (by_step x rest)
ends_by (Stops fault) rest h = tt
ends_by (Skips s n) rest h = h s (pred n)
ends_by (Gives t s n) rest h = ends_with t (rest s (pred n)) (h s (pred n))

ends_from : (s : State) (skip at : ℕ) (bs : List ℕ) → Ends (tokens_from s skip at bs)
ends_from s skip at [] = ends_at s at s.place
ends_from s (suc skip) at (b ∷ bs) = ends_from s skip (suc at) bs
ends_from s zero at (b ∷ bs) = ends_by (step_at s at (form_at s.before s.place (b ∷ bs))) (λ t n. tokens_from t n (suc at) bs) (λ t n. ends_from t n (suc at) bs)

pub ends_last : (bs : List ℕ) (ts : List Token) → lex bs ≡ Ok ts → EndsLast ts
ends_last bs ts e = subst Ends (sym (lex-from_start bs) ∙ e) (ends_from start 0 0 bs)

-- ---- an outcome is reached

abbrev pub IsReached : Outcome Derivation → Type 0
IsReached unfinished = ⊥
IsReached _ = ⊤

reached_end : (s : trees.State) → IsEnded s → runs_still s ≡ true → IsReached (outcome_of s)
reached_end (done d) e r = tt
reached_end stopped e r = cc
reached_end (need st) e r = e
reached_end (have st x) e r = e
reached_end (wait w st) e r = e

ended_step : (s : trees.State) (t : Token) → t.kind ≡ kinds.End → IsEnded (step s t)
ended_step s t e = by_test IsEnded (not (gap_at s t.kind) || t.gap) (after t.kind s) stopped (λ b. subst (λ k. IsEnded (after k s)) (sym e) (end_ends trees s)) (λ b. tt)

pub reached : (ts : List Token) (s : trees.State) → EndsLast ts → IsReached (reading trees s ts)
reached [] s h = absurd h
reached (t ∷ []) s h =
    by_test IsReached (runs_still (step s t)) (if nat_lt most_open (depth_at s t.kind) then nested else outcome_of (step s t)) (refused t.from)
    (λ r. by_test IsReached (nat_lt most_open (depth_at s t.kind)) nested (outcome_of (step s t)) (λ b. tt) (λ b. reached_end (step s t) (ended_step s t h) r)) (λ r. tt)
reached (t ∷ u ∷ ts) s h =
    by_test IsReached (runs_still (step s t)) (if nat_lt most_open (depth_at s t.kind) then nested else reading trees (step s t) (u ∷ ts)) (refused t.from)
    (λ r. by_test IsReached (nat_lt most_open (depth_at s t.kind)) nested (reading trees (step s t) (u ∷ ts)) (λ b. tt) (λ b. reached (u ∷ ts) (step s t) h)) (λ r. tt)
