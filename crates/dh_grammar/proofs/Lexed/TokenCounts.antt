-- A text has at most one token for each byte, and `End`.
use Rattle.std.proofs.Common.{◌≡◌, ℕ, zero, suc, pred, ◌≤◌, List, [], ◌∷◌, sym, ◌∙◌, subst, length, arith}
use Rattle.std.specs.Prelude.{⊤, Result, Ok, Err}
use Rattle.dh_syntax.specs.declared.tokens.Token.{Token}
use Rattle.dh_syntax.specs.Text.Lexing.{LexFault, Place, Outside, Interpolated, Among, State, start, Step, Stops, Skips, Gives, by_step, with_token, end_at, step_at, form_at, tokens_from, lex}
use Rattle.dh_syntax.proofs.LexingLaws.{lex-from_start}

-- at most so many tokens and one
abbrev AreFew : ℕ → Result (List Token) LexFault → Type 0
AreFew n (Ok ts) = length ts ≤ suc n
AreFew n (Err fault) = ⊤

more : (n : ℕ) (r : Result (List Token) LexFault) → AreFew n r → AreFew (suc n) r
more n (Ok ts) h = omega arith
more n (Err fault) h = tt

few_with : (n : ℕ) (t : Token) (r : Result (List Token) LexFault) → AreFew n r → AreFew (suc n) (with_token t r)
few_with n t (Ok ts) h = omega arith
few_with n t (Err fault) h = tt

few_at : (s : State) (at : ℕ) (place : Place) → AreFew 0 (end_at s at place)
few_at s at Outside = omega arith
few_at s at (Interpolated b f n p) = tt
few_at s at (Among f n p) = tt

few_by : (n : ℕ) (x : Step) (rest : State → ℕ → Result (List Token) LexFault) → ((s : State) (k : ℕ) → AreFew n (rest s k)) → AreFew (suc n) (by_step x rest)
few_by n (Stops fault) rest h = tt
few_by n (Skips s k) rest h = more n (rest s (pred k)) (h s (pred k))
few_by n (Gives t s k) rest h = few_with n t (rest s (pred k)) (h s (pred k))

few_from : (s : State) (skip at : ℕ) (bs : List ℕ) → AreFew (length bs) (tokens_from s skip at bs)
few_from s skip at [] = few_at s at s.place
few_from s (suc skip) at (b ∷ bs) = more (length bs) (tokens_from s skip (suc at) bs) (few_from s skip (suc at) bs)
few_from s zero at (b ∷ bs) = few_by (length bs) (step_at s at (form_at s.before s.place (b ∷ bs))) (λ t k. tokens_from t k (suc at) bs) (λ t k. few_from t k (suc at) bs)

pub few_tokens : (bs : List ℕ) (ts : List Token) → lex bs ≡ Ok ts → length ts ≤ suc (length bs)
few_tokens bs ts e = subst (AreFew (length bs)) (sym (lex-from_start bs) ∙ e) (few_from start 0 0 bs)
