-- The tokens of a text, but for `End`, end one behind the other.
use Rattle.std.proofs.Common.{◌≡◌, ℕ, zero, suc, pred, ◌+◌, ◌≤◌, ◌<◌, Bool, true, false, List, [], ◌∷◌, length, refl, sym, ◌∙◌, subst, arith}
use Rattle.std.specs.Prelude.{⊤, Result, Ok, Err, if◌then◌else◌}
use Rattle.dh_syntax.specs.declared.tokens.Token.{Token}
use Rattle.dh_syntax.specs.Text.LexForms.{Found, White, SkippedLine, Is, LeftOut, TooWide, Faulty, Unclosed}
use Rattle.dh_syntax.specs.Text.Lexing.{LexFault, Wide, Place, Outside, Interpolated, Among, State, start, Stops, Gives, place_after, before_after, before_after_white, is_wide_index, step, form_at, end_at, with_token, by_step, tokens_from, lex}
use Rattle.dh_syntax.specs.Text.Noting.{ends_before}
use Rattle.dh_syntax.proofs.LexingLaws.{lex-from_start}
use Rattle.dh_freeze.proofs.FormLengths.{takes_bytes}

-- each of them but the last ends behind the one before it, and the first behind this offset
abbrev pub Ends : ℕ → List Token → Type 0
Ends n [] = ⊤
Ends n (t ∷ []) = ⊤
Ends n (t ∷ u ∷ ts) = (n < t.to) × Ends t.to (u ∷ ts)

abbrev AllEnd : ℕ → Result (List Token) LexFault → Type 0
AllEnd n (Ok ts) = Ends n ts
AllEnd n (Err fault) = ⊤

ends_less : (m n : ℕ) (ts : List Token) → m ≤ n → Ends n ts → Ends m ts
ends_less m n [] l h = tt
ends_less m n (t ∷ []) l h = tt
ends_less m n (t ∷ u ∷ ts) l h = (let k = h.0 in omega arith, h.1)

less : (m n : ℕ) (r : Result (List Token) LexFault) → m ≤ n → AllEnd n r → AllEnd m r
less m n (Ok ts) l h = ends_less m n ts l h
less m n (Err fault) l h = tt

one_more : (n : ℕ) (t : Token) (r : Result (List Token) LexFault) → n < t.to → AllEnd t.to r → AllEnd n (with_token t r)
one_more n t (Ok []) l h = tt
one_more n t (Ok (u ∷ ts)) l h = (l, h)
one_more n t (Err fault) l h = tt

at_end : (n : ℕ) (s : State) (at : ℕ) (place : Place) → AllEnd n (end_at s at place)
at_end n s at Outside = tt
at_end n s at (Interpolated b f k p) = tt
at_end n s at (Among f k p) = tt

abbrev Rest : Type 0
Rest = State → ℕ → Result (List Token) LexFault

-- what the rest ends behind
abbrev Follows : ℕ → Rest → Type 0
Follows at rest = (t : State) (n : ℕ) → AllEnd (suc at + n) (rest t n)

before_next : (at len to : ℕ) → to ≡ at + len → 0 < len → to ≤ suc at + pred len
before_next at zero to e l = absurd (omega arith)
before_next at (suc n) to e l = omega arith

by_token : (wide : Bool) (at len : ℕ) (fault : LexFault) (t : Token) (u : State) (rest : Rest) → t.to ≡ at + len → 0 < len → Follows at rest → AllEnd at (by_step (if wide then Stops fault else Gives t u len) rest)
by_token true at len fault t u rest e l h = tt
by_token false at len fault t u rest e l h =
    one_more at t (rest u (pred len)) (omega arith) (less t.to (suc at + pred len) (rest u (pred len)) (before_next at len t.to e l) (h u (pred len)))

by_form : (s : State) (at : ℕ) (f : Found) (len : ℕ) (rest : Rest) → 0 < len → Follows at rest → AllEnd at (by_step (step s at f len) rest)
by_form s at White len rest l h =
    let t : State = record { place = s.place; before = before_after_white s.before; gap = true } in
    less at (suc at + pred len) (rest t (pred len)) (omega arith) (h t (pred len))
by_form s at SkippedLine len rest l h = less at (suc at + pred len) (rest s (pred len)) (omega arith) (h s (pred len))
by_form s at (Is k) len rest l h =
    by_token (is_wide_index s.before k) at len (Wide at) (record { kind = k; from = at; to = at + len; gap = s.gap })
    (record { place = place_after k at s.place; before = before_after k s.before; gap = false }) rest refl l h
by_form s at LeftOut len rest l h = tt
by_form s at TooWide len rest l h = tt
by_form s at (Faulty n) len rest l h = tt
by_form s at Unclosed len rest l h = tt

all_from : (s : State) (skip at : ℕ) (bs : List ℕ) → AllEnd (at + skip) (tokens_from s skip at bs)
all_from s skip at [] = at_end (at + skip) s at s.place
all_from s (suc skip) at (b ∷ bs) = less (at + suc skip) (suc at + skip) (tokens_from s skip (suc at) bs) (omega arith) (all_from s skip (suc at) bs)
all_from s zero at (b ∷ bs) =
    let f = form_at s.before s.place (b ∷ bs) in
    let rest : Rest = λ t n. tokens_from t n (suc at) bs in
    less (at + 0) at (by_step (step s at f.found f.len) rest) (omega arith) (by_form s at f.found f.len rest (takes_bytes s.before s.place (b ∷ bs)) (λ t n. all_from t n (suc at) bs))

pub tokens_end : (bs : List ℕ) (ts : List Token) → lex bs ≡ Ok ts → Ends 0 ts
tokens_end bs ts e = subst (AllEnd 0) (sym (lex-from_start bs) ∙ e) (all_from start 0 0 bs)

-- ---- by the numbers of the tokens

above : (n : ℕ) (ts : List Token) (i : ℕ) → suc i < length ts → Ends n ts → n < ends_before ts (suc i)
above n [] i l h = absurd (omega arith)
above n (t ∷ []) i l h = absurd (omega arith)
above n (t ∷ u ∷ ts) zero l h = h.0
above n (t ∷ u ∷ ts) (suc i) l h = let k = above t.to (u ∷ ts) i (omega arith) h.1 in let j = h.0 in omega arith

pub later_ends : (n : ℕ) (ts : List Token) (i j : ℕ) → i < j → suc j < length ts → Ends n ts → ends_before ts (suc i) < ends_before ts (suc j)
later_ends n [] i j l m h = absurd (omega arith)
later_ends n (t ∷ []) i j l m h = absurd (omega arith)
later_ends n (t ∷ u ∷ ts) i zero l m h = absurd (omega arith)
later_ends n (t ∷ u ∷ ts) zero (suc j) l m h = above t.to (u ∷ ts) j (omega arith) h.1
later_ends n (t ∷ u ∷ ts) (suc i) (suc j) l m h = later_ends t.to (u ∷ ts) i j (omega arith) (omega arith) h.1
