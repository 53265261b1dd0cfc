-- Laws of the reading of tokens.
use Rattle.std.proofs.Common.{◌≡◌, ℕ, zero, suc, pred, ◌+◌, ◌<◌, ◌≤◌, Bool, false, if◌then◌else◌, List, [], ◌∷◌, ◌++◌, length, drop, Option, Some, None, Result, Ok, Err, refl, sym, ap, subst, ◌∙◌, append_assoc, arith}
use Rattle.std.proofs.lemmas.List.{drop_all}
use Rattle.dh_syntax.specs.declared.tokens.Token.{Token}
use Rattle.dh_syntax.specs.Text.Characters.{begins}
use Rattle.dh_syntax.specs.Text.LexForms.{SkippedLine, Form, stretching}
use Rattle.dh_syntax.specs.Text.LexGaps.{line_character, with_line_end}
use Rattle.dh_syntax.specs.Text.Lexing.{LexFault, Start, end_at, lex, start, code_form, Outside, State, Step, Stops, Skips, Gives, by_step, form_at, form_or, no_form, step_at, tokens_from, with_token}
use Rattle.dh_syntax.specs.Text.Stretches.{stretch}
use Rattle.dh_tokens.specs.declared.states.Before as before
use Rattle.dh_tokens.specs.declared.states.Before.TheVariants as befores
use Rattle.dh_tokens.specs.declared.states.State as states
use Rattle.dh_tokens.specs.Inside.Places.{IsRooted, IsWhole}
use Rattle.dh_tokens.specs.Inside.States.{IsReady, before_of, state_of}
use Rattle.dh_tokens.specs.Inside.LongestForms.{front_form, longest_form}
use Rattle.dh_tokens.specs.declared.faults.LexFault as faults
use Rattle.dh_tokens.specs.declared.faults.LexFault.TheVariants as the_faults
use Rattle.dh_tokens.specs.Reading.{IsFault, onto}
use Rattle.dh_syntax.proofs.LexingLaws.{lex-from_start, tokens_from-skip}

-- the form at the front by the longest one, where there is one
pub front-some : (bs : List ℕ) (f : Form) → Some f ≡ longest_form bs → f ≡ front_form bs
unfolding front_form longest_form
front-some bs f e = ap (λ p. form_or p (no_form bs)) e

pub front-none : (bs : List ℕ) (f : Form) → None ≡ longest_form bs → f ≡ no_form bs → f ≡ front_form bs
unfolding front_form longest_form
front-none bs f e same = same ∙ ap (λ p. form_or p (no_form bs)) e

-- something stands before that is no skipped line
abbrev pub IsLater : before.Before → Type 0
IsLater befores.Start = ⊥
IsLater befores.AName = Unit {0}
IsLater befores.NameAt = Unit {0}
IsLater befores.Other = Unit {0}

-- outside every text no line is skipped but at the start
pub front-at_start : (bs : List ℕ) → false ≡ begins "#!" bs → front_form bs ≡ form_at Start Outside bs
unfolding front_form
front-at_start bs e =
    let skipped : Option Form = with_line_end (stretching (λ text. SkippedLine) 2 (stretch line_character 0 (drop 2 bs))) bs in
    ap (λ (b : Bool). form_or (if b then skipped else None) (form_or (code_form bs) (no_form bs))) e

pub front-later : (before : before.Before) (bs : List ℕ) → IsLater before → front_form bs ≡ form_at (before_of before) Outside bs
unfolding front_form
front-later befores.Start bs h = absurd h
front-later befores.AName bs h = refl
front-later befores.NameAt bs h = refl
front-later befores.Other bs h = refl

pub onto-none : (r : Result (List Token) LexFault) → r ≡ onto [] r
onto-none (Ok us) = refl
onto-none (Err fault) = refl

pub onto-one : (ts : List Token) (t : Token) (r : Result (List Token) LexFault) → onto ts (with_token t r) ≡ onto (ts ++ t ∷ []) r
onto-one ts t (Ok us) = ap Ok (sym (append_assoc ts (t ∷ []) us))
onto-one ts t (Err fault) = refl

-- what a form that takes so many bytes leads to
abbrev pub after_step : Step → ℕ → List ℕ → Result (List Token) LexFault
after_step (Stops fault) at bs = Err fault
after_step (Skips s n) at bs = tokens_from s 0 (at + n) (drop n bs)
after_step (Gives t s n) at bs = with_token t (tokens_from s 0 (at + n) (drop n bs))

-- how many bytes a step takes
abbrev pub Takes : ℕ → Step → Type 0
Takes m (Stops fault) = Unit {0}
Takes m (Skips s n) = m ≡ n
Takes m (Gives t s n) = m ≡ n

skipped : (s : State) (at n : ℕ) (b : ℕ) (bs : List ℕ) → 0 < n → n ≤ suc (length bs) → tokens_from s (pred n) (suc at) bs ≡ tokens_from s 0 (at + n) (drop n (b ∷ bs))
skipped s at zero b bs some within = absurd (omega (arith, some))
skipped s at (suc n) b bs some within =
    let e : suc at + n ≡ at + suc n = omega arith in
    tokens_from-skip s n (suc at) bs (omega (arith, within)) ∙ ap (λ k. tokens_from s 0 k (drop n bs)) e

by_step-after : (step : Step) (at m b : ℕ) (bs : List ℕ) → Takes m step → 0 < m → m ≤ suc (length bs) → by_step step (λ t n. tokens_from t n (suc at) bs) ≡ after_step step at (b ∷ bs)
by_step-after (Stops fault) at m b bs takes some within = refl
by_step-after (Skips s n) at m b bs takes some within = skipped s at n b bs (omega (arith, some, takes)) (omega (arith, within, takes))
by_step-after (Gives t s n) at m b bs takes some within = ap (with_token t) (skipped s at n b bs (omega (arith, some, takes)) (omega (arith, within, takes)))

-- the tokens by the first form
pub one_step : (s : State) (at m : ℕ) (bs : List ℕ) → 0 < m → m ≤ length bs → Takes m (step_at s at (form_at s.before s.place bs))
    → tokens_from s 0 at bs ≡ after_step (step_at s at (form_at s.before s.place bs)) at bs
one_step s at m [] some within takes = absurd (omega (arith, some, within))
one_step s at m (b ∷ bs) some within takes = by_step-after (step_at s at (form_at s.before s.place (b ∷ bs))) at m b bs takes some within

-- how far a text has been read
pub record ReadTo (text : List ℕ) (made : List Token) (s : State) (at : ℕ) : Type 0 where
  pub within : at ≤ length text
  pub so_far : lex text ≡ onto made (tokens_from s 0 at (drop at text))

pub read-begins : (text : List ℕ) (made : List Token) (s : State) → made ≡ [] → s ≡ start → ReadTo text made s 0
read-begins text made s none begun =
    let all : tokens_from start 0 0 text ≡ onto [] (tokens_from start 0 0 text) = onto-none (tokens_from start 0 0 text) in
    record {
      within = omega arith;
      so_far = lex-from_start text ∙ all ∙ ap (λ t. onto [] (tokens_from t 0 0 text)) (sym begun) ∙ ap (λ ts. onto ts (tokens_from s 0 0 text)) (sym none);
    }

pub read-further : (text : List ℕ) (made made' : List Token) (s s' : State) (at at' : ℕ) → ReadTo text made s at → at' ≤ length text
    → onto made (tokens_from s 0 at (drop at text)) ≡ onto made' (tokens_from s' 0 at' (drop at' text)) → ReadTo text made' s' at'
read-further text made made' s s' at at' r within e = record { within = within; so_far = r.so_far ∙ e }

-- what is read at the end of a text
pub read-ends : (text : List ℕ) (made : List Token) (s : State) (at : ℕ) → ReadTo text made s at → length text ≤ at → lex text ≡ onto made (end_at s at s.place)
read-ends text made s at r past =
    let rest : drop at text ≡ [] = drop_all at text past in
    r.so_far ∙ ap (λ bs. onto made (tokens_from s 0 at bs)) rest

-- a fault of what is left is one of the whole text
pub whole-fault : (text : List ℕ) (made : List Token) (r : Result (List Token) LexFault) (fault : faults.LexFault) → lex text ≡ onto made r → IsFault r fault → IsFault (lex text) fault
whole-fault text made r (the_faults.Bad at) e h = e ∙ ap (onto made) h
whole-fault text made r (the_faults.Wide at) e h = e ∙ ap (onto made) h
whole-fault text made r (the_faults.Out at) e h = e ∙ ap (onto made) h
whole-fault text made r the_faults.Memory e h = tt

-- a text is read from its start
pub ready-begins : (s : states.State) (at : ℕ) (bs : List ℕ) → IsRooted s.place.open.items → state_of s ≡ start → IsReady s at bs
ready-begins s at bs rooted e = (rooted, subst (λ (t : State). IsWhole t.place at bs) (sym e) tt)
