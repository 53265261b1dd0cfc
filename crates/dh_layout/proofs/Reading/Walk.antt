-- Reading one token more.
use Rattle.std.proofs.Common.{◌≡◌, ℕ, zero, suc, ◌+◌, Bool, true, false, not, ◌||◌, if◌then◌else◌, ◌==◌, List, [], ◌∷◌, ◌++◌, length, drop, Some, None, Result, refl, sym, ap, subst, ◌∙◌, append_assoc}
use Rattle.std.specs.Prelude.{IsTrue}
use Rattle.dh_syntax.specs.declared.tokens.Mark.TheVariants as marks
use Rattle.dh_syntax.specs.declared.tokens.Token.{Token}
use Rattle.dh_syntax.specs.declared.tokens.TextForm.{TextForm}
use Rattle.dh_syntax.specs.declared.tokens.TokenKind.{TokenKind}
use Rattle.dh_syntax.specs.declared.tokens.TokenKind.TheVariants as kinds
use Rattle.dh_syntax.specs.Text.Characters.{first, begins}
use Rattle.dh_syntax.specs.Text.LexForms.{Is, White, SkippedLine, Form, stretching}
use Rattle.dh_syntax.specs.Text.LexGaps.{with_line_end, line_character}
use Rattle.dh_syntax.specs.Text.Stretches.{stretch}
use Rattle.dh_syntax.specs.Text.Lexing.{Wide, LexFault, Place, Outside, Interpolated, Among, Before, Start, AName, NameAt, Other, State, Stops, Gives, code_form, form_at, form_or, no_form, is_wide_index, place_after, before_after, before_after_white, by_step, step_at, tokens_from, with_token}
use Rattle.dh_syntax.specs.Text.Yield.{Written, token, mark, free}
use Rattle.dh_layout.proofs.Reading.Walks.{IsCode, IsCalm, braced, state, Goal, Lexes, lefts, rights}

-- the bytes of a token that is read already
skipped : (s : State) (x rest : List ℕ) (at : ℕ) (ws : List Written) → ((at : ℕ) → Goal s 0 at rest ws) → Goal s (length x) at (x ++ rest) ws
skipped s [] rest at ws h = h at
skipped s (b ∷ x) rest at ws h = skipped s x rest (suc at) ws h

-- a token more, by the form at the front
pub given : (p : Place) (before : Before) (gap : Bool) (at b : ℕ) (x rest : List ℕ) (k : TokenKind) (n : ℕ) (g : Bool) (ws : List Written)
    → form_at before p (b ∷ x ++ rest) ≡ record { found = Is k; len = suc (length x) }
    → is_wide_index before k ≡ false → IsTrue (not g || gap)
    → ((at' : ℕ) → Goal (state (place_after k at p) (before_after k before) false) 0 at' rest ws)
    → Goal (state p before gap) 0 at (b ∷ x ++ rest) (token n g k ∷ ws)
given p before gap at b x rest k n g ws e wide gapped h =
    let s = state p before gap in
    let t : Token = record { kind = k; from = at; to = at + suc (length x); gap = gap } in
    let next = state (place_after k at p) (before_after k before) false in
    let more : State → ℕ → Result (List Token) LexFault = λ r m. tokens_from r m (suc at) (x ++ rest) in
    let goal = skipped next x rest (suc at) ws h in (
      t ∷ goal.0,
      ap (λ (f : Form). by_step (step_at s at f) more) e
          ∙ ap (λ (w : Bool). by_step (if w then Stops (Wide at) else Gives t next (suc (length x))) more) wide
          ∙ ap (with_token t) goal.1,
      ((refl, gapped), goal.2),
    )

pub calm_index : (before : Before) (k : TokenKind) → IsCalm before → is_wide_index before k ≡ false
calm_index Start k h = refl
calm_index AName k h = refl
calm_index NameAt k h = absurd h
calm_index Other k h = refl

-- outside the characters of texts
pub form_in_code : (before : Before) (p : Place) (bs : List ℕ) (f : Form) → IsCode p → (first bs == 125) ≡ false → begins "#!" bs ≡ false → code_form bs ≡ Some f → form_at before p bs ≡ f
form_in_code before (Among form' from p) bs f c brace line e = absurd c
form_in_code before (Interpolated zero form' from p) bs f c brace line e =
    ap (λ (t : Bool). if t then record { found = Is kinds.InterpolationClose; len = 1 } else form_or (code_form bs) (no_form bs)) brace ∙ ap (λ o. form_or o (no_form bs)) e
form_in_code before (Interpolated (suc braces) form' from p) bs f c brace line e = ap (λ o. form_or o (no_form bs)) e
form_in_code Start Outside bs f c brace line e =
    ap (λ (t : Bool). form_or (if t then with_line_end (stretching (λ text. SkippedLine) 2 (stretch line_character 0 (drop 2 bs))) bs else None) (form_or (code_form bs) (no_form bs))) line ∙ ap (λ o. form_or o (no_form bs)) e
form_in_code AName Outside bs f c brace line e = ap (λ o. form_or o (no_form bs)) e
form_in_code NameAt Outside bs f c brace line e = ap (λ o. form_or o (no_form bs)) e
form_in_code Other Outside bs f c brace line e = ap (λ o. form_or o (no_form bs)) e

-- a token more
pub give : (p : Place) (g : Bool) (b : ℕ) (x rest : List ℕ) (k : TokenKind) (n : ℕ) (ws : List Written)
    → IsCode p → ((before : Before) → IsCalm (before_after k before))
    → (b == 125) ≡ false → begins "#!" (b ∷ x ++ rest) ≡ false
    → code_form (b ∷ x ++ rest) ≡ Some (record { found = Is k; len = suc (length x) })
    → ((at : ℕ) → Lexes (place_after k at p) false rest ws) → Lexes p g (b ∷ x ++ rest) (token n g k ∷ ws)
give p g b x rest k n ws c calm brace line e h = record {
  lexes = λ before gap calm' gapped at.
      given p before gap at b x rest k n g ws (form_in_code before p (b ∷ x ++ rest) _ c brace line e) (calm_index before k calm') gapped (λ at'. (h at).lexes (before_after k before) false (calm before) refl at');
}

calm_white : (before : Before) → IsCalm before → IsCalm (before_after_white before)
calm_white Start h = tt
calm_white AName h = tt
calm_white NameAt h = absurd h
calm_white Other h = tt

-- a space
pub space : (p : Place) (rest : List ℕ) (ws : List Written) → IsCode p → Lexes p true rest ws → Lexes p false (32 ∷ rest) ws
space p rest ws c h = record {
  lexes = λ before gap calm gapped at.
      let s = state p before gap in
      let goal = h.lexes (before_after_white before) true (calm_white before calm) refl (suc at) in
      let more : State → ℕ → Result (List Token) LexFault = λ r m. tokens_from r m (suc at) rest in (
        goal.0,
        ap (λ (f : Form). by_step (step_at s at f) more) (form_in_code before p (32 ∷ rest) (record { found = White; len = 1 }) c refl refl refl) ∙ goal.1,
        goal.2,
      );
}

-- a gap that is not asked for
pub loose : (p : Place) (bs : List ℕ) (ws : List Written) → Lexes p false bs ws → Lexes p true bs ws
loose p bs ws h = record { lexes = λ before gap calm gapped at. h.lexes before gap calm refl at }

-- a closing brace
pub close_brace : (p : Place) (g : Bool) (rest : List ℕ) (n : ℕ) (ws : List Written) → IsCode p → Lexes p false rest ws → Lexes (braced p) g (125 ∷ rest) (mark n g marks.BraceClose ∷ ws)
close_brace (Among f from p) g rest n ws c h = absurd c
close_brace (Interpolated braces f from p) g rest n ws c h = record {
  lexes = λ before gap calm gapped at.
      given (braced (Interpolated braces f from p)) before gap at 125 [] rest (kinds.Mark marks.BraceClose) n g ws refl (calm_index before _ calm) gapped (λ at'. h.lexes Other false tt refl at');
}
close_brace Outside g rest n ws c h = record {
  lexes = λ before gap calm gapped at.
      given Outside before gap at 125 [] rest (kinds.Mark marks.BraceClose) n g ws (outside_brace before) (calm_index before _ calm) gapped (λ at'. h.lexes Other false tt refl at');
}
  where
    outside_brace : (before : Before) → form_at before Outside (125 ∷ rest) ≡ record { found = Is (kinds.Mark marks.BraceClose); len = 1 }
    outside_brace Start = refl
    outside_brace AName = refl
    outside_brace NameAt = refl
    outside_brace Other = refl

-- the end of an interpolation
pub close_interpolation : (f : TextForm) (from : ℕ) (p : Place) (g : Bool) (rest : List ℕ) (n : ℕ) (ws : List Written) → Lexes (Among f from p) false rest ws
    → Lexes (Interpolated zero f from p) g (125 ∷ rest) (token n g kinds.InterpolationClose ∷ ws)
close_interpolation f from p g rest n ws h = record {
  lexes = λ before gap calm gapped at.
      given (Interpolated zero f from p) before gap at 125 [] rest kinds.InterpolationClose n g ws refl (calm_index before _ calm) gapped (λ at'. h.lexes Other false tt refl at');
}

-- an opening brace
pub open_brace : (p : Place) (g : Bool) (rest : List ℕ) (n : ℕ) (ws : List Written) → IsCode p
    → code_form (123 ∷ rest) ≡ Some (record { found = Is (kinds.Mark marks.BraceOpen); len = 1 }) → Lexes (braced p) false rest ws → Lexes p g (123 ∷ rest) (mark n g marks.BraceOpen ∷ ws)
open_brace p g rest n ws c e h = give p g 123 [] rest (kinds.Mark marks.BraceOpen) n ws c (λ b. tt) refl refl e (λ at. subst (λ q. Lexes q false rest ws) (sym (after p at)) h)
  where
    after : (p : Place) (at : ℕ) → place_after (kinds.Mark marks.BraceOpen) at p ≡ braced p
    after Outside at = refl
    after (Interpolated braces f from p) at = refl
    after (Among f from p) at = refl

-- the end of the text
pub finish : (n : ℕ) → Lexes Outside false [] (token n free kinds.End ∷ [])
finish n = record { lexes = λ before gap calm gapped at. (record { kind = kinds.End; from = at; to = at; gap = gap } ∷ [], refl, ((refl, refl), tt)) }

-- ---- rows

regroup : {A : Type 0} (a : List A) (xs : List (List A)) (rest : List A) → lefts a xs ++ rest ≡ a ++ rights xs rest
regroup a [] rest = refl
regroup a (x ∷ xs) rest = regroup (a ++ x) xs rest ∙ append_assoc a x (rights xs rest)

pub regrouped : (p : Place) (g : Bool) (a : List ℕ) (xs : List (List ℕ)) (rest : List ℕ) (v : List Written) (vs : List (List Written)) (ws : List Written)
    → Lexes p g (a ++ rights xs rest) (v ++ rights vs ws) → Lexes p g (lefts a xs ++ rest) (lefts v vs ++ ws)
regrouped p g a xs rest v vs ws h =
    subst (λ t. Lexes p g t (lefts v vs ++ ws)) (sym (regroup a xs rest)) (subst (λ t. Lexes p g (a ++ rights xs rest) t) (sym (regroup v vs ws)) h)

pub text_regrouped : (p : Place) (g : Bool) (a : List ℕ) (xs : List (List ℕ)) (rest : List ℕ) (ws : List Written) → Lexes p g (a ++ rights xs rest) ws → Lexes p g (lefts a xs ++ rest) ws
text_regrouped p g a xs rest ws h = subst (λ t. Lexes p g t ws) (sym (regroup a xs rest)) h
