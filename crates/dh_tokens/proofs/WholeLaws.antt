-- A text is read among its characters from where one of them begins.
use Rattle.std.proofs.Common.{◌≡◌, ℕ, zero, suc, ◌+◌, ◌-◌, ◌<◌, ◌≤◌, List, length, drop, get_or, refl, sym, ap, subst, ◌∙◌, length-drop, arith}
use Rattle.std.proofs.Common as truth
use Rattle.std.proofs.Common.{true, false, if◌then◌else◌}
use Rattle.std.proofs.lemmas.List.{get_or-drop}
use Rattle.std.proofs.lemmas.Str.{IsCharBoundary-after_ascii, IsCharBoundary-from_rest}
use Rattle.std.specs.Str.{IsCharBoundary, IsUtf8}
use Rattle.dh_syntax.specs.declared.tokens.TextForm.{TextForm}
use Rattle.dh_syntax.specs.declared.tokens.Token.{Token}
use Rattle.dh_syntax.specs.declared.tokens.TokenKind.{TokenKind}
use Rattle.dh_syntax.specs.declared.tokens.TokenKind.TheVariants as kinds
use Rattle.dh_syntax.specs.declared.tokens.Mark.TheVariants as marks
use Rattle.dh_syntax.specs.Text.LexForms.{Found, White, SkippedLine, Is, LeftOut, TooWide, Faulty, Unclosed, Form}
use Rattle.dh_syntax.specs.Text.Lexing.{Before, Wide, before_after, Place, Outside, Interpolated, Among, State, Step, Stops, Skips, Gives, form_at, is_wide_index, place_after, step, token_step}
use Rattle.dh_tokens.specs.declared.forms.Found.{Found as Read}
use Rattle.dh_tokens.specs.declared.forms.Found.TheVariants as found
use Rattle.dh_tokens.specs.Inside.Forms.{EndsCharacter, found_of}
use Rattle.dh_tokens.specs.Inside.Places.{EndsAmong, IsWhole}
use Rattle.dh_tokens.proofs.FrontLaws.{EndsAscii, form_at-ends}

-- a form that the characters of a text follow ends where one of them begins
abbrev pub EndsOpening : Found → ℕ → List ℕ → Type 0
EndsOpening (Is (kinds.TextOpen f)) m bs = IsCharBoundary bs m
EndsOpening (Is kinds.InterpolationClose) m bs = IsCharBoundary bs m
EndsOpening found m bs = Unit {0}

whole_outside : (kind : TokenKind) (at m : ℕ) (bs : List ℕ) → EndsOpening (Is kind) m bs → IsWhole (place_after kind at Outside) m bs
whole_outside (kinds.TextOpen f) at m bs h = h
whole_outside (kinds.Mark marks.BraceOpen) at m bs h = tt
whole_outside (kinds.Mark marks.BraceClose) at m bs h = tt
whole_outside (kinds.Mark mark) at m bs h = tt
whole_outside kind at m bs h = tt

whole_interpolated : (kind : TokenKind) (braces : ℕ) (f : TextForm) (from : ℕ) (place : Place) (at m : ℕ) (bs : List ℕ) → EndsOpening (Is kind) m bs → IsWhole (place_after kind at (Interpolated braces f from place)) m bs
whole_interpolated (kinds.TextOpen g) braces f from place at m bs h = h
whole_interpolated kinds.InterpolationClose braces f from place at m bs h = h
whole_interpolated (kinds.Mark marks.BraceOpen) braces f from place at m bs h = tt
whole_interpolated (kinds.Mark marks.BraceClose) braces f from place at m bs h = tt
whole_interpolated (kinds.Mark mark) braces f from place at m bs h = tt
whole_interpolated kind braces f from place at m bs h = tt

-- every place is whole where a character begins
whole_anywhere : (place : Place) (m : ℕ) (bs : List ℕ) → IsCharBoundary bs m → IsWhole place m bs
whole_anywhere Outside m bs h = tt
whole_anywhere (Interpolated braces f from place) m bs h = tt
whole_anywhere (Among f from place) m bs h = h

-- where a form ends whose place is this one
abbrev pub Ends : Place → Found → ℕ → List ℕ → Type 0
Ends (Among f from place) White m bs = IsCharBoundary bs m
Ends (Among f from place) SkippedLine m bs = IsCharBoundary bs m
Ends (Among f from place) (Is kind) m bs = IsCharBoundary bs m
Ends (Among f from place) found m bs = Unit {0}
Ends Outside found m bs = EndsOpening found m bs
Ends (Interpolated braces f from place) found m bs = EndsOpening found m bs

whole_after : (kind : TokenKind) (place : Place) (at m : ℕ) (bs : List ℕ) → Ends place (Is kind) m bs → IsWhole (place_after kind at place) m bs
whole_after kind Outside at m bs h = whole_outside kind at m bs h
whole_after kind (Interpolated braces f from place) at m bs h = whole_interpolated kind braces f from place at m bs h
whole_after kind (Among f from place) at m bs h = whole_anywhere (place_after kind at (Among f from place)) m bs h

whole_blank : (place : Place) (m : ℕ) (bs : List ℕ) → Ends place White m bs → IsWhole place m bs
whole_blank Outside m bs h = tt
whole_blank (Interpolated braces f from place) m bs h = tt
whole_blank (Among f from place) m bs h = h

whole_line : (place : Place) (m : ℕ) (bs : List ℕ) → Ends place SkippedLine m bs → IsWhole place m bs
whole_line Outside m bs h = tt
whole_line (Interpolated braces f from place) m bs h = tt
whole_line (Among f from place) m bs h = h

-- the place after a step is whole
abbrev pub IsWholeAfter : Step → ℕ → List ℕ → Type 0
IsWholeAfter (Stops fault) m bs = Unit {0}
IsWholeAfter (Skips t n) m bs = IsWhole t.place m bs
IsWholeAfter (Gives token t n) m bs = IsWhole t.place m bs

chosen-whole : (wide : truth.Bool) (x y : Step) (m : ℕ) (bs : List ℕ) → IsWholeAfter x m bs → IsWholeAfter y m bs → IsWholeAfter (if wide then x else y) m bs
chosen-whole true x y m bs h k = h
chosen-whole false x y m bs h k = k

token-whole : (s : State) (at : ℕ) (kind : TokenKind) (n m : ℕ) (bs : List ℕ) → IsWhole (place_after kind at s.place) m bs → IsWholeAfter (token_step s at kind n) m bs
token-whole s at kind n m bs h =
    let token : Token = record { kind = kind; from = at; to = at + n; gap = s.gap } in
    let after : State = record { place = place_after kind at s.place; before = before_after kind s.before; gap = false } in
    chosen-whole (is_wide_index s.before kind) (Stops (Wide at)) (Gives token after n) m bs tt h

pub step-whole : (s : State) (at : ℕ) (found : Found) (n m : ℕ) (bs : List ℕ) → Ends s.place found m bs → IsWholeAfter (step s at found n) m bs
step-whole s at White n m bs h = whole_blank s.place m bs h
step-whole s at SkippedLine n m bs h = whole_line s.place m bs h
step-whole s at (Is kind) n m bs h = token-whole s at kind n m bs (whole_after kind s.place at m bs h)
step-whole s at LeftOut n m bs h = tt
step-whole s at TooWide n m bs h = tt
step-whole s at (Faulty k) n m bs h = tt
step-whole s at Unclosed n m bs h = tt

ascii_at : (at n : ℕ) (text : List ℕ) → IsUtf8 text → at < length text → n ≤ length text - at → 0 < n → get_or (drop at text) (n - 1) 0 < 128 → IsCharBoundary text (at + n)
ascii_at at n text u here within some low =
    let byte : get_or (drop at text) (n - 1) 0 ≡ get_or text (at + (n - 1)) 0 = get_or-drop at text (n - 1) 0 in
    let place : at + (n - 1) + 1 ≡ at + n = omega (arith, some) in
    let P : ℕ → Type 0 = λ k. IsCharBoundary text k in
    subst P place (IsCharBoundary-after_ascii text (at + (n - 1)) u (omega (arith, here, within, some)) (omega (arith, byte, low)))

-- the byte before the place tells where a text's characters begin
opening_at : (found : Found) (at n : ℕ) (text : List ℕ) → IsUtf8 text → at < length text → n ≤ length text - at → EndsAscii (drop at text) found n → EndsOpening found (at + n) text
opening_at (Is (kinds.TextOpen g)) at n text u here within h = ascii_at at n text u here within h.0 h.1
opening_at (Is kinds.InterpolationClose) at n text u here within h = ascii_at at n text u here within h.0 h.1
opening_at found at n text u here within h = tt

-- among the characters of a text
character_at : (found' : Read) (at n : ℕ) (text : List ℕ) (f : TextForm) (from : ℕ) (place : Place) → at < length text → EndsCharacter found' n (drop at text) → Ends (Among f from place) (found_of found') (at + n) text
character_at found.White at n text f from place here h = IsCharBoundary-from_rest text at n (omega (arith, here)) h
character_at found.SkippedLine at n text f from place here h = IsCharBoundary-from_rest text at n (omega (arith, here)) h
character_at (found.Is kind) at n text f from place here h = IsCharBoundary-from_rest text at n (omega (arith, here)) h
character_at found.LeftOut at n text f from place here h = tt
character_at found.TooWide at n text f from place here h = tt
character_at (found.Faulty further) at n text f from place here h = tt
character_at found.Unclosed at n text f from place here h = tt

-- where a form that was read at an offset ends
pub ends_at : (text : List ℕ) (before : Before) (place : Place) (found' : Read) (at n : ℕ) → IsUtf8 text → at < length text → n ≤ length text - at
    → record { found = found_of found'; len = n } ≡ form_at before place (drop at text) → EndsAmong place found' n (drop at text) → Ends place (found_of found') (at + n) text
ends_at text before Outside found' at n u here within e h =
    let P : Form → Type 0 = λ f. EndsAscii (drop at text) f.found f.len in
    opening_at (found_of found') at n text u here within (subst P (sym e) (form_at-ends before Outside (drop at text) (λ b. b)))
ends_at text before (Interpolated braces f from place) found' at n u here within e h =
    let P : Form → Type 0 = λ f. EndsAscii (drop at text) f.found f.len in
    opening_at (found_of found') at n text u here within (subst P (sym e) (form_at-ends before (Interpolated braces f from place) (drop at text) (λ b. b)))
ends_at text before (Among f from place) found' at n u here within e h = character_at found' at n text f from place here h
