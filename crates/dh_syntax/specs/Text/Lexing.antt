-- The tokens of a text: at each place the longest form is taken, from left to right (the lexical rules of `dhall.abnf`).
-- A text is its UTF-8 bytes.
use Rattle.std.specs.Prelude.{ℕ, zero, suc, pred, ◌+◌, ◌^◌, Bool, true, false, ◌||◌, List, [], ◌∷◌, ◌++◌, Option, Some, None, Result, Ok, Err, nat_le, ◌==◌, if◌then◌else◌}
use Rattle.std.specs.Char.{is_ascii}
use Rattle.std.specs.Str.{byte}
use Rattle.dh_syntax.specs.declared.tokens.Mark.TheVariants as marks
use Rattle.dh_syntax.specs.declared.tokens.TextForm.{TextForm}
use Rattle.dh_syntax.specs.declared.tokens.Token.{Token}
use Rattle.dh_syntax.specs.declared.tokens.TokenKind.{TokenKind}
use Rattle.dh_syntax.specs.declared.tokens.TokenKind.TheVariants as kinds
use Rattle.dh_syntax.specs.Text.Characters.{first, code_at, is_noncharacter}
use Rattle.dh_syntax.specs.Text.LexForms.{Found, White, SkippedLine, Is, LeftOut, TooWide, Faulty, Unclosed, Form, longest}
use Rattle.dh_syntax.specs.Text.LexGaps.{white_space, line_comment, block_comment, skipped_line}
use Rattle.dh_syntax.specs.Text.LexNames.{name, quoted_name, minus_infinity}
use Rattle.dh_syntax.specs.Text.LexNumbers.{natural, integer, double, signed_double, date, time, signed_time, binary, bytes_literal}
use Rattle.dh_syntax.specs.Text.LexTexts.{double_quoted_opening, multi_line_opening, text_part}
use Rattle.dh_syntax.specs.Text.LexLocations.{path, url, environment, digest}
use Rattle.dh_syntax.specs.Text.LexMarks.{mark}

-- why a text has no tokens, and the offset of the fault
pub data LexFault : Type 0 where
  -- no form fits
  Bad : ℕ → LexFault
  -- a number is beyond its range
  Wide : ℕ → LexFault
  -- a form is left out
  Out : ℕ → LexFault

-- white space and comments
abbrev pub gap_forms : List ℕ → List (Option Form)
gap_forms bs = white_space bs ∷ line_comment bs ∷ block_comment bs ∷ []

-- the forms of tokens
abbrev pub token_forms : List ℕ → List (Option Form)
token_forms bs =
    name bs ∷ quoted_name bs ∷ natural bs ∷ integer bs ∷ double_quoted_opening bs ∷ multi_line_opening bs
    ∷ path bs ∷ url bs ∷ environment bs ∷ digest bs ∷ mark bs ∷ []

-- the forms that are left out, but for those among the names, URLs and environment names
abbrev pub forms_left_out : List ℕ → List (Option Form)
forms_left_out bs =
    minus_infinity bs ∷ double bs ∷ signed_double bs ∷ date bs ∷ time bs ∷ signed_time bs ∷ binary bs ∷ bytes_literal bs ∷ []

-- the longest form outside the characters of texts
abbrev pub code_form : List ℕ → Option Form
code_form bs = longest (gap_forms bs ++ token_forms bs ++ forms_left_out bs)

-- where no form fits: a character past ASCII is left out, but for a non-character
abbrev pub no_form : List ℕ → Form
no_form bs = record { found = if is_ascii (first bs) || is_noncharacter (code_at bs) then Faulty 0 else LeftOut; len = 1 }

-- a form, or another one where there is none
abbrev pub form_or : Option Form → Form → Form
form_or None other = other
form_or (Some f) other = f

-- where a place stands
pub data Place : Type 0 where
  -- outside every text literal
  Outside : Place
  -- in an interpolation in which so many braces are open; its text has this form, opened there, and stands at that place
  Interpolated : ℕ → TextForm → ℕ → Place → Place
  -- among the characters of a text; its form, where it opened, and the place at which it stands
  Among : TextForm → ℕ → Place → Place

-- where the outermost text opened that is open at a place, or this offset where there is none
abbrev pub opened : ℕ → Place → ℕ
opened at Outside = at
opened at (Interpolated braces f from place) = opened from place
opened at (Among f from place) = opened from place

-- the place after a token that begins at this offset
abbrev pub place_after : TokenKind → ℕ → Place → Place
place_after (kinds.TextOpen f) at place = Among f at place
place_after kinds.TextClose at (Among f from place) = place
place_after kinds.InterpolationOpen at (Among f from place) = Interpolated zero f from place
place_after kinds.InterpolationClose at (Interpolated braces f from place) = Among f from place
place_after (kinds.Mark marks.BraceOpen) at (Interpolated braces f from place) = Interpolated (suc braces) f from place
place_after (kinds.Mark marks.BraceClose) at (Interpolated braces f from place) = Interpolated (pred braces) f from place
place_after kind at place = place

-- what stands before a place
pub data Before : Type 0 where
  -- nothing but skipped lines
  Start : Before
  -- a name, white space aside
  AName : Before
  -- a name and `@`, white space aside
  NameAt : Before
  Other : Before

-- what stands before the place after a token
abbrev pub before_after : TokenKind → Before → Before
before_after (kinds.Name x) before = AName
before_after (kinds.Quoted x) before = AName
before_after (kinds.Mark marks.At) AName = NameAt
before_after kind before = Other

-- what stands before the place after white space
abbrev pub before_after_white : Before → Before
before_after_white Start = Other
before_after_white before = before

-- an index beyond its range: a natural above 2^31 - 1 behind a name and `@`
abbrev pub is_wide_index : Before → TokenKind → Bool
is_wide_index NameAt (kinds.Natural n) = nat_le (2 ^ 31) n
is_wide_index before kind = false

-- how far the reading has come
pub record State : Type 0 where
  pub place : Place
  pub before : Before
  -- whether white space stands directly before, or nothing but skipped lines
  pub gap : Bool

-- the start of a text
abbrev pub start : State
start = record { place = Outside; before = Start; gap = true }

-- the form at the front, by what stands before and where the place stands
abbrev pub form_at : Before → Place → List ℕ → Form
form_at before (Among f from place) bs = form_or (text_part f bs) (no_form bs)
form_at before (Interpolated zero f from place) bs =
    if first bs == byte "}" then record { found = Is kinds.InterpolationClose; len = 1 }
    else form_or (code_form bs) (no_form bs)
form_at before (Interpolated (suc braces) f from place) bs = form_or (code_form bs) (no_form bs)
form_at Start Outside bs = form_or (skipped_line bs) (form_or (code_form bs) (no_form bs))
form_at before Outside bs = form_or (code_form bs) (no_form bs)

-- what a form does
pub data Step : Type 0 where
  Stops : LexFault → Step
  -- no token, then the state, so many bytes further on
  Skips : State → ℕ → Step
  Gives : Token → State → ℕ → Step

-- a token of so many bytes at an offset
abbrev pub token_step : State → ℕ → TokenKind → ℕ → Step
token_step s at kind len =
    if is_wide_index s.before kind then Stops (Wide at)
    else Gives (record { kind = kind; from = at; to = at + len; gap = s.gap })
    (record { place = place_after kind at s.place; before = before_after kind s.before; gap = false }) len

-- what a form of so many bytes does at an offset
abbrev pub step : State → ℕ → Found → ℕ → Step
step s at White len = Skips (record { place = s.place; before = before_after_white s.before; gap = true }) len
step s at SkippedLine len = Skips s len
step s at (Is kind) len = token_step s at kind len
step s at LeftOut len = Stops (Out at)
step s at TooWide len = Stops (Wide at)
step s at (Faulty further) len = Stops (Bad (at + further))
step s at Unclosed len = Stops (Bad (opened at s.place))

-- what a form does at an offset
abbrev pub step_at : State → ℕ → Form → Step
step_at s at f = step s at f.found f.len

-- the end token at the text's length, or the fault that a text is not closed
abbrev pub end_at : State → ℕ → Place → Result (List Token) LexFault
end_at s at Outside = Ok (record { kind = kinds.End; from = at; to = at; gap = s.gap } ∷ [])
end_at s at place = Err (Bad (opened at place))

-- a token before those that follow, where these have no fault
abbrev pub with_token : Token → Result (List Token) LexFault → Result (List Token) LexFault
with_token t (Ok ts) = Ok (t ∷ ts)
with_token t (Err fault) = Err fault

-- the tokens by the first step, and by those from a state on, so many bytes after the first one
abbrev pub by_step : Step → (State → ℕ → Result (List Token) LexFault) → Result (List Token) LexFault
by_step (Stops fault) rest = Err fault
by_step (Skips s n) rest = rest s (pred n)
by_step (Gives t s n) rest = with_token t (rest s (pred n))

-- the tokens of a text from a state on, where the front has this offset and the first so many bytes are read already
abbrev pub tokens_from : State → ℕ → ℕ → List ℕ → Result (List Token) LexFault
tokens_from s skip at [] = end_at s at s.place
tokens_from s (suc skip) at (b ∷ bs) = tokens_from s skip (suc at) bs
tokens_from s zero at (b ∷ bs) = by_step (step_at s at (form_at s.before s.place (b ∷ bs))) (λ t n. tokens_from t n (suc at) bs)

-- the tokens of a text
unfoldable pub lex : List ℕ → Result (List Token) LexFault
lex bs = tokens_from start 0 0 bs
