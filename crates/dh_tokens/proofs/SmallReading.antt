-- Steps of the reader over blanks and small forms.
use Rattle.std.proofs.Common.{◌≡◌, ℕ, zero, suc, ◌+◌, ◌-◌, ◌<◌, ◌≤◌, Bool, true, false, ◌||◌, ◌==◌, cond, if◌then◌else◌, List, [], ◌∷◌, ◌++◌, length, drop, Option, Some, None, IfSome, ◌⊎◌, refl, sym, ap, subst, ◌∙◌, inl, inr, arith}
use Rattle.std.proofs.lemmas.Bool.{eqb-true, or_cases}
use Rattle.std.proofs.lemmas.List.{drop-drop}
use Rattle.std.specs.List.{prefix_len}
use Rattle.std.specs.Str.{IsUtf8}
use Rattle.dh_syntax.specs.declared.tokens.Mark.{Mark}
use Rattle.dh_syntax.specs.declared.tokens.Mark.TheVariants as marks
use Rattle.dh_syntax.specs.declared.tokens.Token.{Token}
use Rattle.dh_syntax.specs.declared.tokens.TokenKind.{TokenKind}
use Rattle.dh_syntax.specs.declared.tokens.TokenKind.TheVariants as kinds
use Rattle.dh_syntax.specs.Text.LexForms.{White, Form}
use Rattle.dh_syntax.specs.Text.Lexing.{Before, Start, AName, NameAt, Other, Place, Outside, Interpolated, Among, State, Step, Stops, Skips, Gives, Wide, before_after, before_after_white, form_at, is_wide_index, place_after, step_at, tokens_from}
use Rattle.dh_tokens.specs.declared.forms.Form as forms
use Rattle.dh_tokens.specs.declared.forms.Found.TheVariants as found
use Rattle.dh_tokens.specs.declared.states.Before as befores
use Rattle.dh_tokens.specs.declared.states.Before.TheVariants as before
use Rattle.dh_tokens.specs.declared.places.Literal.{Literal}
use Rattle.dh_tokens.specs.declared.places.Open.{Open}
use Rattle.dh_tokens.specs.declared.small_forms.Small.{Small}
use Rattle.dh_tokens.specs.declared.small_forms.Small.TheVariants as smalls
use Rattle.dh_tokens.specs.Inside.LongestForms.{front_form, longest_form}
use Rattle.dh_tokens.specs.Inside.Places.{EndsAmong, IsWhole, placed, within}
use Rattle.dh_tokens.specs.Inside.SmallForms.{IsOrdinary, TakesSmall, is_blank, small, small_kind}
use Rattle.dh_tokens.specs.Inside.States.{before_of}
use Rattle.dh_tokens.specs.Reading.{onto}
use Rattle.dh_tokens.proofs.FrontLaws.{IsAmong}
use Rattle.dh_tokens.proofs.PlaceForms.{within-not_among}
use Rattle.dh_tokens.proofs.ReadingLaws.{Takes, after_step, front-later, front-some, one_step}
use Rattle.dh_tokens.proofs.ReadingSteps.{FormRead, read-gives}

-- blanks

abbrev white : Form
white = record { found = White; len = 1 }

space-form : (before : Before) (p : Place) (bs : List ℕ) → ¬ IsAmong p → form_at before p (32 ∷ bs) ≡ white
space-form Start Outside bs h = refl
space-form AName Outside bs h = refl
space-form NameAt Outside bs h = refl
space-form Other Outside bs h = refl
space-form before (Interpolated zero f from place) bs h = refl
space-form before (Interpolated (suc braces) f from place) bs h = refl
space-form before (Among f from place) bs h = absurd (h tt)

tab-form : (before : Before) (p : Place) (bs : List ℕ) → ¬ IsAmong p → form_at before p (9 ∷ bs) ≡ white
tab-form Start Outside bs h = refl
tab-form AName Outside bs h = refl
tab-form NameAt Outside bs h = refl
tab-form Other Outside bs h = refl
tab-form before (Interpolated zero f from place) bs h = refl
tab-form before (Interpolated (suc braces) f from place) bs h = refl
tab-form before (Among f from place) bs h = absurd (h tt)

feed-form : (before : Before) (p : Place) (bs : List ℕ) → ¬ IsAmong p → form_at before p (10 ∷ bs) ≡ white
feed-form Start Outside bs h = refl
feed-form AName Outside bs h = refl
feed-form NameAt Outside bs h = refl
feed-form Other Outside bs h = refl
feed-form before (Interpolated zero f from place) bs h = refl
feed-form before (Interpolated (suc braces) f from place) bs h = refl
feed-form before (Among f from place) bs h = absurd (h tt)

blank-form : (before : Before) (p : Place) (b : ℕ) (bs : List ℕ) → ¬ IsAmong p → is_blank b ≡ true → form_at before p (b ∷ bs) ≡ white
blank-form before p b bs h e =
    let P : ℕ → Type 0 = λ k. form_at before p (k ∷ bs) ≡ white in
    elim (or_cases (b == 32 || b == 9) (b == 10) e) [
      | inl others ↦ elim (or_cases (b == 32) (b == 9) others) [
        | inl space ↦ subst P (sym (eqb-true b 32 space)) (space-form before p bs h)
        | inr tab ↦ subst P (sym (eqb-true b 9 tab)) (tab-form before p bs h)
      ]
      | inr feed ↦ subst P (sym (eqb-true b 10 feed)) (feed-form before p bs h)
    ]

-- the state behind white space
abbrev pub after_white : State → State
after_white s = record { place = s.place; before = before_after_white s.before; gap = true }

once : (before : Before) → before_after_white (before_after_white before) ≡ before_after_white before
once Start = refl
once AName = refl
once NameAt = refl
once Other = refl

white_once : (s : State) → after_white (after_white s) ≡ after_white s
white_once s =
    let state : Before → State = λ b. record { place = s.place; before = b; gap = true } in
    ap state (once s.before)

blank-step : (s : State) (at b : ℕ) (bs : List ℕ) → ¬ IsAmong s.place → is_blank b ≡ true → tokens_from s 0 at (b ∷ bs) ≡ tokens_from (after_white s) 0 (at + 1) bs
blank-step s at b bs h e =
    let is : step_at s at (form_at s.before s.place (b ∷ bs)) ≡ Skips (after_white s) 1 = ap (step_at s at) (blank-form s.before s.place b bs h e) in
    one_step s at 1 (b ∷ bs) (omega arith) (omega arith) (subst (Takes 1) (sym is) refl) ∙ ap (λ st. after_step st at (b ∷ bs)) is

runs_on : (p : ℕ → Bool) (b n : ℕ) (bs : List ℕ) (yes' : Bool) → p b ≡ yes' → suc n ≤ cond yes' (1 + prefix_len p bs) 0 → (p b ≡ true) × (n ≤ prefix_len p bs)
runs_on p b n bs true e h = (e, omega (arith, h))
runs_on p b n bs false e h = absurd (omega (arith, h))

-- blanks are passed at once
pub blanks-read : (s : State) (at n : ℕ) (bs : List ℕ) → ¬ IsAmong s.place → 0 < n → n ≤ prefix_len is_blank bs → tokens_from s 0 at bs ≡ tokens_from (after_white s) 0 (at + n) (drop n bs)
blanks-read s at zero bs h some few = absurd (omega (arith, some))
blanks-read s at (suc n) [] h some few = absurd (omega (arith, few))
blanks-read s at (suc zero) (b ∷ bs) h some few = blank-step s at b bs h (runs_on is_blank b 0 bs (is_blank b) refl few).0
blanks-read s at (suc (suc n)) (b ∷ bs) h some few =
    let more = runs_on is_blank b (suc n) bs (is_blank b) refl few in
    let e : at + 1 + suc n ≡ at + suc (suc n) = omega arith in
    blank-step s at b bs h more.0
    ∙ blanks-read (after_white s) (at + 1) (suc n) bs h (omega arith) more.1
    ∙ ap (λ t. tokens_from t 0 (at + 1 + suc n) (drop (suc n) bs)) (white_once s)
    ∙ ap (λ k. tokens_from (after_white s) 0 k (drop (suc n) bs)) e

-- between the characters of texts
pub not_among : (among : Option Literal) (os : List Open) → among ≡ None → ¬ IsAmong (placed among os)
not_among among os e = subst (λ a. ¬ IsAmong (placed a os)) (sym e) (within-not_among os Outside (λ h. h))

whole-between : (p : Place) (at : ℕ) (bs : List ℕ) → ¬ IsAmong p → IsWhole p at bs
whole-between Outside at bs h = tt
whole-between (Interpolated braces f from place) at bs h = tt
whole-between (Among f from place) at bs h = absurd (h tt)

pub blanks-whole : (p q : Place) (at : ℕ) (bs : List ℕ) → q ≡ p → ¬ IsAmong p → IsWhole q at bs
blanks-whole p q at bs e h = subst (λ r. IsWhole r at bs) (sym e) (whole-between p at bs h)

-- the state behind blanks, part by part
pub state-after_white : (s t : State) → t.place ≡ s.place → t.before ≡ before_after_white s.before → t.gap ≡ true → after_white s ≡ t
state-after_white s t place before gap =
    let state : Place → Before → Bool → State = λ p b g. record { place = p; before = b; gap = g } in
    ap (λ p. state p (before_after_white s.before) true) (sym place) ∙ ap (λ b. state t.place b true) (sym before) ∙ ap (state t.place t.before) (sym gap)

pub blanks-onto : (s t : State) (at n : ℕ) (text : List ℕ) (made : List Token) → ¬ IsAmong s.place → 0 < n → n ≤ prefix_len is_blank (drop at text) → after_white s ≡ t
    → onto made (tokens_from s 0 at (drop at text)) ≡ onto made (tokens_from t 0 (at + n) (drop (at + n) text))
blanks-onto s t at n text made h some few e =
    ap (onto made) (blanks-read s at n (drop at text) h some few ∙ ap (λ u. tokens_from u 0 (at + n) (drop n (drop at text))) e ∙ ap (tokens_from t 0 (at + n)) (drop-drop n at text))

-- small forms

not_wide : (before : Before) (kind : TokenKind) → IsOrdinary before → is_wide_index before kind ≡ false
not_wide Start kind h = absurd h
not_wide AName kind h = refl
not_wide NameAt kind h = absurd h
not_wide Other kind h = refl

outside_mark : (m : Mark) (at : ℕ) → place_after (kinds.Mark m) at Outside ≡ Outside
outside_mark marks.BraceOpen at = refl
outside_mark marks.BraceClose at = refl
outside_mark m at = refl

stays_outside : (m : Small) (at : ℕ) → place_after (small_kind m) at Outside ≡ Outside
stays_outside (smalls.Name name) at = refl
stays_outside (smalls.Keyword keyword) at = refl
stays_outside (smalls.Bool truth) at = refl
stays_outside (smalls.Builtin builtin) at = refl
stays_outside (smalls.Natural n) at = refl
stays_outside (smalls.Mark mark) at = outside_mark mark at

-- the token of a small form, and the state behind it
pub record SmallPassed (s t : State) (m : Small × ℕ) (token : Token) (at : ℕ) : Type 0 where
  pub takes : TakesSmall s
  pub is : token ≡ record { kind = small_kind m.0; from = at; to = at + m.1; gap = s.gap }
  pub place : t.place ≡ s.place
  pub before : t.before ≡ before_after (small_kind m.0) s.before
  pub gap : t.gap ≡ false

small-step : (s t : State) (m : Small × ℕ) (token : Token) (at : ℕ) → SmallPassed s t m token at → step_at s at (small m) ≡ Gives token t m.1
small-step s t m token at p =
    let kind = small_kind m.0 in
    let read : Token = record { kind = kind; from = at; to = at + m.1; gap = s.gap } in
    let state : Place → Before → Bool → State = λ q b g. record { place = q; before = b; gap = g } in
    let gives : Token → State → Step = λ k u. Gives k u m.1 in
    let place_is : place_after kind at s.place ≡ t.place = ap (place_after kind at) p.takes.outside ∙ stays_outside m.0 at ∙ sym p.takes.outside ∙ sym p.place in
    ap (λ (b : Bool). if b then Stops (Wide at) else gives read (state (place_after kind at s.place) (before_after kind s.before) false)) (not_wide s.before kind p.takes.ordinary)
    ∙ ap (λ q. gives read (state q (before_after kind s.before) false)) place_is
    ∙ ap (λ b. gives read (state t.place b false)) (sym p.before)
    ∙ ap (λ g. gives read (state t.place t.before g)) (sym p.gap)
    ∙ ap (λ k. gives k t) (sym p.is)

-- a small form as a form of the program
abbrev pub small_read : Small × ℕ → forms.Form
small_read m = record { found = found.Is (small_kind m.0); len = m.1 }

pub small-form : (s : State) (at : ℕ) (text : List ℕ) (m : Small × ℕ) → IsUtf8 text → at < length text → TakesSmall s → small m ≡ form_at s.before s.place (drop at text) → (0 < m.1) × (m.1 ≤ length text - at)
    → FormRead s at text (small_read m)
small-form s at text m utf8 here takes value within =
    record { utf8 = utf8; here = here; value = value; within = within; whole = subst (λ p. EndsAmong p (found.Is (small_kind m.0)) m.1 (drop at text)) (sym takes.outside) tt }

pub small-onto : (s t : State) (m : Small × ℕ) (token : Token) (at : ℕ) (text : List ℕ) (made made' : List Token) → FormRead s at text (small_read m) → SmallPassed s t m token at → made' ≡ made ++ token ∷ []
    → onto made (tokens_from s 0 at (drop at text)) ≡ onto made' (tokens_from t 0 (at + m.1) (drop (at + m.1) text))
small-onto s t m token at text made made' read passed e =
    read-gives s t token at text (small_read m) made read (small-step s t m token at passed) ∙ ap (λ ts. onto ts (tokens_from t 0 (at + m.1) (drop (at + m.1) text))) (sym e)

pub small-whole : (s t : State) (at : ℕ) (text : List ℕ) → t.place ≡ s.place → TakesSmall s → IsWhole t.place at text
small-whole s t at text e takes = subst (λ p. IsWhole p at text) (sym (e ∙ takes.outside)) tt

-- where small forms may be read

pub ordinary-either : (b : befores.Before) → (b ≡ before.AName) ⊎ (b ≡ before.Other) → IsOrdinary (before_of b)
ordinary-either b h = elim h [
  | inl name ↦ subst (λ c. IsOrdinary (before_of c)) (sym name) tt
  | inr other ↦ subst (λ c. IsOrdinary (before_of c)) (sym other) tt
]

form-ordinary : (b : befores.Before) (bs : List ℕ) → IsOrdinary (before_of b) → front_form bs ≡ form_at (before_of b) Outside bs
form-ordinary before.Start bs h = absurd h
form-ordinary before.AName bs h = front-later before.AName bs tt
form-ordinary before.NameAt bs h = absurd h
form-ordinary before.Other bs h = front-later before.Other bs tt

-- a small form is the one that is read there
pub small-here : (b : befores.Before) (p : Place) (bs : List ℕ) (m : Small × ℕ) → IsOrdinary (before_of b) → p ≡ Outside → longest_form bs ≡ Some (small m) → small m ≡ form_at (before_of b) p bs
small-here b p bs m ordinary outside e = front-some bs (small m) (sym e) ∙ form-ordinary b bs ordinary ∙ sym (ap (λ q. form_at (before_of b) q bs) outside)

-- what holds of a value that may be there
pub some-more : {A : Type 0} (r : Option A) (P Q : A → Type 0) → ((x : A) → P x → Q x) → IfSome r P → IfSome r Q
some-more None P Q more h = tt
some-more (Some x) P Q more h = more x h
