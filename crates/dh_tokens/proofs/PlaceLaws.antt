-- Places, and what is open in them.
use Rattle.std.proofs.Common.{◌≡◌, ℕ, zero, suc, ◌-◌, ◌+◌, ◌<◌, Bool, true, false, ◌||◌, if◌then◌else◌, nat_lt, List, [], ◌∷◌, ◌++◌, length, take, drop, get_or, Option, Some, None, refl, sym, ap, subst, ◌∙◌, arith}
use Rattle.std.proofs.Math.Seq.{drop-cons, take-length, take-suc}
use Rattle.std.proofs.lemmas.Option.{get_or_from_slice_get, slice_get_within}
use Rattle.std.specs.Char.{is_ascii}
use Rattle.std.specs.List.{slice_get}
use Rattle.std.specs.Option.{is_some}
use Rattle.dh_syntax.specs.declared.tokens.Mark.TheVariants as marks
use Rattle.dh_syntax.specs.declared.tokens.TextForm.{TextForm}
use Rattle.dh_syntax.specs.declared.tokens.TokenKind.{TokenKind}
use Rattle.dh_syntax.specs.declared.tokens.TokenKind.TheVariants as kinds
use Rattle.dh_syntax.specs.Text.Characters.{begins, code_at, first, is_noncharacter}
use Rattle.dh_syntax.specs.Text.LexForms.{Found, Is, LeftOut, Faulty, Form, form, stretching}
use Rattle.dh_syntax.specs.Text.LexTexts.{closing_len, piece_character}
use Rattle.dh_syntax.specs.Text.Stretches.{Stretch, UpTo, FaultAt, stretch}
use Rattle.dh_syntax.specs.Text.Lexing.{Before, Place, Outside, Interpolated, Among, form_at, form_or, no_form, opened, place_after}
use Rattle.dh_tokens.specs.declared.places.Literal.{Literal}
use Rattle.dh_tokens.specs.declared.places.Open.{Open}
use Rattle.dh_tokens.specs.declared.places.Open.TheVariants as opens
use Rattle.dh_tokens.specs.Inside.Places.{IsRooted, MayStand, OpensNoText, braced, opening, placed, within}

-- what is open innermost is opened last
pub within-last : (os : List Open) (o : Open) (p : Place) → within (os ++ (o ∷ [])) p ≡ opening o (within os p)
within-last [] o p = refl
within-last (x ∷ os) o p = within-last os o (opening x p)

-- a place that does not stand among the characters of a text
abbrev pub IsCode : Place → Type 0
IsCode Outside = Unit {0}
IsCode (Interpolated braces f from place) = Unit {0}
IsCode (Among f from place) = ⊥

code-opening : (o : Open) (p : Place) → IsCode p → IsCode (opening o p)
code-opening (opens.Interpolation l) p h = tt
code-opening opens.Brace Outside h = tt
code-opening opens.Brace (Interpolated braces f from place) h = tt
code-opening opens.Brace (Among f from place) h = absurd h

pub code-within : (os : List Open) (p : Place) → IsCode p → IsCode (within os p)
code-within [] p h = h
code-within (o ∷ os) p h = code-within os (opening o p) (code-opening o p h)

-- a text that closes changes nothing outside the characters of texts, and neither does an interpolation that opens
text_close-code : (at : ℕ) (p : Place) → IsCode p → place_after kinds.TextClose at p ≡ p
text_close-code at Outside h = refl
text_close-code at (Interpolated braces f from place) h = refl
text_close-code at (Among f from place) h = absurd h

pub text_close-within : (at : ℕ) (os : List Open) → place_after kinds.TextClose at (within os Outside) ≡ within os Outside
text_close-within at os = text_close-code at (within os Outside) (code-within os Outside tt)

interpolation_open-code : (at : ℕ) (p : Place) → IsCode p → place_after kinds.InterpolationOpen at p ≡ p
interpolation_open-code at Outside h = refl
interpolation_open-code at (Interpolated braces f from place) h = refl
interpolation_open-code at (Among f from place) h = absurd h

pub interpolation_open-within : (at : ℕ) (os : List Open) → place_after kinds.InterpolationOpen at (within os Outside) ≡ within os Outside
interpolation_open-within at os = interpolation_open-code at (within os Outside) (code-within os Outside tt)

-- an interpolation closes however many braces are open in it
pub interpolation_close-braced : (at : ℕ) (p : Place) → place_after kinds.InterpolationClose at (braced p) ≡ place_after kinds.InterpolationClose at p
interpolation_close-braced at Outside = refl
interpolation_close-braced at (Interpolated braces f from place) = refl
interpolation_close-braced at (Among f from place) = refl

pub brace_open-braced : (at : ℕ) (p : Place) → place_after (kinds.Mark marks.BraceOpen) at p ≡ braced p
brace_open-braced at Outside = refl
brace_open-braced at (Interpolated braces f from place) = refl
brace_open-braced at (Among f from place) = refl

pub brace_close-braced : (at : ℕ) (p : Place) → place_after (kinds.Mark marks.BraceClose) at (braced p) ≡ p
brace_close-braced at Outside = refl
brace_close-braced at (Interpolated braces f from place) = refl
brace_close-braced at (Among f from place) = refl

-- the outermost text is the one of the outermost interpolation
pub opened-within : (at : ℕ) (os : List Open) (braces from : ℕ) (l : Literal) (p : Place) → opened at (within os (Interpolated braces l.form from p)) ≡ opened from p
opened-within at [] braces from l p = refl
opened-within at (opens.Interpolation m ∷ os) braces from l p = opened-within at os zero m.from m (Interpolated braces l.form from p)
opened-within at (opens.Brace ∷ os) braces from l p = opened-within at os (suc braces) from l p

-- a place that stands among the characters of no text
pub placed-code : (among : Option Literal) (os : List Open) → is_some among ≡ false → placed among os ≡ within os Outside
placed-code None os none = refl
placed-code (Some l) os none = cc

-- what is open before the innermost, and that
pub last_split : (os : List Open) (o : Open) → slice_get os (length os - 1) ≡ Some o → os ≡ take (length os - 1) os ++ (o ∷ [])
last_split os o is =
    let n = length os - 1 in
    let before : n < length os = slice_get_within os n o is in
    let e : suc n ≡ length os = omega (arith, before) in
    sym (ap (λ k. take k os) e ∙ take-length os) ∙ take-suc os n o before ∙ ap (λ x. take n os ++ (x ∷ [])) (get_or_from_slice_get os n o o is)

pub popped : (os rest : List Open) (o : Open) → os ≡ rest ++ (o ∷ []) → within os Outside ≡ opening o (within rest Outside)
popped os rest o e = ap (λ x. within x Outside) e ∙ within-last rest o Outside

-- an interpolation that is gone from what is open
pub interpolation_popped : (at : ℕ) (os rest : List Open) (l : Literal) (place : Place)
    → os ≡ rest ++ (opens.Interpolation l ∷ []) → place_after kinds.InterpolationClose at (within os Outside) ≡ place_after kinds.InterpolationClose at place
    → Among l.form l.from (within rest Outside) ≡ place_after kinds.InterpolationClose at place
interpolation_popped at os rest l place e so_far = sym (ap (place_after kinds.InterpolationClose at) (popped os rest (opens.Interpolation l) e)) ∙ so_far

-- a brace that is gone from what is open
pub brace_popped : (at : ℕ) (os rest : List Open) → os ≡ rest ++ (opens.Brace ∷ [])
    → place_after kinds.InterpolationClose at (within rest Outside) ≡ place_after kinds.InterpolationClose at (within os Outside)
brace_popped at os rest e = sym (ap (place_after kinds.InterpolationClose at) (popped os rest opens.Brace e) ∙ interpolation_close-braced at (within rest Outside))

-- the outermost text, where an interpolation is the first that is not a brace
pub opened-from : (at index : ℕ) (os : List Open) (d : Open) (l : Literal) → index < length os → get_or os index d ≡ opens.Interpolation l
    → l.from ≡ opened at (within (drop index os) Outside)
opened-from at index os d l inside is =
    sym (ap (λ x. opened at (within x Outside)) (drop-cons os index d inside ∙ ap (λ x. x ∷ drop (suc index) os) is)
    ∙ opened-within at (drop (suc index) os) zero l.from l Outside)

pub opened-placed : (at : ℕ) (among : Option Literal) (os : List Open) (from : ℕ) → ((at : ℕ) → from ≡ opened at (within os Outside)) → from ≡ opened at (placed among os)
opened-placed at None os from h = h at
opened-placed at (Some l) os from h = h l.from

-- what is open outermost stays, and where it goes nothing is open
pub rooted_popped : (os rest : List Open) (o : Open) → os ≡ rest ++ (o ∷ []) → IsRooted os → IsRooted rest
rooted_popped os [] o e h = tt
rooted_popped os (opens.Interpolation l ∷ rest) o e h = tt
rooted_popped os (opens.Brace ∷ rest) o e h = subst (λ (x : List Open). IsRooted x) e h

-- no interpolation is open
pub interpolation_missing : (at : ℕ) (among before : Option Literal) (os rest all : List Open)
    → among ≡ None → is_some before ≡ false → os ≡ [] → rest ≡ []
    → place_after kinds.InterpolationClose at (within os Outside) ≡ place_after kinds.InterpolationClose at (within all Outside)
    → placed among rest ≡ place_after kinds.InterpolationClose at (placed before all)
interpolation_missing at among before os rest all none code os_is rest_is so_far =
    ap (λ a. placed a rest) none ∙ ap (λ x. within x Outside) rest_is
    ∙ sym (ap (λ x. place_after kinds.InterpolationClose at (within x Outside)) os_is) ∙ so_far
    ∙ sym (ap (place_after kinds.InterpolationClose at) (placed-code before all code))

-- an interpolation that opens from among the characters of its text
pub interpolation_pushed : (at : ℕ) (among : Option Literal) (os more : List Open) (l : Literal)
    → among ≡ Some l → more ≡ os ++ (opens.Interpolation l ∷ []) → within more Outside ≡ place_after kinds.InterpolationOpen at (placed among os)
interpolation_pushed at among os more l is more_is =
    popped more os (opens.Interpolation l) more_is ∙ sym (ap (λ a. place_after kinds.InterpolationOpen at (placed a os)) is)

-- no interpolation opens outside the characters of texts
pub no_interpolation_opens : (at : ℕ) (among : Option Literal) (os : List Open) → among ≡ None → placed among os ≡ place_after kinds.InterpolationOpen at (placed among os)
no_interpolation_opens at among os is =
    let e = ap (λ a. placed a os) is in
    e ∙ sym (ap (place_after kinds.InterpolationOpen at) e ∙ interpolation_open-within at os)

-- a brace that opens
pub brace_pushed : (at : ℕ) (among : Option Literal) (os more : List Open) → is_some among ≡ false → more ≡ os ++ (opens.Brace ∷ [])
    → placed among more ≡ place_after (kinds.Mark marks.BraceOpen) at (placed among os)
brace_pushed at among os more code more_is =
    placed-code among more code ∙ popped more os opens.Brace more_is ∙ sym (brace_open-braced at (within os Outside))
    ∙ sym (ap (place_after (kinds.Mark marks.BraceOpen) at) (placed-code among os code))

-- a brace that closes
pub brace_closed : (at : ℕ) (among : Option Literal) (os rest : List Open) → is_some among ≡ false → slice_get os (length os - 1) ≡ Some opens.Brace
    → rest ≡ take (length os - 1) os → placed among rest ≡ place_after (kinds.Mark marks.BraceClose) at (placed among os)
brace_closed at among os rest code last_is rest_is =
    let e = placed-code among os code ∙ popped os (take (length os - 1) os) opens.Brace (last_split os opens.Brace last_is) in
    ap (placed among) rest_is ∙ placed-code among (take (length os - 1) os) code
    ∙ sym (ap (place_after (kinds.Mark marks.BraceClose) at) e ∙ brace_close-braced at (within (take (length os - 1) os) Outside))

-- no brace closes directly in an interpolation
pub no_brace_closes : (at : ℕ) (among : Option Literal) (os : List Open) (l : Literal) → is_some among ≡ false
    → slice_get os (length os - 1) ≡ Some (opens.Interpolation l) → placed among os ≡ place_after (kinds.Mark marks.BraceClose) at (placed among os)
no_brace_closes at among os l code last_is =
    let e = placed-code among os code ∙ popped os (take (length os - 1) os) (opens.Interpolation l) (last_split os (opens.Interpolation l) last_is) in
    e ∙ sym (ap (place_after (kinds.Mark marks.BraceClose) at) e)

-- a text that closes, outside the characters of texts too
pub text_closes : (at : ℕ) (kind : TokenKind) (among : Option Literal) (os : List Open) → kind ≡ kinds.TextClose → within os Outside ≡ place_after kind at (placed among os)
text_closes at kind None os is = sym (ap (λ k. place_after k at (within os Outside)) is ∙ text_close-within at os)
text_closes at kind (Some l) os is = sym (ap (λ k. place_after k at (Among l.form l.from (within os Outside))) is)

-- a text that opens
pub text_opens : (at : ℕ) (kind : TokenKind) (f : TextForm) (among : Option Literal) (os : List Open) → MayStand (placed among os) (Is kind) → kind ≡ kinds.TextOpen f
    → Among f at (within os Outside) ≡ place_after kind at (placed among os)
text_opens at kind f None os may is = sym (ap (λ k. place_after k at (within os Outside)) is)
text_opens at kind f (Some l) os may is = absurd (subst (λ (k : TokenKind). OpensNoText (Is k)) is may)

-- the form at the front may stand there
form-opens : (found : Found) (n : ℕ) (other : Form) → OpensNoText found → OpensNoText other.found → OpensNoText (form_or (form found n) other).found
form-opens found zero other h none = none
form-opens found (suc n) other h none = h

part-opens : (closes interpolates : Bool) (n : ℕ) (s : Stretch) (other : Form) → OpensNoText other.found
    → OpensNoText (form_or (if closes then form (Is kinds.TextClose) n else if interpolates then form (Is kinds.InterpolationOpen) 2 else stretching (λ text. Is (kinds.TextPiece text)) 0 s) other).found
part-opens true interpolates n s other none = form-opens (Is kinds.TextClose) n other tt none
part-opens false true n s other none = tt
part-opens false false n (UpTo text m) other none = form-opens (Is (kinds.TextPiece text)) (0 + m) other tt none
part-opens false false n (FaultAt m) other none = tt

no_form-opens : (faulty : Bool) → OpensNoText (if faulty then Faulty 0 else LeftOut)
no_form-opens true = tt
no_form-opens false = tt

pub form_may_stand : (before : Before) (place : Place) (bs : List ℕ) → MayStand place (form_at before place bs).found
form_may_stand before Outside bs = tt
form_may_stand before (Interpolated braces f from place) bs = tt
form_may_stand before (Among f from place) bs =
    part-opens (nat_lt 0 (closing_len f bs)) (begins "${" bs) (closing_len f bs) (stretch (piece_character f) 0 bs) (no_form bs) (no_form-opens (is_ascii (first bs) || is_noncharacter (code_at bs)))
