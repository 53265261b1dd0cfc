-- The form at a place by what is open last.
use Rattle.std.proofs.Common.{◌≡◌, ℕ, zero, suc, ◌-◌, ◌<◌, Bool, true, false, not, eqb, ◌==◌, List, [], ◌∷◌, length, take, slice_get, Option, Some, None, Result, Ok, Err, IsTrue, refl, sym, ap, subst, ◌∙◌, arith}
use Rattle.std.proofs.lemmas.Bool.{false≢true}
use Rattle.std.proofs.lemmas.Bool.Decides.{nat_tests}
use Rattle.std.specs.Borrow.{Bor}
use Rattle.std.specs.Option.{is_some, option_copied}
use Rattle.std.specs.Result.{IfOk}
use Rattle.dh_syntax.specs.declared.tokens.TextForm.{TextForm}
use Rattle.dh_syntax.specs.Text.Lexing.{Before, Place, Outside, Interpolated, Among, form_at}
use Rattle.dh_tokens.specs.declared.forms.Form as forms
use Rattle.dh_tokens.specs.declared.forms.Found.{Found}
use Rattle.dh_tokens.specs.declared.places.Literal.{Literal}
use Rattle.dh_tokens.specs.declared.places.Open.{Open}
use Rattle.dh_tokens.specs.declared.places.Open.TheVariants as opens
use Rattle.dh_tokens.specs.Inside.LongestForms.{front_form, interpolated_form}
use Rattle.dh_tokens.proofs.FrontLaws.{IsAmong}
use Rattle.dh_tokens.specs.Inside.Places.{EndsAmong, IsRooted, braced, opening, placed, within}

-- what is open last is open in all of the others
pub last_open : (os : List Open) (o : Open) (p : Place) → Some o ≡ slice_get os (length os - 1) → within os p ≡ opening o (within (take (length os - 1) os) p)
last_open [] o p e = absurd (cc)
last_open (x ∷ []) o p e = let same : Some o ≡ Some x = e in cc
last_open (x ∷ y ∷ ys) o p e =
    let last : suc (suc (length ys)) - 1 ≡ suc (length ys) = omega arith in
    let inner : suc (length ys) - 1 ≡ length ys = omega arith in
    let shorter : slice_get (x ∷ y ∷ ys) (suc (suc (length ys)) - 1) ≡ slice_get (y ∷ ys) (suc (length ys) - 1) = ap (slice_get (x ∷ y ∷ ys)) last ∙ ap (slice_get (y ∷ ys)) (sym inner) in
    let front : take (suc (length ys) - 1) (y ∷ ys) ≡ take (length ys) (y ∷ ys) = ap (λ n. take n (y ∷ ys)) inner in
    last_open (y ∷ ys) o (opening x p) (e ∙ shorter) ∙ ap (λ os. opening o (within os (opening x p))) front ∙ sym (ap (λ n. opening o (within (take n (x ∷ y ∷ ys)) p)) last)

-- a place in an interpolation
abbrev pub IsInside : Place → Type 0
IsInside Outside = ⊥
IsInside (Interpolated braces f from place) = Unit {0}
IsInside (Among f from place) = ⊥

opening-inside : (o : Open) (p : Place) → IsInside p → IsInside (opening o p)
opening-inside (opens.Interpolation l) p h = tt
opening-inside opens.Brace Outside h = h
opening-inside opens.Brace (Interpolated braces f from place) h = tt
opening-inside opens.Brace (Among f from place) h = h

within-inside : (os : List Open) (p : Place) → IsInside p → IsInside (within os p)
within-inside [] p h = h
within-inside (o ∷ os) p h = within-inside os (opening o p) (opening-inside o p h)

-- where a brace is open last, the others are in an interpolation
before_brace : (os : List Open) → IsRooted os → Some opens.Brace ≡ slice_get os (length os - 1) → IsInside (within (take (length os - 1) os) Outside)
before_brace [] rooted e = absurd (cc)
before_brace (opens.Brace ∷ os) rooted e = absurd rooted
before_brace (opens.Interpolation l ∷ []) rooted e = let other : Some opens.Brace ≡ Some (opens.Interpolation l) = e in absurd (cc)
before_brace (opens.Interpolation l ∷ o ∷ os) rooted e =
    let last : suc (length os) ≡ suc (suc (length os)) - 1 = omega arith in
    subst (λ n. IsInside (within (take n (opens.Interpolation l ∷ o ∷ os)) Outside)) last (within-inside (take (length os) (o ∷ os)) (Interpolated zero l.form l.from Outside) tt)

interpolated_form-is : (before : Before) (f : TextForm) (from : ℕ) (place : Place) (bs : List ℕ) → form_at before (Interpolated zero f from place) bs ≡ interpolated_form bs
unfolding front_form
interpolated_form-is before f from place bs = refl

pub in_interpolation : (before : Before) (os : List Open) (l : Literal) (bs : List ℕ) → Some (opens.Interpolation l) ≡ slice_get os (length os - 1) → form_at before (placed None os) bs ≡ interpolated_form bs
in_interpolation before os l bs e = ap (λ p. form_at before p bs) (last_open os (opens.Interpolation l) Outside e) ∙ interpolated_form-is before l.form l.from (within (take (length os - 1) os) Outside) bs

in_brace : (before : Before) (p : Place) (bs : List ℕ) → IsInside p → form_at before (braced p) bs ≡ front_form bs
unfolding front_form
in_brace before Outside bs h = absurd h
in_brace before (Interpolated braces f from place) bs h = refl
in_brace before (Among f from place) bs h = absurd h

pub in_braces : (before : Before) (os : List Open) (bs : List ℕ) → IsRooted os → Some opens.Brace ≡ slice_get os (length os - 1) → form_at before (placed None os) bs ≡ front_form bs
in_braces before os bs rooted e = ap (λ p. form_at before p bs) (last_open os opens.Brace Outside e) ∙ in_brace before (within (take (length os - 1) os) Outside) bs (before_brace os rooted e)

-- nothing is open outside every text, and something in one
rooted-inside : (os : List Open) → IsRooted os → 0 < length os → IsInside (within os Outside)
rooted-inside [] rooted some = absurd (omega (arith, some))
rooted-inside (opens.Interpolation l ∷ os) rooted some = within-inside os (Interpolated zero l.form l.from Outside) tt
rooted-inside (opens.Brace ∷ os) rooted some = absurd rooted

pub none_open : (os : List Open) → IsRooted os → placed None os ≡ Outside → length os ≡ 0
none_open [] rooted e = refl
none_open (o ∷ os) rooted e = absurd (subst IsInside e (rooted-inside (o ∷ os) rooted (omega arith)))

some_open : (os : List Open) → suc (length os) ≡ 0 → ⊥
some_open os e = omega (arith, e)

never_empty : (os : List Open) → eqb (suc (length os)) 0 ≡ false
never_empty os = grind (arith, nat_tests)

outside_decided-by : (os : List Open) (none : Bool) → IsRooted os → none ≡ eqb (length os) 0 → (IsTrue none → placed None os ≡ Outside) × (placed None os ≡ Outside → IsTrue none)
outside_decided-by [] none rooted e = (λ h. refl, λ h. e)
outside_decided-by (o ∷ os) none rooted e = (λ h. absurd (false≢true (sym (never_empty os) ∙ sym e ∙ h)), λ h. absurd (some_open os (none_open (o ∷ os) rooted h)))

-- whether a place is outside every text, by whether something is open
pub outside_decided : (among : Option Literal) (os : List Open) (n : ℕ) (no_literal none : Bool) → IsRooted os → n ≡ length os → is_some among ≡ not no_literal → no_literal ≡ true → none ≡ (n == 0)
    → (IsTrue none → placed among os ≡ Outside) × (placed among os ≡ Outside → IsTrue none)
outside_decided None os n no_literal none rooted len e yes' empty = outside_decided-by os none rooted (empty ∙ ap (λ k. k == 0) len)
outside_decided (Some l) os n no_literal none rooted len e yes' empty = absurd (false≢true (sym (e ∙ ap not yes')))

-- what is open last, as it was asked for
pub last_item : (r : Option (Bor Open)) (os : List Open) (b : Bor Open) (o : Open) → option_copied r ≡ slice_get os (length os - 1) → r ≡ Some b → b.now ≡ o → Some o ≡ slice_get os (length os - 1)
last_item r os b o e is now = sym (ap Some now) ∙ sym (ap option_copied is) ∙ e

none≢some : {o : Open} → None ≡ Some o → ⊥
none≢some e = false≢true (ap is_some e)

gets_some : (o : Open) (os : List Open) → None ≡ slice_get (o ∷ os) (suc (length os) - 1) → ⊥
gets_some o [] e = none≢some (e)
gets_some o (p ∷ os) e =
    let last : suc (suc (length os)) - 1 ≡ suc (length os) = omega arith in
    let inner : suc (length os) - 1 ≡ length os = omega arith in
    gets_some p os (e ∙ ap (slice_get (o ∷ p ∷ os)) last ∙ ap (slice_get (p ∷ os)) (sym inner))

-- nothing is open last
pub nothing_last : (r : Option (Bor Open)) (os : List Open) → option_copied r ≡ slice_get os (length os - 1) → r ≡ None → os ≡ []
nothing_last r [] e is = refl
nothing_last r (o ∷ os) e is = absurd (gets_some o os (sym (ap option_copied is) ∙ e))

-- a read form equals what its form does
pub ok_as : {T E X : Type 0} (r : Result T E) (g : T → X) (x y : X) → IfOk r (λ f. g f ≡ x) → x ≡ y → IfOk r (λ f. g f ≡ y)
ok_as (Ok f) g x y h e = h ∙ e
ok_as (Err e') g x y h e = tt

opening-not_among : (o : Open) (p : Place) → ¬ IsAmong p → ¬ IsAmong (opening o p)
opening-not_among (opens.Interpolation l) p h = λ b. b
opening-not_among opens.Brace Outside h = λ b. b
opening-not_among opens.Brace (Interpolated braces f from place) h = λ b. b
opening-not_among opens.Brace (Among f from place) h = h

pub within-not_among : (os : List Open) (p : Place) → ¬ IsAmong p → ¬ IsAmong (within os p)
within-not_among [] p h = h
within-not_among (o ∷ os) p h = within-not_among os (opening o p) (opening-not_among o p h)

ends-between : (p : Place) (found : Found) (n : ℕ) (bs : List ℕ) → ¬ IsAmong p → EndsAmong p found n bs
ends-between Outside found n bs h = tt
ends-between (Interpolated braces f from place) found n bs h = tt
ends-between (Among f from place) found n bs h = absurd (h tt)

-- between the characters of texts nothing is asked of where a form ends
pub between-ends : {E : Type 0} (r : Result forms.Form E) (among : Option Literal) (os : List Open) (bs : List ℕ) → among ≡ None → IfOk r (λ f. EndsAmong (placed among os) f.found f.len bs)
between-ends (Ok f) among os bs e = subst (λ a. EndsAmong (placed a os) f.found f.len bs) (sym e) (ends-between (within os Outside) f.found f.len bs (within-not_among os Outside (λ b. b)))
between-ends (Err e') among os bs e = tt
