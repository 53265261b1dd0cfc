-- The steps of the reader of tokens.
use Rattle.std.proofs.Common.{◌≡◌, ℕ, ◌+◌, ◌-◌, ◌<◌, List, [], ◌∷◌, ◌++◌, length, drop, Option, Some, None, Ok, Err, refl, sym, ap, subst, ◌∙◌, length-drop, arith}
use Rattle.std.proofs.lemmas.List.{drop-drop}
use Rattle.std.specs.Str.{IsUtf8}
use Rattle.dh_syntax.specs.declared.tokens.Token.{Token}
use Rattle.dh_syntax.specs.Text.Lexing as lexing
use Rattle.dh_syntax.specs.Text.Lexing.{State, Step, Stops, Skips, Gives, form_at, step_at, tokens_from, with_token}
use Rattle.dh_tokens.specs.declared.faults.LexFault.{LexFault}
use Rattle.dh_tokens.specs.declared.faults.LexFault.TheVariants as faults
use Rattle.dh_tokens.specs.declared.forms.Form as forms
use Rattle.dh_tokens.specs.Inside.Forms.{form_of, found_of, IsSound, IsWithin}
use Rattle.dh_tokens.specs.Inside.Places.{EndsAmong, IsWhole, MayStand}
use Rattle.dh_tokens.specs.Reading.{IsFault, onto}
use Rattle.dh_tokens.specs.Inside.States.{StepIs}
use Rattle.dh_tokens.proofs.FrontLaws.{form_at-sound}
use Rattle.dh_tokens.proofs.PlaceLaws.{form_may_stand}
use Rattle.dh_tokens.proofs.ReadingLaws.{Takes, after_step, one_step, onto-one}
use Rattle.dh_tokens.proofs.WholeLaws.{IsWholeAfter, ends_at, step-whole}

-- a form that was read at an offset of a text
pub record FormRead (s : State) (at : ℕ) (text : List ℕ) (f : forms.Form) : Type 0 where
  pub utf8 : IsUtf8 text
  pub here : at < length text
  pub value : form_of f ≡ form_at s.before s.place (drop at text)
  pub within : IsWithin f (length text - at)
  pub whole : EndsAmong s.place f.found f.len (drop at text)

-- its fault stands within it
pub read-sound : (s : State) (at : ℕ) (text : List ℕ) (f : forms.Form) → FormRead s at text f → IsSound (form_of f)
read-sound s at text f r = subst IsSound (sym r.value) (form_at-sound s.before s.place (drop at text))

-- it may stand where it does
pub read-may_stand : (s : State) (at : ℕ) (text : List ℕ) (f : forms.Form) → FormRead s at text f → MayStand s.place (found_of f.found)
read-may_stand s at text f r = subst (λ g. MayStand s.place g.found) (sym r.value) (form_may_stand s.before s.place (drop at text))

read-step : (s : State) (at : ℕ) (text : List ℕ) (f : forms.Form) (step : Step) → FormRead s at text f → step_at s at (form_of f) ≡ step → Takes f.len step → tokens_from s 0 at (drop at text) ≡ after_step step at (drop at text)
read-step s at text f step r e takes =
    let same : step_at s at (form_at s.before s.place (drop at text)) ≡ step = ap (step_at s at) (sym r.value) ∙ e in
    let size : length (drop at text) ≡ length text - at = length-drop at text in
    one_step s at f.len (drop at text) r.within.0 (omega (arith, r.within.1, size)) (subst (Takes f.len) (sym same) takes) ∙ ap (λ st. after_step st at (drop at text)) same

-- a form that is no token
pub read-skips : (s t : State) (at : ℕ) (text : List ℕ) (f : forms.Form) → FormRead s at text f → step_at s at (form_of f) ≡ Skips t f.len → tokens_from s 0 at (drop at text) ≡ tokens_from t 0 (at + f.len) (drop (at + f.len) text)
read-skips s t at text f r e = read-step s at text f (Skips t f.len) r e refl ∙ ap (tokens_from t 0 (at + f.len)) (drop-drop f.len at text)

-- a form that is a token
pub read-gives : (s t : State) (token : Token) (at : ℕ) (text : List ℕ) (f : forms.Form) (made : List Token) → FormRead s at text f → step_at s at (form_of f) ≡ Gives token t f.len
    → onto made (tokens_from s 0 at (drop at text)) ≡ onto (made ++ token ∷ []) (tokens_from t 0 (at + f.len) (drop (at + f.len) text))
read-gives s t token at text f made r e =
    ap (onto made) (read-step s at text f (Gives token t f.len) r e refl ∙ ap (λ bs. with_token token (tokens_from t 0 (at + f.len) bs)) (drop-drop f.len at text))
    ∙ onto-one made token (tokens_from t 0 (at + f.len) (drop (at + f.len) text))

read-stops : (s : State) (at : ℕ) (text : List ℕ) (f : forms.Form) (fault : lexing.LexFault) → FormRead s at text f → step_at s at (form_of f) ≡ Stops fault → tokens_from s 0 at (drop at text) ≡ Err fault
read-stops s at text f fault r e = read-step s at text f (Stops fault) r e tt

-- a form that is a fault
pub read-fault : (s after : State) (at : ℕ) (text : List ℕ) (f : forms.Form) (fault : LexFault) → FormRead s at text f → StepIs (Err fault) after f.len (step_at s at (form_of f)) → IsFault (tokens_from s 0 at (drop at text)) fault
read-fault s after at text f (faults.Bad place) r h = read-stops s at text f (lexing.Bad place) r h
read-fault s after at text f (faults.Wide place) r h = read-stops s at text f (lexing.Wide place) r h
read-fault s after at text f (faults.Out place) r h = read-stops s at text f (lexing.Out place) r h
read-fault s after at text f faults.Memory r h = tt

read-whole : (s : State) (at : ℕ) (text : List ℕ) (f : forms.Form) → FormRead s at text f → IsWholeAfter (step_at s at (form_of f)) (at + f.len) text
read-whole s at text f r = step-whole s at (found_of f.found) f.len (at + f.len) text (ends_at text s.before s.place f.found at f.len r.utf8 r.here r.within.1 r.value r.whole)

-- what follows begins where a character does, where the characters of a text follow
pub skips-whole : (s t : State) (at : ℕ) (text : List ℕ) (f : forms.Form) → FormRead s at text f → step_at s at (form_of f) ≡ Skips t f.len → IsWhole t.place (at + f.len) text
skips-whole s t at text f r e = subst (λ step. IsWholeAfter step (at + f.len) text) e (read-whole s at text f r)

pub gives-whole : (s t : State) (token : Token) (at : ℕ) (text : List ℕ) (f : forms.Form) → FormRead s at text f → step_at s at (form_of f) ≡ Gives token t f.len → IsWhole t.place (at + f.len) text
gives-whole s t token at text f r e = subst (λ step. IsWholeAfter step (at + f.len) text) e (read-whole s at text f r)

-- what was passed, by its answer
pub pass_skips : (answer : Option Token) (t : State) (n : ℕ) (step : Step) → answer ≡ None → StepIs (Ok answer) t n step → step ≡ Skips t n
pass_skips answer t n step e h = subst (λ a. StepIs (Ok a) t n step) e h

pub pass_gives : (answer : Option Token) (token : Token) (t : State) (n : ℕ) (step : Step) → answer ≡ Some token → StepIs (Ok answer) t n step → step ≡ Gives token t n
pass_gives answer token t n step e h = subst (λ a. StepIs (Ok a) t n step) e h
