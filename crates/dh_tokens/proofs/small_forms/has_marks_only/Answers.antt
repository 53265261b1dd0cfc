use Rattle.std.proofs.Common.{ℕ, nat_eq, slice_index, IsTrue, ap, subst, sym, ◌∙◌}
use Rattle.std.proofs.lemmas.Bool.{eqb-true, not-true}
use Rattle.std.specs.Char.{is_ascii_digit}
use Rattle.dh_syntax.specs.Text.Characters.{first}
use Rattle.dh_tokens.specs.Inside.Fronts.{is_first}
use Rattle.dh_tokens.specs.Inside.SmallForms.{BeginsNoPath}
use Rattle.dh_tokens.proofs.FrontClassLaws.{code_form-other}
use Rattle.dh_tokens.proofs.LongestLaws.{longest_form-is}
use Rattle.dh_tokens.proofs.SmallWords.{brace-marks, minus-marks, pathless-marks, plus-marks}
use Rattle.dh_tokens.proofs.small_forms.has_marks_only.Goals as goal

pub returns-in-Other : goal.returns-in-Other
returns-in-Other c =
    let bs = c.args.rest.now in
    let h = subst (λ k. IsTrue (is_first k (first bs))) c.in-Other.is c.requires.kind in
    λ yes'. longest_form-is bs ∙ code_form-other bs c.requires.some h

pub returns-in-Brace : goal.returns-in-Brace
returns-in-Brace c =
    let bs = c.args.rest.now in
    let h = subst (λ k. IsTrue (is_first k (first bs))) c.in-Brace.is c.requires.kind in
    λ yes'. brace-marks bs (eqb-true (first bs) 123 h) (sym (ap (λ k. nat_eq k 45) c.byte_at-second.ensures) ∙ not-true (nat_eq c.byte_at-second.result 45) yes')

pub returns-in-Minus : goal.returns-in-Minus
returns-in-Minus c =
    let bs = c.args.rest.now in
    let h = subst (λ k. IsTrue (is_first k (first bs))) c.in-Minus.is c.requires.kind in
    λ yes'. minus-marks bs (eqb-true (first bs) 45 h) (sym c.byte_at-second.ensures ∙ eqb-true c.byte_at-second.result 62 yes')

pub returns-in-Plus : goal.returns-in-Plus
returns-in-Plus c =
    let bs = c.args.rest.now in
    let h = subst (λ k. IsTrue (is_first k (first bs))) c.in-Plus.is c.requires.kind in
    λ yes'. plus-marks bs (eqb-true (first bs) 43 h) (sym (ap is_ascii_digit c.byte_at-second.ensures) ∙ sym c.is_ascii_digit.ensures.value ∙ not-true c.is_ascii_digit.result yes')

pub returns-in-Path : goal.returns-in-Path
returns-in-Path c =
    let bs = c.args.rest.now in
    let P : ℕ → Type 0 = λ a. BeginsNoPath a c.byte_at-second.result in
    let Q : ℕ → Type 0 = λ b. BeginsNoPath (slice_index bs 0) b in
    λ yes'. pathless-marks bs (subst Q c.byte_at-second.ensures (subst P c.byte_at.ensures (c.begin_no_path.ensures yes')))
