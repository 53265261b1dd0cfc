use Rattle.std.proofs.Common.{◌≡◌, ℕ, List, drop, Some, IfSome, ap, subst, ◌∙◌}
use Rattle.dh_syntax.specs.Text.Lexing.{form_at}
use Rattle.dh_tokens.specs.declared.small_forms.Small.{Small}
use Rattle.dh_tokens.specs.Inside.LongestForms.{longest_form}
use Rattle.dh_tokens.specs.Inside.Places.{place_of}
use Rattle.dh_tokens.specs.Inside.SmallForms.{small}
use Rattle.dh_tokens.specs.Inside.States.{before_of}
use Rattle.dh_tokens.proofs.SmallReading.{small-here, some-more}
use Rattle.dh_tokens.proofs.reading.small_at.Goals as goal

pub returns-then-takes_small-clause-value : goal.returns-then-takes_small-clause-value
returns-then-takes_small-clause-value c =
    let s = c.args.state.now in
    let bs = drop c.args.at c.args.text.now in
    let takes = c.takes_small.ensures c.if-takes_small.true in
    let is : List ℕ → Small × ℕ → Type 0 = λ t m. longest_form t ≡ Some (small m) in
    let here : Small × ℕ → Type 0 = λ m. small m ≡ form_at (before_of s.before) (place_of s.place) bs in
    let Read : List ℕ → Type 0 = λ t. IfSome c.small_form.result (is t) in
    some-more c.small_form.result (is bs) here (λ m e. small-here s.before (place_of s.place) bs m takes.ordinary takes.outside e)
    (subst Read (c.after.ensures ∙ ap (drop c.args.at) c.as_bytes.ensures.value) c.small_form.ensures.value)
