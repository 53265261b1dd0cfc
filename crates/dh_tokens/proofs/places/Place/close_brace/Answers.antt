use Rattle.std.proofs.Common.{◌≡◌, ◌-◌, ◌∙◌, Some, ap, length, sym, subst, take, List}
use Rattle.std.specs.List.{slice_get}
use Rattle.dh_tokens.specs.declared.places.Open.{Open}
use Rattle.dh_tokens.proofs.PlaceLaws.{brace_closed, no_brace_closes}
use Rattle.dh_tokens.proofs.places.Place.close_brace.Goals as goal
use Rattle.dh_tokens.proofs.places.Place.close_brace.Goals.{After-last}

-- what was seen is the last of what is open
seen : (all os : List Open) (o found : Open) → all ≡ os → Some found ≡ slice_get all (length all - 1) → found ≡ o → slice_get os (length os - 1) ≡ Some o
seen all os o found same value is = subst (λ (x : List Open). slice_get x (length x - 1) ≡ Some o) same (sym value ∙ ap Some is)

pub returns-in-Some-Interpolation-clause-value : goal.returns-in-Some-Interpolation-clause-value
returns-in-Some-Interpolation-clause-value c = λ at.
    let last = seen c.deref.result.now c.args.self.now.open.items _ _ c.deref.ensures.value c.in-Some-Interpolation.ensures.value c.in-Some-Interpolation.field-0-is in
    no_brace_closes at c.args.self.now.among c.args.self.now.open.items _ (sym c.if-is_some.ensures) last

pub returns-in-Some-Brace-clause-value : goal.returns-in-Some-Brace-clause-value
returns-in-Some-Brace-clause-value c = λ at.
    let os = c.args.self.now.open.items in
    let last = seen c.deref.result.now os _ _ c.deref.ensures.value c.in-Some-Brace.ensures.value c.in-Some-Brace.field-0-is in
    let rest = c.pop-brace.ensures.rest ∙ ap (λ n. take (n - 1) os) c.args.self.now.open.ok.0 in
    brace_closed at c.args.self.now.among os c.pop-brace.new.self.items (sym c.if-is_some.ensures) last rest
