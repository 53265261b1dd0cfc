use Rattle.std.proofs.Common.{ap, sym, ◌∙◌}
use Rattle.dh_syntax.specs.Text.Lexing.{Outside, form_at}
use Rattle.dh_tokens.specs.declared.states.Before.TheVariants as befores
use Rattle.dh_tokens.specs.Inside.Forms.{form_of}
use Rattle.dh_tokens.specs.Inside.LongestForms.{front_form}
use Rattle.dh_tokens.specs.Inside.States.{before_of}
use Rattle.dh_tokens.proofs.PlaceForms.{ok_as}
use Rattle.dh_tokens.proofs.ReadingLaws.{front-later}
use Rattle.dh_tokens.proofs.reading.outside.Goals as goal

pub returns-in-AName-clause-value : goal.returns-in-AName-clause-value
returns-in-AName-clause-value c =
    let bs = c.args.rest.now in
    ok_as c.code.result form_of (front_form bs) (form_at (before_of c.args.before) Outside bs) c.code.ensures.value (front-later befores.AName bs tt ∙ ap (λ b. form_at (before_of b) Outside bs) (sym c.in-AName.is))

pub returns-in-NameAt-clause-value : goal.returns-in-NameAt-clause-value
returns-in-NameAt-clause-value c =
    let bs = c.args.rest.now in
    ok_as c.code-in-NameAt.result form_of (front_form bs) (form_at (before_of c.args.before) Outside bs) c.code-in-NameAt.ensures.value (front-later befores.NameAt bs tt ∙ ap (λ b. form_at (before_of b) Outside bs) (sym c.in-NameAt.is))

pub returns-in-Other-clause-value : goal.returns-in-Other-clause-value
returns-in-Other-clause-value c =
    let bs = c.args.rest.now in
    ok_as c.code-in-Other.result form_of (front_form bs) (form_at (before_of c.args.before) Outside bs) c.code-in-Other.ensures.value (front-later befores.Other bs tt ∙ ap (λ b. form_at (before_of b) Outside bs) (sym c.in-Other.is))
