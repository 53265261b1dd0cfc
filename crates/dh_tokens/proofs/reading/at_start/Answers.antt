use Rattle.dh_syntax.specs.Text.Lexing.{Outside, Start, form_at}
use Rattle.dh_tokens.specs.Inside.Forms.{form_of}
use Rattle.dh_tokens.specs.Inside.LongestForms.{front_form}
use Rattle.dh_tokens.proofs.PlaceForms.{ok_as}
use Rattle.dh_tokens.proofs.ReadingLaws.{front-at_start}
use Rattle.dh_tokens.proofs.reading.at_start.Goals as goal

pub returns-else-starts_with-clause-value : goal.returns-else-starts_with-clause-value
returns-else-starts_with-clause-value c =
    let bs = c.args.rest.now in
    ok_as c.code.result form_of (front_form bs) (form_at Start Outside bs) c.code.ensures.value (front-at_start bs c.if-starts_with.ensures.value)
