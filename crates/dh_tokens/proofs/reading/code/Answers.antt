use Rattle.std.proofs.Common.{ap, sym, ◌∙◌}
use Rattle.std.specs.Option.{option_map}
use Rattle.dh_tokens.specs.Inside.Forms.{form_of}
use Rattle.dh_tokens.proofs.ReadingLaws.{front-some, front-none}
use Rattle.dh_tokens.proofs.reading.code.Goals as goal

pub returns-in-Some-clause-value : goal.returns-in-Some-clause-value
returns-in-Some-clause-value c = front-some c.args.rest.now (form_of c.in-Some.form) (sym (ap (option_map form_of) c.in-Some.is) ∙ c.in_ok-form.ensures.value)

pub returns-in-None-clause-value : goal.returns-in-None-clause-value
returns-in-None-clause-value c = front-none c.args.rest.now (form_of c.no_form.result) (sym (ap (option_map form_of) c.in-None.is) ∙ c.in_ok-form.ensures.value) c.no_form.ensures.value
