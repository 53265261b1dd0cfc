use Rattle.std.proofs.Common.{◌∙◌, sym, ap, option_map}
use Rattle.dh_tokens.specs.Inside.Forms.{form_of}
use Rattle.dh_tokens.proofs.FrontWords.{word-digest, word-environment, word-url}
use Rattle.dh_tokens.proofs.fronts.word.Goals as goal

pub returns-in-Some-clause-value : goal.returns-in-Some-clause-value
returns-in-Some-clause-value c = sym (word-url c.args.rest.now (form_of c.in-Some.url) (sym c.in_ok-url.ensures.value ∙ ap (option_map form_of) c.in-Some.is))

pub returns-in-Some-2-clause-value : goal.returns-in-Some-2-clause-value
returns-in-Some-2-clause-value c = sym (word-environment c.args.rest.now (form_of c.in-Some-2.environment) (sym c.in_ok-environment.ensures.value ∙ ap (option_map form_of) c.in-Some-2.is))

pub returns-in-Some-digest-clause-value : goal.returns-in-Some-digest-clause-value
returns-in-Some-digest-clause-value c = sym (word-digest c.args.rest.now (form_of c.in-Some-digest.digest) (sym c.in-Some-digest.ensures.value))
