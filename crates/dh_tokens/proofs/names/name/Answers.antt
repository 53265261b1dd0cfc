use Rattle.dh_tokens.specs.Inside.Forms.{found_of}
use Rattle.dh_tokens.proofs.NameLaws.{name_form, name_within}
use Rattle.dh_tokens.proofs.names.name.Goals as goal

pub returns-clause-value : goal.returns-clause-value
returns-clause-value c = name_form c.args.rest.now c.run-text.result.now (found_of c.in_ok-named.field-0) c.requires c.run-text.ensures c.in_ok-named.ensures

pub returns-clause-within : goal.returns-clause-within
returns-clause-within c = name_within c.args.rest.now c.run-text.result.now c.requires c.run-text.ensures
