use Rattle.std.proofs.Common.{drop}
use Rattle.dh_tokens.proofs.PlaceForms.{between-ends}
use Rattle.dh_tokens.proofs.reading.form_at.Goals as goal

pub returns-in-None-clause-whole : goal.returns-in-None-clause-whole
returns-in-None-clause-whole c = between-ends c.between.result c.args.state.now.place.among c.args.state.now.place.open.items (drop c.args.at c.args.text.now) c.in-None.is
