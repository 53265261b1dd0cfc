use Rattle.dh_tokens.proofs.PlaceForms.{outside_decided}
use Rattle.dh_tokens.proofs.reading.is_outside.Goals as goal

pub returns-then-is_none : goal.returns-then-is_none
returns-then-is_none c = outside_decided c.args.place.now.among c.args.place.now.open.items c.args.place.now.open.len c.is_none.result c.is_empty.result c.requires.rooted c.args.place.now.open.ok.0 c.is_none.ensures c.if-is_none.true c.is_empty.ensures
