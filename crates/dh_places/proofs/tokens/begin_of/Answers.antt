use Rattle.dh_places.proofs.TokenLists.{begins_there, begins_nowhere}
use Rattle.dh_places.proofs.tokens.begin_of.Goals as goal

pub returns-in-Some : goal.returns-in-Some
returns-in-Some c = begins_there c.args.tokens.now c.args.number c.in-Some.token.now c.in-Some.ensures.lookup.3.0 c.in-Some.ensures.lookup.1

pub returns-in-None : goal.returns-in-None
returns-in-None c = begins_nowhere c.args.tokens.now c.args.number c.in-None.ensures.lookup.3
