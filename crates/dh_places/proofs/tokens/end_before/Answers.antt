use Rattle.dh_places.proofs.TokenLists.{ends_first}
use Rattle.dh_places.proofs.tokens.end_before.Goals as goal

pub returns-in-None : goal.returns-in-None
returns-in-None c = ends_first c.args.tokens.now c.args.number c.in-None.ensures
