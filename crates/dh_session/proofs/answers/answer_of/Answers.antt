use Rattle.dh_session.proofs.Resolving.{resolves}
use Rattle.dh_session.proofs.answers.answer_of.Goals as goal

pub returns-clause-resolved : goal.returns-clause-resolved
returns-clause-resolved g c = resolves c.args.table c.by_history.ensures
