use Rattle.dh_types.specs.Memos.{entry}
use Rattle.dh_types.proofs.memos.Memo.put.Goals as goal

pub returns-in-Ok : goal.returns-in-Ok
unfolding entry
returns-in-Ok g c = λ a b. c.in-Ok.ensures.updates.0 (a, b)
