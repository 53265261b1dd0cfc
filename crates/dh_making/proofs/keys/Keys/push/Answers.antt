use Rattle.dh_making.proofs.KeyLists.{keys_pushed}
use Rattle.dh_making.proofs.keys.Keys.push.Goals as goal

pub returns : goal.returns
returns c = keys_pushed _ _ _ _ c.in_ok-push.ensures.items
