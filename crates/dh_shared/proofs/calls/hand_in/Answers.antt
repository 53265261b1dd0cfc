use Rattle.dh_shared.proofs.Rising.{hands_in}
use Rattle.dh_shared.proofs.calls.hand_in.Goals as goal

pub returns-in-Fetched : goal.returns-in-Fetched
returns-in-Fetched g c = hands_in c.args.ticket c.args.news c.args.table.now c.fetched.new.self c.fetched.result c.fetched.ensures.takes c.fetched.ensures.decided c.fetched.ensures.failures

pub returns-in-Looked : goal.returns-in-Looked
returns-in-Looked g c = hands_in c.args.ticket c.args.news c.args.table.now c.looked.new.self c.looked.result c.looked.ensures.takes c.looked.ensures.decided c.looked.ensures.failures

pub returns-in-Finished : goal.returns-in-Finished
returns-in-Finished g c = hands_in c.args.ticket c.args.news c.args.table.now c.finished.new.self c.finished.result c.finished.ensures.takes c.finished.ensures.decided c.finished.ensures.failures
