use Rattle.dh_top.proofs.words.with_operands.Goals as goal

pub returns-in-Ok : goal.returns-in-Ok
returns-in-Ok c = c.in-Ok.ensures c.args.workers

pub returns-in-Err : goal.returns-in-Err
returns-in-Err c = c.in-Err.ensures c.args.workers
