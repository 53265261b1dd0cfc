use Rattle.dh_watch_laws.proofs.Running.{runs_add, runs_decide, runs_loop, loops_close}
use Rattle.dh_watch_laws.proofs.passes.runs_are_resolved.Goals as goal

pub returns-clause-add : goal.returns-clause-add
returns-clause-add c = runs_add

pub returns-clause-decide : goal.returns-clause-decide
returns-clause-decide c = runs_decide

pub returns-clause-loops : goal.returns-clause-loops
returns-clause-loops c = runs_loop

pub returns-clause-close : goal.returns-clause-close
returns-clause-close c = loops_close
