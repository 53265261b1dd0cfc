use Rattle.dh_watch_laws.proofs.Counting.{runs_count, one_count, texts_grow}
use Rattle.dh_watch_laws.proofs.passes.runs_count.Goals as goal

pub returns-clause-count : goal.returns-clause-count
returns-clause-count c = runs_count

pub returns-clause-one : goal.returns-clause-one
returns-clause-one c = one_count

pub returns-clause-grow : goal.returns-clause-grow
returns-clause-grow c = texts_grow
