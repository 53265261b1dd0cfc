use Rattle.dh_watch_laws.proofs.Many.{many_are_visited, many_are_no_more}
use Rattle.dh_watch_laws.proofs.passes.many_are_visited.Goals as goal

pub returns-clause-visited : goal.returns-clause-visited
returns-clause-visited c = many_are_visited

pub returns-clause-most : goal.returns-clause-most
returns-clause-most c = many_are_no_more
