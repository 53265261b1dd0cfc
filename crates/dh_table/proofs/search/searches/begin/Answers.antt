use Rattle.std.proofs.Common.{length}
use Rattle.dh_syntax.specs.Expressions.Bridge.{term}
use Rattle.dh_table.proofs.Searched.{begun_known}
use Rattle.dh_table.proofs.search.searches.begin.Goals as goal

pub returns-clause-explored : goal.returns-clause-explored
returns-clause-explored c texts looks flights s r p k =
    let e = c.clear.new.self in
    begun_known c.args.keys.now texts looks flights s p (term c.args.root.now.expr) c.args.root.now.edges r c.requires.root (length c.args.explored.now.piles) e.piles c.put_wanted.new.explored.piles c.clear.ensures.piles c.put_wanted.ensures.put
