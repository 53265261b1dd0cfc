use Rattle.dh_watch_rows.proofs.Standing.{same_numbers}
use Rattle.dh_watch_rows.proofs.rows.Rows.is_same.Goals as goal

pub returns : goal.returns
returns c = same_numbers c.args.self.now.keys c.requires.good.distinct c.args.j c.args.k c.requires.inside.0 c.requires.inside.1
