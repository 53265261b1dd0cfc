use Rattle.dh_watch_lines.proofs.RootLines.{blame_stands, blame_told, value_told}
use Rattle.dh_watch_lines.proofs.roots.outcome_line.Goals as goal
use Rattle.dh_watch_rows.specs.KeptRows.{kept_of}

pub returns-in-Good : goal.returns-in-Good
returns-in-Good c = value_told c.value_line.result (kept_of c.args.rows.now).recorded c.args.outcome.now c.in-Good.value _ c.in-Good.is c.value_line.ensures

pub blame_line-requires-clause-stands : goal.blame_line-requires-clause-stands
blame_line-requires-clause-stands c = blame_stands (kept_of c.args.rows.now) c.args.outcome.now c.in-Bad.blame c.requires.sound c.in-Bad.is c.requires.kept

pub returns-in-Bad : goal.returns-in-Bad
returns-in-Bad c = blame_told c.blame_line.result (kept_of c.args.rows.now).recorded c.args.outcome.now c.in-Bad.blame c.in-Bad.is c.blame_line.ensures
