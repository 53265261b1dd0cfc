use Rattle.std.proofs.Common.{sym}
use Rattle.dh_watch_lines.proofs.BlameLines.{told_alone}
use Rattle.dh_watch_lines.proofs.blames.blame_line.Goals as goal
use Rattle.dh_watch_rows.specs.KeptRows.{kept_of}

pub returns-in-None : goal.returns-in-None
returns-in-None c = told_alone c.why_told.result (kept_of c.args.rows.now).recorded c.args.blame.now _ c.as_ref.ensures.value (sym c.in-None.ensures) c.why_told.ensures
