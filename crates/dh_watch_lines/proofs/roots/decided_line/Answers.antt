use Rattle.std.proofs.Common.{sym}
use Rattle.dh_imports.specs.Outcomes.{plain}
use Rattle.dh_record.specs.Rows.{key_named}
use Rattle.dh_watch_lines.proofs.RootLines.{decided_told}
use Rattle.dh_watch_lines.proofs.roots.decided_line.Goals as goal
use Rattle.dh_watch_rows.specs.KeptRows.{kept_of}

pub outcome_line-requires-clause-kept : goal.outcome_line-requires-clause-kept
outcome_line-requires-clause-kept c = (key_named c.args.rows.now.keys c.args.root, sym c.in-Some.ensures.known)

pub returns : goal.returns
returns c =
    decided_told c.outcome_line.result (kept_of c.args.rows.now) (key_named c.args.rows.now.keys c.args.root) (plain c.in-Some.outcome.now) c.requires.sound (sym c.in-Some.ensures.known) c.outcome_line.ensures
