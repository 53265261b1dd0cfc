use Rattle.dh_record.specs.Rows.{key_named}
use Rattle.dh_watch_laws.specs.Running.{stage_at}
use Rattle.dh_watch_rows.specs.KeptRows.{kept_of}
use Rattle.dh_watch.proofs.SourceSteps.{reach-wait}
use Rattle.dh_watch.proofs.ways.progress.Goals as goal

pub returns-in-Wait-clause-progress : goal.returns-in-Wait-clause-progress
returns-in-Wait-clause-progress c =
    let t = c.args.rows.now in
    let k = key_named t.keys c.args.key in
    reach-wait t.keys k (stage_at (kept_of t) k) c.in-Wait.next c.in-Wait.ensures.reach
