use Rattle.std.specs.Prelude.{◌+◌}
use Rattle.std.proofs.Common.{sym, subst as along}
use Rattle.dh_record.specs.Keeping.{AreLeast}
use Rattle.dh_record.proofs.LeastFresh.{least_skips}
use Rattle.dh_record.proofs.keeps.fresh.least_fresh.Goals as goal
use Rattle.dh_record.proofs.keeps.fresh.least_fresh.Goals.{in-Some+in_ok-put_least-in-Some, in-None}

pub loop-i-preserved : goal.loop-i-preserved
loop-i-preserved c =
    let keys = c.args.keys.now in
    let looks = c.args.looks.now in
    let marks = c.args.marks.now in
    elim c.match-fresh_digest.branch [
      | in-Some+in_ok-put_least-in-Some w ↦
          along (λ v. AreLeast keys looks marks (c.loop-i.i + 1) v.items) (sym w.found-is) (w.in_ok-put_least-in-Some.ensures looks marks w.in-Some.field-0 w.in-Some.ensures c.loop-i.invariant)
      | in-None w ↦
          along (λ v. AreLeast keys looks marks (c.loop-i.i + 1) v.items) (sym w.found-is) (least_skips keys looks marks c.loop-i.i c.loop-i.found.items c.loop-i.invariant w.in-None.ensures)
    ]
