use Rattle.dh_watch_laws.specs.Editing.{locs_of}
use Rattle.dh_watch_rows.specs.KeptRows.{kept_of}
use Rattle.dh_watch_asks.proofs.Changing.{is-change, still-kept}
use Rattle.dh_watch_asks.proofs.asking.WatchWatches.change.Goals as goal

pub returns-clause-changed : goal.returns-clause-changed
returns-clause-changed g c =
    is-change c.change.result (g.F.Files.now c.args.self.now.watcher.source.files) (kept_of c.args.self.now.watcher.source.rows) c.args.loc.now c.args.bytes (g.F.Files.now c.change.new.self.source.files)
    (kept_of c.change.new.self.source.rows) c.change.ensures.put c.change.ensures.forgets

pub returns-clause-kept : goal.returns-clause-kept
returns-clause-kept g c =
    still-kept c.change.result (λ rows. locs_of (kept_of rows).recorded.texts) c.args.self.now.watcher.source.rows c.change.new.self.source.rows c.change.ensures.kept
