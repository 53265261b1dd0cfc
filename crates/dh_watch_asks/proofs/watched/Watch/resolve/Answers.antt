use Rattle.std.proofs.Common.{sym, ◌∙◌, subst}
use Rattle.dh_watch.specs.Watchers.{IsStopped, MeetsFew}
use Rattle.dh_watch_laws.specs.Editing.{locs_of}
use Rattle.dh_watch_rows.specs.KeptRows.{kept_of}
use Rattle.dh_watching.specs.Steps.{IsRefusal}
use Rattle.dh_watch_asks.proofs.Answering.{asks-grown, asks-none, refused}
use Rattle.dh_watch_asks.proofs.watched.Watch.resolve.Goals as goal

pub returns-in-Ok-resolve-clause-few : goal.returns-in-Ok-resolve-clause-few
returns-in-Ok-resolve-clause-few g c = subst (λ k. MeetsFew (kept_of c.resolve.new.self.source.rows) k) c.in-Ok.ensures c.in-Ok-resolve.ensures.few

pub returns-in-Err-resolve-clause-refused : goal.returns-in-Err-resolve-clause-refused
returns-in-Err-resolve-clause-refused g c =
    let told = g.F.Files.now c.args.self.now.watcher.source.files in
    let old = kept_of c.args.self.now.watcher.source.rows in
    let s = kept_of c.resolve.new.self.source.rows in
    let stop = c.in-Err-resolve.stop in
    subst (λ f. IsRefusal told (locs_of old.recorded.texts) c.args.loc.now (locs_of s.recorded.texts) f) (sym c.fault_of.ensures)
    (refused told old s c.args.loc.now stop (c.requires.watched.swept c.requires.fresh) (c.in-Err-resolve.ensures.watched.swept c.in-Err-resolve.ensures.fresh)
    (λ now t. c.in-Err-resolve.ensures.watched.over now (c.in-Err-resolve.ensures.now ∙ t))
    (subst (λ k. IsStopped old k s stop) c.in-Ok.ensures c.in-Err-resolve.ensures.stopped))

pub returns-in-Err-clause-asks_one : goal.returns-in-Err-clause-asks_one
returns-in-Err-clause-asks_one g c = asks-none (kept_of c.args.self.now.watcher.source.rows).recorded.texts (g.F.Files.asked c.args.self.now.watcher.source.files)

pub returns-in-Err-resolve-clause-asks_one : goal.returns-in-Err-resolve-clause-asks_one
returns-in-Err-resolve-clause-asks_one g c =
    asks-grown (kept_of c.args.self.now.watcher.source.rows) c.in-Ok.key (kept_of c.resolve.new.self.source.rows) c.in-Err-resolve.stop (g.F.Files.asked c.args.self.now.watcher.source.files)
    (g.F.Files.asked c.resolve.new.self.source.files) c.in-Err-resolve.ensures.stopped c.in-Err-resolve.ensures.asks_one
