use Rattle.std.proofs.Common.{ap, sym, ◌∙◌, subst}
use Rattle.dh_record.specs.Entering.{keys_in}
use Rattle.dh_watch_rows.specs.KeptRows.{kept_of}
use Rattle.dh_watch_runs.specs.Asks.{ComesTo}
use Rattle.dh_watch_asks.proofs.Answering.{answered, asks-fetched, asks-from, asks-handed-on, asks-told, handed-on, lacking-line}
use Rattle.dh_watch_asks.proofs.asking.WatchWatches.ask.Goals as goal

pub line-requires-clause-number : goal.line-requires-clause-number
line-requires-clause-number g c = (c.args.loc.now, c.in_ok-resolved.ensures.number)

pub line-requires-clause-ended : goal.line-requires-clause-ended
line-requires-clause-ended g c =
    subst (λ k. ComesTo k (keys_in c.resolve.new.self.watcher.source.rows.keys) (kept_of c.resolve.new.self.watcher.source.rows) c.in_ok-resolved.resolved.end) (sym c.in_ok-resolved.ensures.number.key_is)
    c.in_ok-resolved.ensures.ended

pub returns-in_err-resolved-clause-refused : goal.returns-in_err-resolved-clause-refused
returns-in_err-resolved-clause-refused g c =
    handed-on c.from_residual.result c.in_err-resolved.field-0.0 (g.F.Files.now c.refresh.new.self.source.files) (g.F.Files.now c.args.self.now.watcher.source.files)
    (kept_of c.refresh.new.self.source.rows).recorded.texts (kept_of c.args.self.now.watcher.source.rows).recorded.texts (kept_of c.resolve.new.self.watcher.source.rows) c.args.loc.now
    (ap (λ f. g.F.Files.now f) c.refresh.ensures.files) c.refresh.ensures.texts c.from_residual.ensures.1 c.in_err-resolved.ensures.refused

pub returns-in-Ok-clause-answered : goal.returns-in-Ok-clause-answered
returns-in-Ok-clause-answered g c =
    let told = g.F.Files.now c.args.self.now.watcher.source.files in
    let old = kept_of c.refresh.new.self.source.rows in
    let s = kept_of c.resolve.new.self.watcher.source.rows in
    answered told (kept_of c.args.self.now.watcher.source.rows).recorded.texts old s c.args.loc.now c.in-Ok.line c.in_ok-resolved.resolved.fetched c.refresh.ensures.texts c.refresh.ensures.sound
    c.in_ok-resolved.ensures.asked
    (λ now t. c.in_ok-resolved.ensures.watched.over now (c.in_ok-resolved.ensures.now ∙ (ap (λ f. g.F.Files.now f) c.refresh.ensures.files ∙ t))) (c.in-Ok.ensures.line c.args.loc.now c.in_ok-resolved.ensures.number.key_is) c.in_ok-resolved.ensures.few c.in-Ok.ensures.asked

pub returns-in-Err-clause-refused : goal.returns-in-Err-clause-refused
returns-in-Err-clause-refused g c =
    let told = g.F.Files.now c.args.self.now.watcher.source.files in
    let old = kept_of c.refresh.new.self.source.rows in
    let s = kept_of c.resolve.new.self.watcher.source.rows in
    lacking-line told (kept_of c.args.self.now.watcher.source.rows).recorded.texts old s c.args.loc.now c.in_ok-resolved.resolved.fetched c.refresh.ensures.texts c.refresh.ensures.sound
    c.in_ok-resolved.ensures.asked

pub returns-in_err-resolved-clause-asks_one : goal.returns-in_err-resolved-clause-asks_one
returns-in_err-resolved-clause-asks_one g c =
    asks-handed-on c.from_residual.result (λ f. g.F.Files.asked f) c.args.self.now.watcher.source.files c.refresh.new.self.source.files (kept_of c.refresh.new.self.source.rows).recorded.texts
    (kept_of c.args.self.now.watcher.source.rows).recorded.texts (kept_of c.resolve.new.self.watcher.source.rows) (g.F.Files.asked c.resolve.new.self.watcher.source.files)
    c.refresh.ensures.files c.refresh.ensures.texts c.in_err-resolved.ensures.asks_one

pub returns-in-Ok-clause-asks : goal.returns-in-Ok-clause-asks
returns-in-Ok-clause-asks g c =
    asks-told (λ f. g.F.Files.asked f) c.args.self.now.watcher.source.files c.refresh.new.self.source.files (g.F.Files.asked c.resolve.new.self.watcher.source.files) c.in_ok-resolved.resolved.fetched
    c.in-Ok.line.asked c.refresh.ensures.files c.in_ok-resolved.ensures.asks c.in-Ok.ensures.asked

pub returns-in-Err-clause-asks_one : goal.returns-in-Err-clause-asks_one
returns-in-Err-clause-asks_one g c =
    asks-fetched (kept_of c.args.self.now.watcher.source.rows).recorded.texts (kept_of c.refresh.new.self.source.rows) (kept_of c.resolve.new.self.watcher.source.rows) c.args.loc.now
    c.in_ok-resolved.resolved.fetched (g.F.Files.asked c.args.self.now.watcher.source.files) (g.F.Files.asked c.resolve.new.self.watcher.source.files) c.refresh.ensures.texts c.refresh.ensures.sound
    c.in_ok-resolved.ensures.asked
    (asks-from (λ f. g.F.Files.asked f) c.args.self.now.watcher.source.files c.refresh.new.self.source.files (g.F.Files.asked c.resolve.new.self.watcher.source.files)
    c.in_ok-resolved.resolved.fetched c.refresh.ensures.files c.in_ok-resolved.ensures.asks)
