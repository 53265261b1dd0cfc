use Rattle.std.specs.Prelude.{◌<◌, ℕ, refl}
use Rattle.std.proofs.Common.{sym, ◌∙◌, subst}
use Rattle.dh_syntax.specs.declared.locations.Key.{Key}
use Rattle.dh_syntax.specs.Limits.{most_keys}
use Rattle.dh_record.specs.Entering.{keys_in}
use Rattle.dh_watch_laws.specs.Asking.{Asked}
use Rattle.dh_watch_laws.specs.VisitCounts.{Counts}
use Rattle.dh_watch_rows.specs.KeptRows.{kept_of}
use Rattle.dh_watch_runs.specs.declared.deciding.Stop.TheVariants as stops
use Rattle.dh_watch_runs.specs.Asks.{ComesTo, IsRefused}
use Rattle.dh_watch_runs.specs.Endings.{LeavesChain}
use Rattle.dh_watch_runs.specs.Resolving.{AsksFor, named}
use Rattle.dh_watch.specs.Watchers.{IsStopped, MeetsFew}
use Rattle.dh_watch.proofs.Growing.{asked-most, asked-none}
use Rattle.dh_watch.proofs.Watching.{handed-on, number-is, root-named, stopped-counted, stopped-none, stopped-run, watched-same}
use Rattle.dh_watch.proofs.watchers.Watcher.resolve.Goals as goal

pub returns-in-Err-clause-watched : goal.returns-in-Err-clause-watched
returns-in-Err-clause-watched g c =
    watched-same (g.F.Files.now c.args.self.now.source.files) (g.F.Files.now c.args.self.now.source.files) c.args.self.now.source.rows c.enter.new.self c.args.self.now.stale c.requires.watched refl
    c.enter.ensures.good c.enter.ensures.kept

pub returns-in-Err-clause-stopped : goal.returns-in-Err-clause-stopped
returns-in-Err-clause-stopped g c = stopped-none (kept_of c.args.self.now.source.rows) c.args.key (kept_of c.enter.new.self) stops.Memory c.enter.ensures.kept refl

pub returns-in-Err-clause-asks_one : goal.returns-in-Err-clause-asks_one
returns-in-Err-clause-asks_one g c = asked-none (kept_of c.args.self.now.source.rows) (kept_of c.enter.new.self) (g.F.Files.asked c.args.self.now.source.files) c.enter.ensures.kept

pub ask-requires-clause-inside : goal.ask-requires-clause-inside
ask-requires-clause-inside g c = (root-named c.enter.new.self.keys c.args.key c.in-Ok.root c.in-Ok.ensures.number).0

pub returns-in_ok-allow-in-Ok-ask-clause-asked : goal.returns-in_ok-allow-in-Ok-ask-clause-asked
returns-in_ok-allow-in-Ok-ask-clause-asked g c =
    let s = kept_of c.ask.new.resolver.rows in
    let n = c.in-Ok-ask.field-0.fetched in
    subst (λ old. Asked old c.args.key s n) c.enter.ensures.kept
    (subst (λ k. Asked (kept_of c.enter.new.self) k s n) (root-named c.enter.new.self.keys c.args.key c.in-Ok.root c.in-Ok.ensures.number).1 c.in-Ok-ask.ensures.asked)

pub returns-in_ok-allow-in-Ok-ask-clause-ended : goal.returns-in_ok-allow-in-Ok-ask-clause-ended
returns-in_ok-allow-in-Ok-ask-clause-ended g c =
    subst (λ k. ComesTo k (keys_in c.ask.new.resolver.rows.keys) (kept_of c.ask.new.resolver.rows) c.in-Ok-ask.field-0.end)
    (root-named c.enter.new.self.keys c.args.key c.in-Ok.root c.in-Ok.ensures.number).1 c.in-Ok-ask.ensures.ended

pub returns-in_ok-allow-in-Ok-ask-clause-number : goal.returns-in_ok-allow-in-Ok-ask-clause-number
returns-in_ok-allow-in-Ok-ask-clause-number g c = number-is c.enter.new.self.keys c.ask.new.resolver.rows.keys c.args.key c.in-Ok.root c.in-Ok.ensures.number c.ask.ensures.keys

pub returns-in_ok-allow-in-Ok-ask-clause-asks : goal.returns-in_ok-allow-in-Ok-ask-clause-asks
returns-in_ok-allow-in-Ok-ask-clause-asks g c =
    asked-most (kept_of c.enter.new.self) (named (keys_in c.enter.new.self.keys) c.in-Ok.root) (kept_of c.ask.new.resolver.rows) c.in-Ok-ask.field-0.fetched
    (g.F.Files.asked c.args.self.now.source.files) (g.F.Files.asked c.ask.new.resolver.files) c.in-Ok-ask.ensures.asked c.in-Ok-ask.ensures.asks

pub returns-in-Err-ask-clause-asks_one : goal.returns-in-Err-ask-clause-asks_one
returns-in-Err-ask-clause-asks_one g c =
    let asked = g.F.Files.asked c.args.self.now.source.files in
    subst (λ old. AsksFor 1 asked old (g.F.Files.asked c.ask.new.resolver.files) (kept_of c.ask.new.resolver.rows)) c.enter.ensures.kept c.in-Err-ask.ensures.asks_one

pub returns-in-Err-ask-clause-stopped : goal.returns-in-Err-ask-clause-stopped
returns-in-Err-ask-clause-stopped g c =
    let s = kept_of c.ask.new.resolver.rows in
    stopped-run (kept_of c.args.self.now.source.rows) c.args.key s c.in-Err-ask.stop (c.requires.watched.swept c.requires.fresh)
    (subst (λ old. IsRefused old c.args.key s c.in-Err-ask.stop) c.enter.ensures.kept
    (subst (λ k. IsRefused (kept_of c.enter.new.self) k s c.in-Err-ask.stop) (root-named c.enter.new.self.keys c.args.key c.in-Ok.root c.in-Ok.ensures.number).1 c.in-Err-ask.ensures.refused))

pub allow-requires-clause-inside : goal.allow-requires-clause-inside
allow-requires-clause-inside g c = (number-is c.enter.new.self.keys c.ask.new.resolver.rows.keys c.args.key c.in-Ok.root c.in-Ok.ensures.number c.ask.ensures.keys).inside

pub allow-requires-clause-ended : goal.allow-requires-clause-ended
allow-requires-clause-ended g c =
    let n = number-is c.enter.new.self.keys c.ask.new.resolver.rows.keys c.args.key c.in-Ok.root c.in-Ok.ensures.number c.ask.ensures.keys in
    let r = root-named c.enter.new.self.keys c.args.key c.in-Ok.root c.in-Ok.ensures.number in
    subst (λ (k : Key). ComesTo k (keys_in c.ask.new.resolver.rows.keys) (kept_of c.ask.new.resolver.rows) c.in-Ok-ask.field-0.end) (r.1 ∙ sym n.key_is) c.in-Ok-ask.ensures.ended

pub allow-requires-clause-chain : goal.allow-requires-clause-chain
allow-requires-clause-chain g c =
    let n = number-is c.enter.new.self.keys c.ask.new.resolver.rows.keys c.args.key c.in-Ok.root c.in-Ok.ensures.number c.ask.ensures.keys in
    let r = root-named c.enter.new.self.keys c.args.key c.in-Ok.root c.in-Ok.ensures.number in
    subst (λ (k : Key). LeavesChain k (keys_in c.ask.new.resolver.rows.keys) (kept_of c.ask.new.resolver.rows) c.ask.new.trail c.in-Ok-ask.field-0.end) (r.1 ∙ sym n.key_is) c.in-Ok-ask.ensures.chain

pub returns-in_ok-allow-in-Ok-ask-clause-few : goal.returns-in_ok-allow-in-Ok-ask-clause-few
returns-in_ok-allow-in-Ok-ask-clause-few g c =
    let n = number-is c.enter.new.self.keys c.ask.new.resolver.rows.keys c.args.key c.in-Ok.root c.in-Ok.ensures.number c.ask.ensures.keys in
    subst (λ (k : Key). MeetsFew (kept_of c.ask.new.resolver.rows) k) n.key_is c.in_ok-allow-in-Ok-ask.ensures.few

pub returns-in_err-allow-in-Ok-ask-clause-stopped : goal.returns-in_err-allow-in-Ok-ask-clause-stopped
returns-in_err-allow-in-Ok-ask-clause-stopped g c =
    let s = kept_of c.ask.new.resolver.rows in
    let n = number-is c.enter.new.self.keys c.ask.new.resolver.rows.keys c.args.key c.in-Ok.root c.in-Ok.ensures.number c.ask.ensures.keys in
    let asked = subst (λ old. Asked old c.args.key s c.in-Ok-ask.field-0.fetched) c.enter.ensures.kept
    (subst (λ k. Asked (kept_of c.enter.new.self) k s c.in-Ok-ask.field-0.fetched) (root-named c.enter.new.self.keys c.args.key c.in-Ok.root c.in-Ok.ensures.number).1 c.in-Ok-ask.ensures.asked) in
    handed-on c.from_residual.result c.in_err-allow-in-Ok-ask.field-0.0 (IsStopped (kept_of c.args.self.now.source.rows) c.args.key s) c.from_residual.ensures.1
    (stopped-counted (kept_of c.args.self.now.source.rows) c.args.key s c.in_err-allow-in-Ok-ask.field-0.0 c.in-Ok-ask.field-0.fetched (c.requires.watched.swept c.requires.fresh) asked
    (λ e. subst (λ (k : Key). (m : ℕ) × Counts s k m × most_keys < m) n.key_is (c.in_err-allow-in-Ok-ask.ensures.many e)))
