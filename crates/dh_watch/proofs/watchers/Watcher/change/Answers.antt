use Rattle.std.specs.Prelude.{true, refl}
use Rattle.std.proofs.Common.{sym, subst}
use Rattle.dh_watch_laws.specs.Kept.{IsSound}
use Rattle.dh_watch.proofs.Watching.{watched-changed, watched-same}
use Rattle.dh_watch.proofs.watchers.Watcher.change.Goals as goal

pub returns-then-not-forget_text-clause-watched : goal.returns-then-not-forget_text-clause-watched
returns-then-not-forget_text-clause-watched g c =
    watched-changed (g.F.Files.now c.args.self.now.source.files) (g.F.Files.now c.put.new.self) c.args.self.now.source.rows c.forget_text.new.self c.args.self.now.stale c.args.self.now.stale
    c.args.loc.now c.args.bytes c.requires c.in-Ok.ensures.put c.forget_text.ensures.good c.forget_text.ensures.forgets
    (λ e. subst IsSound (sym (c.forget_text.ensures.same c.if-not-forget_text.true)) (c.requires.swept e))

pub returns-else-not-forget_text-clause-watched : goal.returns-else-not-forget_text-clause-watched
returns-else-not-forget_text-clause-watched g c =
    watched-changed (g.F.Files.now c.args.self.now.source.files) (g.F.Files.now c.put.new.self) c.args.self.now.source.rows c.forget_text.new.self c.args.self.now.stale true
    c.args.loc.now c.args.bytes c.requires c.in-Ok.ensures.put c.forget_text.ensures.good c.forget_text.ensures.forgets (λ e. absurd cc)

pub returns-in-Err-clause-watched : goal.returns-in-Err-clause-watched
returns-in-Err-clause-watched g c =
    watched-same (g.F.Files.now c.args.self.now.source.files) (g.F.Files.now c.put.new.self) c.args.self.now.source.rows c.args.self.now.source.rows c.args.self.now.stale c.requires
    c.in-Err.ensures.same c.requires.good refl
