use Rattle.std.specs.Prelude.{false, refl}
use Rattle.std.proofs.Common.{ap}
use Rattle.dh_watch.proofs.Watching.{watched-swept}
use Rattle.dh_watch.proofs.watchers.Watcher.refresh.Goals as goal

pub returns-then-not-self-clause-sound : goal.returns-then-not-self-clause-sound
returns-then-not-self-clause-sound g c = c.requires.swept c.if-not-self.true

pub returns-clause-watched : goal.returns-clause-watched
returns-clause-watched g c =
    watched-swept (g.F.Files.now c.args.self.now.source.files) (g.F.Files.now c.args.self.now.source.files) c.args.self.now.source.rows c.sweep.new.self c.args.self.now.stale false c.requires refl
    c.sweep.ensures.good c.sweep.ensures.kept c.sweep.ensures.sound

pub returns-clause-texts : goal.returns-clause-texts
returns-clause-texts g c = ap (λ s. s.recorded.texts) c.sweep.ensures.kept
