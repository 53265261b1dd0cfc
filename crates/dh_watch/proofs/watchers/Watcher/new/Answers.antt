use Rattle.dh_watch.proofs.Watching.{watched-nothing}
use Rattle.dh_watch.proofs.watchers.Watcher.new.Goals as goal

pub returns-clause-watched : goal.returns-clause-watched
returns-clause-watched g c = watched-nothing (g.F.Files.now c.args.files) c.new.result c.new.ensures.good c.new.ensures.nothing
