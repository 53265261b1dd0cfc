use Rattle.dhall_watch.proofs.system.watch_desks.Goals as goal

pub returns : goal.returns
returns g c = record {
  before = _;
  after = _;
  untold = c.new-watch.ensures.now;
  nothing = c.new-watch.ensures.kept;
  runs = c.watch_files.ensures.runs;
}
