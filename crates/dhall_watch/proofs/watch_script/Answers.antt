use Rattle.std.proofs.Common.{ap, ◌∙◌}
use Rattle.std.specs.Prelude.{Some}
use Rattle.dhall_watch.proofs.watch_script.Goals as goal

pub returns : goal.returns
returns g c = record {
  before = _;
  after = _;
  empty = c.new-watch.ensures.now ∙ ap Some c.new-files.ensures;
  nothing = c.new-watch.ensures.kept;
  runs = c.run_watch.ensures.runs;
}
