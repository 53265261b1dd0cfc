use Rattle.std.proofs.Common.{◌≡◌}
use Rattle.std.specs.Option.{option_copied}
use Rattle.dh_demand.specs.Scans.{AreInside}
use Rattle.dh_demand.proofs.Ways.{OnTheWay}
use Rattle.dh_demand.proofs.text_paths.+text_paths.Given as goal

abbrev pub invariant-push_part-loop-kid : goal.invariant-push_part-loop-kid
invariant-push_part-loop-kid g l = record {
  same : l.way.items ≡ l.initial.way.items;
  inside : AreInside (g.R.Results.rows l.results) l.edges;
  on : OnTheWay (option_copied l.parent) (g.R.Results.rows l.results) l.kid-items l.initial.left l.kid-index l.left l.rest l.edges-2 l.edges;
}
