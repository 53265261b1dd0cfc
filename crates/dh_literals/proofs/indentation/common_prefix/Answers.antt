use Rattle.dh_literals.proofs.LinesShared.{common_fits}
use Rattle.dh_literals.proofs.indentation.common_prefix.Goals as goal

pub slice_bounds-result-end : goal.slice_bounds-result-end
slice_bounds-result-end c = common_fits c.args.a.now c.args.b.now c.common_count.result c.common_count.ensures
