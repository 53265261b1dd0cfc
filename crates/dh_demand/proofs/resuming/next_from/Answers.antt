use Rattle.std.specs.Option.{option_copied}
use Rattle.dh_syntax.specs.Expressions.Bridge.{term}
use Rattle.dh_demand.proofs.Straight.{imports-enough}
use Rattle.dh_demand.proofs.resuming.next_from.Goals as goal

pub import_count-requires : goal.import_count-requires
import_count-requires g c =
    imports-enough (option_copied c.args.parent) (g.R.Results.rows c.args.results.now) (term c.args.scan.now.expr) c.args.scan.now.edges c.requires.fits.begins
