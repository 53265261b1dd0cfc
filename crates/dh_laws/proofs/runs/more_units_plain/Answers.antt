use Rattle.dh_laws.proofs.Normalising.RunLimits.{more_units_plain}
use Rattle.dh_laws.proofs.runs.more_units_plain.Goals as goal

pub returns : goal.returns
returns c = more_units_plain
