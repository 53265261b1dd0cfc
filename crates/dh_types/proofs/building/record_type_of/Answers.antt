use Rattle.dh_types.proofs.Grown.{record-fits}
use Rattle.dh_types.proofs.building.record_type_of.Goals as goal

pub plain_node-requires-clause-fits : goal.plain_node-requires-clause-fits
plain_node-requires-clause-fits c = record-fits c.args.labels _ c.requires.ascends c.requires.paired
