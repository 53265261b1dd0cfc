use Rattle.dh_literals.proofs.LinesCut.{blank_boundary}
use Rattle.dh_literals.proofs.indentation.cut_line.Goals as goal

pub range_from-requires : goal.range_from-requires
range_from-requires c = λ _. blank_boundary c.args.width c.min.result c.args.line.now c.utf8.line c.requires c.min.ensures
