use Rattle.dh_syntax.specs.Expressions.Bridge.{term}
use Rattle.dh_record.proofs.KeptEntries.{value_below}
use Rattle.dh_record.proofs.keeps.kept.encoded.Goals as goal

pub alpha-requires : goal.alpha-requires
alpha-requires c = value_below (term c.args.value.now) c.requires
