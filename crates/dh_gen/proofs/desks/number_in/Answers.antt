use Rattle.std.proofs.Common.{None, lit<}
use Rattle.std.proofs.lemmas.Str.Pattern.{strip_prefix_char}
use Rattle.dh_gen.proofs.Told.{no_number}
use Rattle.dh_gen.proofs.desks.number_in.Goals as goal

pub returns-in-None : goal.returns-in-None
returns-in-None c = no_number c.args.name.now (strip_prefix_char 103 c.args.name.now None c.in-None.ensures.cases (lit< tt))
