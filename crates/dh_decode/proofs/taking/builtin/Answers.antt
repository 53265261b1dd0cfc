use Rattle.dh_decode.specs.Inside.Views.{part_of}
use Rattle.dh_decode.proofs.ReadingLaws.{builtin_some, builtin_none}
use Rattle.dh_decode.proofs.taking.builtin.Goals as goal

pub returns-in-Ok : goal.returns-in-Ok
returns-in-Ok c = builtin_some c.args.name.now c.in-Some.builtin (part_of c.in-Ok.part) c.in-Some.ensures c.in-Ok.ensures

pub returns-in-None : goal.returns-in-None
returns-in-None c = (builtin_none c.args.name.now c.in-None.ensures, builtin_none c.args.name.now c.in-None.ensures)
