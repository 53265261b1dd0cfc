use Rattle.dh_reader.proofs.Ending.{ends}
use Rattle.dh_reader.proofs.Following.{follows}
use Rattle.dh_reader.proofs.operands.extending.extend_by_mark.Goals as goal

pub returns-in-Some : goal.returns-in-Some
returns-in-Some g c =
    follows g.M.Makes.views _ _ c.end_place.new.reader c.end_place.result (ends (g.M.Makes.makes c.args.reader.now.at) c.in-Some.closing _ _ c.in-Some.ensures.some) c.end_place.ensures
