use Rattle.std.proofs.Common.{ap}
use Rattle.dh_reader.specs.Frames.{frame_of}
use Rattle.dh_reader.proofs.Closes.{closes}
use Rattle.dh_reader.proofs.Following.{follows}
use Rattle.dh_reader.proofs.closing.closings.close.Goals as goal

pub returns-in-Some-Shut : goal.returns-in-Some-Shut
returns-in-Some-Shut g c =
    follows g.M.Makes.views _ _ c.closed.new.reader c.closed.result
    (closes (g.M.Makes.makes c.args.reader.now.at) _ _ _ (g.M.Makes.views.tree c.args.operand) _ _ c.in-Some-Shut.ensures.some (ap (frame_of g.M.Makes.views) c.in-Some-Shut.field-0-is))
    c.closed.ensures
