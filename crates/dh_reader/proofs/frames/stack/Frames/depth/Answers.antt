use Rattle.std.proofs.Common.{◌∙◌}
use Rattle.dh_reader.proofs.DepthCounts.{depths}
use Rattle.dh_reader.proofs.frames.stack.Frames.depth.Goals as goal

pub returns : goal.returns
returns g c = c.args.self.now.counted ∙ depths g.M.Makes.views c.args.self.now.pile
