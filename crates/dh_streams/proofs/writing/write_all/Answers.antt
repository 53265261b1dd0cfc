use Rattle.std.proofs.Common.{◌∙◌}
use Rattle.dh_ports.proofs.Writing.{Appends-next}
use Rattle.dh_streams.proofs.writing.write_all.Goals as goal

pub loop-at-preserved : goal.loop-at-preserved
loop-at-preserved g c =
    let inv = c.loop-at.invariant in
    record {
      gained = Appends-next _ _ _ _ _ _ inv.gained c.in-Ok.ensures.gains;
      bound = c.in-Ok.ensures.goes_on.1;
      quiet = c.in-Ok.ensures.quiet ∙ inv.quiet;
    }
