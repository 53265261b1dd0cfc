use Rattle.std.proofs.Common.{refl, sym}
use Rattle.dh_table.specs.States.{record_of}
use Rattle.dh_top.proofs.Resolutions.{told_alone}
use Rattle.dh_top.proofs.blames.blame_reply.Goals as goal

pub returns-in-None : goal.returns-in-None
returns-in-None g c = told_alone c.why_reply.result (record_of c.args.table.now) c.args.blame.now _ c.as_ref.ensures.value (sym c.in-None.ensures) c.why_reply.ensures
