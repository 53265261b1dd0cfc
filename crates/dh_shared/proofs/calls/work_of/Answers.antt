use Rattle.dh_shared.proofs.Rising.{own_work, own_fetches}
use Rattle.dh_shared.proofs.calls.work_of.Goals as goal

pub work-requires : goal.work-requires
work-requires g c = (c.requires.0, c.requires.1)

pub returns : goal.returns
returns g c = record { own = own_work c.args.table.now c.args.ticket.now c.work.result c.requires c.work.ensures.work; fetches = own_fetches c.args.table.now c.args.ticket.now c.work.result c.requires c.work.ensures.work; fits = c.work.ensures.fits }
