use Rattle.std.proofs.Common.{subst as along}
use Rattle.dh_imports.specs.Machine.{Task, InFlight}
use Rattle.dh_table.specs.States.{state_of}
use Rattle.dh_table.proofs.Logs.{some_flies}
use Rattle.dh_table.proofs.tables.Table.release.Goals as goal

pub land-requires : goal.land-requires
land-requires g c =
    along (λ v. (x : Task) × InFlight (state_of v) c.args.ticket.serial x) c.self.view_is
    (some_flies c.self.inside.keys c.self.inside.flights.items c.args.ticket.serial c.job_of.result c.if-is_none.ensures
    (rw c.as_slice.ensures.value at (c.job_of.ensures.task c.self.inside.keys)))

pub returns : goal.returns
returns g c =
    let f =
    along (λ v. (x : Task) × InFlight (state_of v) c.args.ticket.serial x) c.self.view_is
    (some_flies c.self.inside.keys c.self.inside.flights.items c.args.ticket.serial c.job_of.result c.if-is_none.ensures
    (rw c.as_slice.ensures.value at (c.job_of.ensures.task c.self.inside.keys))) in
    record { task = f.0; flies = f.1; state_is = c.land.ensures.state; adds = c.land.ensures.adds }
