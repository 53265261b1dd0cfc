use Rattle.std.proofs.Common.{subst as along}
use Rattle.dh_table.specs.Shown.{Shown}
use Rattle.dh_table.specs.Inside.Recording.{IsOnly, task_named}
use Rattle.dh_table.specs.States.{state_of}
use Rattle.dh_table.specs.Tables.{view_of}
use Rattle.dh_table.proofs.Landing.{one_serial}
use Rattle.dh_table.proofs.tables.Table.serial_of.Goals as goal

pub returns : goal.returns
returns g c =
    let s = state_of (view_of {W = g.row.W.Denot} c.self.inside) in
    let n = c.in_ok-flight.flight.serial in
    let t = task_named c.args.name in
    let f = (rw c.as_slice.ensures.value at c.in_ok-flight.ensures.flies).last in
    along (λ (x : Shown). IsOnly (state_of x) t n) c.self.view_is (record { flies = f; only = λ m h. one_serial _ _ _ _ s m n t c.self.invariant.replays h f })
