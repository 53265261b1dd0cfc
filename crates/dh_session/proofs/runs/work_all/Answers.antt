use denote.Param.{param}
use denote.Param.Send.{IsSend, IsSync, sendable}
use Rattle.std.proofs.Crossing.{crosses}
use Rattle.std.proofs.alloc.Global.TheSendSync as global
use Rattle.std.proofs.marker.PhantomData.TheSendSync as phantom
use Rattle.std.proofs.sync.Condvar.TheSendSync as condvar
use Rattle.dh_shared.proofs.books.Books.TheSendSync as books
use Rattle.dh_shared.specs.contracts.locks.Locked as locked
use Rattle.dh_shared.specs.contracts.shared_tables.SharedTable as shared
use Rattle.dh_shelf.proofs.Crossing.{shelf_sync}
use Rattle.dh_shelf.specs.contracts.shelves.Shelf as shelf
use Rattle.dh_session.proofs.Crossing.{table_send}
use Rattle.dh_session.proofs.runs.work_all.Goals as goal

pub for_each_mut-requires-sync-F : goal.for_each_mut-requires-sync-F
for_each_mut-requires-sync-F g c κs within =
    let b = c.type_bounds in
    let under : IsSend (locked.the_row (param 1 g.row.W) (param 4 g.row.Q) (param 5 g.row.N) g.W.World g.Q.Rooted g.N.Counted) =
    search (sendable, crosses, global.the_send, global.the_field_send, phantom.the_send, phantom.the_field_send, books.the_send, table_send, b) depth 120 fits 30000 in
    let whole : Unit {0} → IsSync (shared.the_row (param 1 g.row.W) (param 4 g.row.Q) (param 5 g.row.N) g.W.World g.Q.Rooted g.N.Counted) =
    λ u. search (sendable, crosses, condvar.the_sync, condvar.the_field_sync, under) depth 40 fits 5000 in
    let shelved : Unit {0} → IsSync (shelf.the_row (param 1 g.row.W) g.W.World) = λ u. shelf_sync (param 1 g.row.W) g.W.World b.send-W b.sync-W in
    let runtime : Unit {0} → IsSync (param 0 g.row.T) = λ u. b.sync-T in
    let passed : Unit {0} → IsSync (param 3 g.row.G) = λ u. b.sync-G in
    search (sendable, crosses, global.the_sync, global.the_field_sync, whole, shelved, runtime, passed) depth 60 fits 10000
