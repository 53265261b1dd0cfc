use denote.Param.{param}
use denote.Param.Send.{IsSync, sendable}
use Rattle.std.proofs.Crossing.{crosses}
use Rattle.std.proofs.alloc.Global.TheSendSync as global
use Rattle.dh_shelf.proofs.Crossing.{shelf_sync}
use Rattle.dh_shelf.specs.contracts.shelves.Shelf as shelf
use Rattle.dh_batch.proofs.serving.serve_all.Goals as goal

pub for_each_mut-requires-sync-F : goal.for_each_mut-requires-sync-F
for_each_mut-requires-sync-F g c κs within =
    let b = c.type_bounds in
    let shelved : Unit {0} → IsSync (shelf.the_row (param 1 g.row.W) g.W.World) = λ u. shelf_sync (param 1 g.row.W) g.W.World b.send-W b.sync-W in
    let runtime : Unit {0} → IsSync (param 0 g.row.T) = λ u. b.sync-T in
    let files : Unit {0} → IsSync (param 3 g.row.F) = λ u. b.sync-F in
    let session : Unit {0} → IsSync (param 5 g.row.S) = λ u. b.sync-S in
    search (sendable, crosses, global.the_sync, shelved, runtime, files, session) depth 60 fits 10000
