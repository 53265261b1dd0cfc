-- Threads may share a shelf.
use denote.RattleType.{RattleType}
use denote.Param.Send.{IsSend, IsSync, recorded_sync, sendable, struct_sync, view_sync}
use denote.Struct.Declared.{shape}
use Rattle.std.proofs.Crossing.{crosses, Vec-sync}
use Rattle.std.proofs.MapsCrossing as maps
use Rattle.std.proofs.alloc.Global.TheSendSync as global
use Rattle.std.proofs.marker.PhantomData.TheSendSync as phantom
use Rattle.once_cell.proofs.race.once_box.OnceBox.TheSendSync as once
use Rattle.once_cell.specs.contracts.race.once_box.OnceBox as cell
use Rattle.dh_syntax.proofs.expressions.Expr.TheLaws.TheKnot as knot
use Rattle.dh_syntax.proofs.expressions.Op.TheSendSync as op
use Rattle.dh_syntax.proofs.lists.Many.TheSendSync as many
use Rattle.dh_syntax.proofs.locations.Digest.TheSendSync as digest
use Rattle.dh_syntax.proofs.locations.Key.TheSendSync as key
use Rattle.dh_syntax.proofs.locations.Loc.TheSendSync as loc
use Rattle.dh_syntax.proofs.texts.Bytes.TheSendSync as bytes
use Rattle.dh_syntax.proofs.texts.Label.TheSendSync as label
use Rattle.dh_syntax.specs.contracts.expressions.Expr as expr
use Rattle.dh_ports.specs.declared.worlds.World as world
use Rattle.dh_record.specs.contracts.entries.Entry as entry
use Rattle.dh_shelf.specs.contracts.held.Held as held
use Rattle.dh_shelf.specs.contracts.shelves.Shelf as shelf
use Rattle.dh_shelf.specs.contracts.shelves.Shelf.TheInside as inside

ruleset goes = (sendable, crosses, maps.crosses, knot.crosses, op.the_field_send, many.the_send, label.the_send, bytes.the_send, digest.the_send, key.the_send, loc.the_send)

ruleset shows = (sendable, crosses, maps.crosses, knot.crosses, op.the_field_sync, many.the_sync, label.the_sync, bytes.the_sync, digest.the_sync, key.the_sync, loc.the_sync)

expr_send : IsSend (expr.the_field).row
expr_send = search goes depth 40 fits 10000

expr_sync : IsSync (expr.the_field).row
expr_sync = search shows depth 40 fits 10000

pub entry_send : IsSend entry.the_row
entry_send = search (goes, expr_send) depth 40 fits 10000

pub entry_sync : IsSync entry.the_row
entry_sync = search (shows, expr_sync) depth 40 fits 10000

module _ (W : RattleType) (G : world.Ghosts W.Denot) where
  held_send : IsSend W → IsSend (held.the_row W G)
  held_send s = search (sendable, crosses, entry_send, phantom.the_field_send) depth 40 fits 10000

  held_sync : IsSync W → IsSync (held.the_row W G)
  held_sync y = search (sendable, crosses, entry_sync, phantom.the_field_sync) depth 40 fits 10000

  slots_sync : IsSend W → IsSync W → IsSync (inside.the_row W G)
  slots_sync s y =
      let slots = Vec-sync (cell.the_row (held.the_row W G)) (once.the_sync (held.the_row W G) (held_send s) (held_sync y)) in
      recorded_sync (inside.the_field W G).row _ _ (inside.the_type W G).to_one (struct_sync (shape (inside.the_type W G)) (slots, (global.the_field_sync, tt)))

  pub shelf_sync : IsSend W → IsSync W → IsSync (shelf.the_row W G)
  shelf_sync s y = view_sync (inside.the_row W G) _ _ _ _ (slots_sync s y)
