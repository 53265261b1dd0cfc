-- What holds an expression may go to another thread.
use denote.RattleType.{RattleType}
use denote.Param.Send.{IsSend, sendable}
use Rattle.std.proofs.Crossing.{crosses}
use Rattle.std.proofs.MapsCrossing as maps
use Rattle.std.proofs.marker.PhantomData.TheSendSync as phantom
use Rattle.dh_syntax.proofs.expressions.Expr.TheLaws.TheKnot as knot
use Rattle.dh_syntax.proofs.expressions.Op.TheSendSync as op
use Rattle.dh_syntax.proofs.faults.ParseFault.TheSendSync as parse_fault
use Rattle.dh_syntax.proofs.lists.Many.TheSendSync as many
use Rattle.dh_syntax.proofs.locations.Digest.TheSendSync as digest
use Rattle.dh_syntax.proofs.locations.Key.TheSendSync as key
use Rattle.dh_syntax.proofs.locations.Loc.TheSendSync as loc
use Rattle.dh_imports.proofs.outcomes.Blame.TheSendSync as blame
use Rattle.dh_imports.proofs.outcomes.Origin.TheSendSync as origin
use Rattle.dh_syntax.proofs.texts.Bytes.TheSendSync as bytes
use Rattle.dh_syntax.proofs.texts.Label.TheSendSync as label
use Rattle.dh_syntax.specs.contracts.expressions.Expr as expr
use Rattle.dh_imports.specs.contracts.outcomes.Outcome as outcome
use Rattle.dh_demand.proofs.scans.Edge.TheSendSync as edge
use Rattle.dh_demand.specs.contracts.scans.Scan as scan
use Rattle.dh_ports.specs.declared.worlds.World as world
use Rattle.dh_record.proofs.news.Noted.TheSendSync as noted
use Rattle.dh_table.proofs.search.scratch.Scratch.TheSendSync as scratch
use Rattle.dh_record.proofs.rows.index.Order.TheSendSync as order
use Rattle.dh_table.proofs.steps.Flight.TheSendSync as flight
use Rattle.dh_table.proofs.steps.Job.TheSendSync as job
use Rattle.dh_table.proofs.steps.Step.TheSendSync as step
use Rattle.dh_record.specs.contracts.rows.entrants.Entrants as entrants
use Rattle.dh_record.specs.contracts.entries.Entry as entry
use Rattle.dh_record.specs.contracts.entries.Seen as look_seen
use Rattle.dh_record.specs.contracts.items.Body as body
use Rattle.dh_record.specs.contracts.items.Done as done
use Rattle.dh_record.specs.contracts.items.Item as item
use Rattle.dh_record.specs.contracts.news.News as news
use Rattle.dh_record.specs.contracts.news.Parsed as parsed
use Rattle.dh_table.specs.contracts.tables.Table as table
use Rattle.dh_record.specs.contracts.rows.recorded.Entrant as entrant
use Rattle.dh_record.specs.contracts.rows.recorded.Look as look
use Rattle.dh_record.specs.contracts.rows.recorded.Text as text

ruleset plain = (sendable, crosses, maps.crosses, knot.crosses, op.the_field_send, many.the_send, label.the_send, bytes.the_send, digest.the_send, key.the_send, loc.the_send)

expr_field : IsSend (expr.the_field).row
expr_field = search plain depth 40 fits 10000

outcome_field : IsSend (outcome.the_field).row
outcome_field = search (plain, expr_field, blame.the_send, blame.the_field_send, origin.the_send, origin.the_field_send) depth 40 fits 10000

scan_field : IsSend (scan.the_field).row
scan_field = search (plain, expr_field, edge.the_send) depth 40 fits 10000

entry_send : IsSend entry.the_row
entry_send = search (plain, expr_field) depth 40 fits 10000

seen_field : IsSend (look_seen.the_field).row
seen_field = search (plain, expr_field, entry_send) depth 40 fits 10000

body_field : IsSend (body.the_field).row
body_field = search (plain, expr_field, blame.the_send, blame.the_field_send, origin.the_send, origin.the_field_send) depth 40 fits 10000

item_field : IsSend (item.the_field).row
item_field = search (plain, expr_field, body_field) depth 40 fits 10000

done_send : IsSend done.the_row
done_send = search (plain, expr_field, item_field, outcome_field) depth 40 fits 10000

parsed_field : IsSend (parsed.the_field).row
parsed_field = search (plain, expr_field, parse_fault.the_field_send) depth 40 fits 10000

news_field : IsSend (news.the_field).row
news_field = search (plain, expr_field, done_send, parsed_field, seen_field, noted.the_field_send) depth 40 fits 10000

entrant_field : IsSend (entrant.the_field).row
entrant_field = search (plain, expr_field, outcome_field) depth 40 fits 10000

entrants_send : IsSend entrants.the_row
entrants_send = search (plain, expr_field, entrant_field) depth 40 fits 10000

text_field : IsSend (text.the_field).row
text_field = search (plain, expr_field, scan_field, noted.the_field_send, parse_fault.the_field_send) depth 40 fits 10000

look_field : IsSend (look.the_field).row
look_field = search (plain, expr_field, seen_field) depth 40 fits 10000

pub table_send : (W : RattleType) (G : world.Ghosts W.Denot) → IsSend W → IsSend (table.the_row W G)
table_send W G w = search (sendable, crosses, maps.crosses, scan_field, entrants_send, text_field, look_field, news_field, scratch.the_send, flight.the_send, flight.the_field_send, job.the_send, job.the_field_send, step.the_send, step.the_field_send, order.the_send, order.the_field_send, phantom.the_send, phantom.the_field_send) depth 40 fits 10000
