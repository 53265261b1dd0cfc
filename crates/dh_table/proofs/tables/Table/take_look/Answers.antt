use Rattle.std.proofs.Common.{sym}
use Rattle.dh_table.proofs.tables.Table.take_look.Goals as goal

pub refuse_late-requires-then-own-serial-clause-late : goal.refuse_late-requires-then-own-serial-clause-late
refuse_late-requires-then-own-serial-clause-late g c flies = c.if-own-serial.true (sym (c.in-Some.ensures.only c.args.ticket.serial flies))
