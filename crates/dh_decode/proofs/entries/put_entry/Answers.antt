use Rattle.std.proofs.Common.{refl}
use Rattle.dh_decode.specs.Inside.Views.{entries_of}
use Rattle.dh_decode.proofs.EntryLaws.{entries_kept, entries_put}
use Rattle.dh_decode.proofs.entries.put_entry.Goals as goal

pub returns-then-has_entry : goal.returns-then-has_entry
returns-then-has_entry c = entries_kept c.args.name c.args.value c.args.entries.entries c.has_entry.result c.has_entry.ensures.ordered c.has_entry.ensures.same c.if-has_entry.true

pub returns-in-Ok : goal.returns-in-Ok
returns-in-Ok c = entries_put c.args.name c.args.value c.args.entries.entries c.insert.new.self.entries c.has_entry.result c.has_entry.ensures.same c.if-has_entry.false c.in-Ok.ensures.entries
