use Rattle.std.proofs.Common.{refl}
use Rattle.dh_decode.specs.Inside.Views.{names_of}
use Rattle.dh_decode.proofs.EntryLaws.{put_none, names_put}
use Rattle.dh_decode.proofs.entries.put_name.Goals as goal

pub returns-then-has_name : goal.returns-then-has_name
returns-then-has_name c = put_none _ (names_of c.args.names.entries) c.has_name.result c.has_name.ensures.fresh c.if-has_name.true

pub returns-in-Ok : goal.returns-in-Ok
returns-in-Ok c = names_put c.args.name c.args.names.entries c.insert.new.self.entries c.has_name.result c.has_name.ensures.same c.if-has_name.false c.in-Ok.ensures.entries
