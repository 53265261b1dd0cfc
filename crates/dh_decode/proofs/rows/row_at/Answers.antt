use Rattle.std.proofs.Common.{◌∙◌}
use Rattle.dh_binary.specs.Stubs.{Kept}
use Rattle.dh_decode.proofs.RowLaws.{row_same}
use Rattle.dh_decode.proofs.rows.row_at.Goals as goal

pub returns : goal.returns
returns c = c.row_of.ensures ∙ row_same {T = Kept} c.args.code c.args.items
