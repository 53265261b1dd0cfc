use Rattle.std.proofs.Common.{◌∙◌}
use Rattle.dh_decode.proofs.RowLaws.{scheme_same}
use Rattle.dh_decode.proofs.rows.scheme_fits.Goals as goal

pub returns : goal.returns
returns c = c.fits.ensures ∙ scheme_same c.args.scheme c.args.items
