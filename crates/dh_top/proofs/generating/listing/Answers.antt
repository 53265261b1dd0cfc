use Rattle.dh_top.proofs.Generated.{misspelt_listed}
use Rattle.dh_top.proofs.generating.listing.Goals as goal

pub returns-in_default : goal.returns-in_default
returns-in_default g c = misspelt_listed c.misspelling.result c.args.text.now c.in-Err.fault (c.in-Err.ensures.refused c.in_default.not-Memory) c.misspelling.ensures
