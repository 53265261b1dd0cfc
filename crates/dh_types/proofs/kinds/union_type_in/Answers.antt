use Rattle.dh_types.proofs.PartRows.{union-row}
use Rattle.dh_types.proofs.kinds.union_type_in.Goals as goal

pub returns-in-Union-clause-view : goal.returns-in-Union-clause-view
returns-in-Union-clause-view c = union-row c.args.op.now c.in-Union.alts c.as_slice.result.now c.args.kids.now c.in-Union.is c.as_slice.ensures c.requires.fits
