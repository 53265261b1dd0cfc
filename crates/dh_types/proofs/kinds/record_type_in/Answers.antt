use Rattle.dh_types.proofs.PartRows.{record-ascends, record-closed, record-lengths, record-row}
use Rattle.dh_types.proofs.kinds.record_type_in.Goals as goal

pub returns-in-RecordType-clause-view : goal.returns-in-RecordType-clause-view
returns-in-RecordType-clause-view c = record-row c.args.op.now c.in-RecordType.labels c.as_slice.result.now c.args.kids.now c.in-RecordType.is c.as_slice.ensures c.requires.fits

pub returns-in-RecordType-clause-lengths : goal.returns-in-RecordType-clause-lengths
returns-in-RecordType-clause-lengths c = record-lengths c.args.op.now c.in-RecordType.labels c.as_slice.result.now c.args.kids.now c.in-RecordType.is c.as_slice.ensures c.requires.fits

pub returns-in-RecordType-clause-ascends : goal.returns-in-RecordType-clause-ascends
returns-in-RecordType-clause-ascends c = record-ascends c.args.op.now c.in-RecordType.labels c.as_slice.result.now c.args.kids.now c.in-RecordType.is c.as_slice.ensures c.requires.fits

pub returns-in-RecordType-clause-closed : goal.returns-in-RecordType-clause-closed
returns-in-RecordType-clause-closed c = λ f h. record-closed c.args.op.now c.in-RecordType.labels c.as_slice.result.now c.args.kids.now c.in-RecordType.is c.as_slice.ensures c.requires.fits f h
