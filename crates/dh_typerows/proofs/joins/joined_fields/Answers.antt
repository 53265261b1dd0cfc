use Rattle.std.proofs.Common.{arith}
use Rattle.dh_store.specs.Cells.{code_core}
use Rattle.dh_store.specs.Growth.{count}
use Rattle.dh_types.specs.Parts.{fields_of}
use Rattle.dh_typerows.proofs.FoundFields.{kids-below}
use Rattle.dh_typerows.proofs.JoinedRecords.{joined-shape, joined-view, no-left, no-right}
use Rattle.dh_typerows.proofs.joins.joined_fields.Goals as goal

pub returns-in-Some-record_type-clause-view : goal.returns-in-Some-record_type-clause-view
returns-in-Some-record_type-clause-view c =
    joined-view (code_core c.args.codes.now) c.args.memo.now (code_core c.args.codes.now c.args.couple.left) (code_core c.args.codes.now c.args.couple.right) c.in-Some.xs.now c.in-Some-record_type.ys.now c.in-Some.kids.now
    c.in-Some-record_type.others.now c.both.result c.in-Some.ensures.view c.in-Some-record_type.ensures.view c.requires.joined.joins c.both.ensures.view

pub returns-in-Some-record_type-clause-shape : goal.returns-in-Some-record_type-clause-shape
returns-in-Some-record_type-clause-shape c =
    joined-shape (count c.args.codes.now) c.args.memo.now c.in-Some.kids.now c.in-Some-record_type.others.now c.both.result
    (kids-below c.args.couple.left (count c.args.codes.now) c.in-Some.kids.now (omega (arith, c.requires.left)) c.in-Some.ensures.older)
    (kids-below c.args.couple.right (count c.args.codes.now) c.in-Some-record_type.others.now (omega (arith, c.requires.right)) c.in-Some-record_type.ensures.older) c.requires.joined.found c.both.ensures.shape

pub returns-in-None-record_type-clause-view : goal.returns-in-None-record_type-clause-view
returns-in-None-record_type-clause-view c =
    no-right c.args.codes.now c.requires.coded c.args.couple.left c.args.couple.right (fields_of (code_core c.args.codes.now) c.in-Some.xs.now c.in-Some.kids.now) c.in-Some.ensures.view c.in-None-record_type.ensures.view

pub returns-in-None-clause-view : goal.returns-in-None-clause-view
returns-in-None-clause-view c = no-left c.args.codes.now c.requires.coded c.args.couple.left c.args.couple.right c.in-None.ensures.view
