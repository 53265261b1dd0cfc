use Rattle.std.proofs.Common.{arith, sym}
use Rattle.dh_records.proofs.Selects.{index_within}
use Rattle.dh_typerows.proofs.FoundFields.{below-at, found-field, missing-field, no-kid}
use Rattle.dh_typerows.proofs.fields.field_at.Goals as goal

pub offset_bounds-kids-i : goal.offset_bounds-kids-i
offset_bounds-kids-i c = omega (arith, c.requires.paired, index_within c.args.labels.now c.args.x.now c.in-Some.i (sym c.in-Some.ensures))

pub bounds-kids-i : goal.bounds-kids-i
bounds-kids-i c = omega (arith, c.requires.paired, index_within c.args.labels.now c.args.x.now c.in-Some.i (sym c.in-Some.ensures))

pub bounds-kids-i-in-Some : goal.bounds-kids-i-in-Some
bounds-kids-i-in-Some c = omega (arith, c.requires.paired, index_within c.args.labels.now c.args.x.now c.in-Some.i (sym c.in-Some.ensures))

pub returns-in-Some-clause-view : goal.returns-in-Some-clause-view
returns-in-Some-clause-view c = λ f. found-field f c.index-kids-i.result c.args.x.now c.args.labels.now c.args.kids.now c.in-Some.i c.requires.paired c.in-Some.ensures

pub returns-in-Some-clause-below : goal.returns-in-Some-clause-below
returns-in-Some-clause-below c =
    λ n h. below-at n c.args.kids.now c.in-Some.i c.index-kids-i.result h (let w = index_within c.args.labels.now c.args.x.now c.in-Some.i (sym c.in-Some.ensures) in omega (arith, c.requires.paired, w))

pub returns-in-None-clause-view : goal.returns-in-None-clause-view
returns-in-None-clause-view c = λ f. missing-field f no-kid c.args.x.now c.args.labels.now c.args.kids.now c.requires.paired c.in-None.ensures
