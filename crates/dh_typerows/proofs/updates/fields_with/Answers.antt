use Rattle.std.proofs.Common.{arith}
use Rattle.dh_store.specs.Cells.{code_core}
use Rattle.dh_store.specs.Growth.{count}
use Rattle.dh_typerows.proofs.FoundFields.{kids-below}
use Rattle.dh_typerows.proofs.PickedFields.{ids-there}
use Rattle.dh_typerows.proofs.PathLevels.{set-view}
use Rattle.dh_typerows.proofs.updates.fields_with.Goals as goal

pub returns-clause-view : goal.returns-clause-view
returns-clause-view c =
    set-view (code_core c.args.codes.now) c.in-Some.labels.now c.in_ok-name.name c.as_slice-2.result.now c.args.x.now c.in-Some.kids.now c.in_ok-own.own c.as_slice.result.now c.args.u (code_core c.args.codes.now c.args.t) c.in_ok-fields.fields
    c.in-Some.ensures.view c.in_ok-own.ensures c.as_slice.ensures c.in_ok-name.ensures c.as_slice-2.ensures (c.in_ok-fields.ensures.fields (code_core c.args.codes.now)) c.in_ok-fields.ensures.paired

pub returns-clause-shape : goal.returns-clause-shape
returns-clause-shape c = (
  c.in_ok-fields.ensures.below (count c.args.codes.now)
      (ids-there (count c.args.codes.now) c.in-Some.kids.now c.in_ok-own.own c.as_slice.result.now c.in_ok-own.ensures c.as_slice.ensures
      (kids-below c.args.t (count c.args.codes.now) c.in-Some.kids.now (omega (arith, c.requires.own)) c.in-Some.ensures.older))
      (c.requires.there, tt),
  c.in_ok-fields.ensures.ascends,
  c.in_ok-fields.ensures.paired,
)
