use Rattle.dh_store.specs.Cells.{code_core}
use Rattle.dh_store.specs.Growth.{count}
use Rattle.dh_typerows.proofs.PickedFields.{ids-there, preferred-forms}
use Rattle.dh_typerows.proofs.preferring.preferred.Goals as goal

pub returns-clause-rule : goal.returns-clause-rule
returns-clause-rule c = λ facts.
    preferred-forms facts (code_core c.args.codes.now) c.args.xs.now c.args.ys.now c.in_ok-labels.labels c.args.kids.now c.args.others.now c.in_ok-left.left c.as_slice.result.now c.in_ok-right.right c.as_slice-2.result.now
    c.in_ok-labels.types c.in_ok-left.ensures c.as_slice.ensures c.in_ok-right.ensures c.as_slice-2.ensures (c.in_ok-labels.ensures.fields (code_core c.args.codes.now)) c.in_ok-labels.ensures.paired

pub returns-clause-there : goal.returns-clause-there
returns-clause-there c = (
  c.in_ok-labels.ensures.below (count c.args.codes.now)
      (ids-there (count c.args.codes.now) c.args.kids.now c.in_ok-left.left c.as_slice.result.now c.in_ok-left.ensures c.as_slice.ensures c.requires.left_there)
      (ids-there (count c.args.codes.now) c.args.others.now c.in_ok-right.right c.as_slice-2.result.now c.in_ok-right.ensures c.as_slice-2.ensures c.requires.right_there),
  c.in_ok-labels.ensures.ascends,
  c.in_ok-labels.ensures.paired,
)
