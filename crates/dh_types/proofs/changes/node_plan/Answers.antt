use Rattle.dh_store.specs.Cells.{code_core}
use Rattle.dh_store.specs.Growth.{count}
use Rattle.dh_types.specs.Inside.Changes.{leaf_by}
use Rattle.dh_types.proofs.ChangedCodes.{node-made}
use Rattle.dh_types.proofs.changes.node_plan.Goals as goal

pub returns : goal.returns
returns c =
    node-made c.args.codes.now c.args.change c.args.level c.args.op.now c.in_ok-copied.field-0 c.args.kids.now c.in_ok-kids.kids c.in_ok-copied.ensures
    (c.in_ok-kids.ensures.row (code_core c.args.codes.now) (leaf_by (code_core c.args.codes.now) c.args.change) (λ a k d e. (c.requires.made.made a k d e).core))
    (c.in_ok-kids.ensures.below (count c.args.codes.now) (λ a k d e. (c.requires.made.made a k d e).there)) c.in_ok-kids.ensures.shape c.requires.fits
