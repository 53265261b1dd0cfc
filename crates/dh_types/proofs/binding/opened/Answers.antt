use Rattle.dh_store.specs.Cells.{code_core}
use Rattle.dh_types.specs.Closed.{IsClosed}
use Rattle.dh_types.proofs.BoundTypes.{put-closed, put-first}
use Rattle.dh_types.proofs.Grown.{made-as, stands-as}
use Rattle.dh_types.proofs.binding.opened.Goals as goal

pub returns-clause-made : goal.returns-clause-made
returns-clause-made c =
    stands-as c.changed.new.codes c.changed.result _ _ (put-first (code_core c.args.codes.now c.args.argument) c.requires.argument_closed (code_core c.args.codes.now c.args.body) c.requires.body_closed) c.changed.ensures.made

pub returns-clause-closed : goal.returns-clause-closed
returns-clause-closed c =
    made-as IsClosed c.changed.new.codes c.changed.result _ (put-closed (code_core c.args.codes.now c.args.argument) c.requires.argument_closed (code_core c.args.codes.now c.args.body) c.requires.body_closed) c.changed.ensures.made
