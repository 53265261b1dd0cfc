use Rattle.std.proofs.Common.{rules}
use Rattle.dh_syntax.specs.Expressions.Forms.{forall}
use Rattle.dh_store.specs.Cells.{code_core}
use Rattle.dh_types.specs.Closed.{IsClosed}
use Rattle.dh_types.proofs.ClosedParts.{forall-closed}
use Rattle.dh_types.proofs.Grown.{made-as}
use Rattle.dh_types.proofs.building.function_type.Goals as goal

pub returns-clause-closed : goal.returns-clause-closed
returns-clause-closed c = λ p q.
    let domain = code_core c.args.codes.now c.args.domain in
    let range = code_core c.args.codes.now c.args.range in
    made-as IsClosed c.node.new.codes c.node.result (forall c.args.x domain range) (forall-closed c.args.x domain range p q) (search rules)
