use Rattle.std.proofs.Common.{ap, sym, refl}
use Rattle.std.proofs.lemmas.Result.{IfOk-weaker}
use Rattle.dh_syntax.specs.Typing.NamelessTyping.{mentions}
use Rattle.dh_store.specs.Cells.{code_core}
use Rattle.dh_types.proofs.BoundVariables.{mentions-bound}
use Rattle.dh_types.proofs.Comparisons.{row-told}
use Rattle.dh_types.proofs.binders.look.Goals as goal

pub returns-in-Bound : goal.returns-in-Bound
returns-in-Bound c = mentions-bound (code_core c.args.codes.now c.args.place.id) c.in-Bound.index c.in-Bound.index c.args.place.level c.in-Bound.ensures refl

pub returns-in-Node : goal.returns-in-Node
returns-in-Node c =
    IfOk-weaker c.mentioned_in.result _ _
    (λ o h. row-told o _ (mentions c.args.place.level (code_core c.args.codes.now c.args.place.id)) (sym (ap (mentions c.args.place.level) c.in-Node.ensures.core)) (h (code_core c.args.codes.now) c.requires.tells))
    c.mentioned_in.ensures
