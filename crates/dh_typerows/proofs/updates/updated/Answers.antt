use Rattle.std.proofs.Common.{sym, ◌∙◌}
use Rattle.dh_store.specs.Cells.{code_core}
use Rattle.dh_typerows.proofs.PathLevels.{found-levels, update-sort}
use Rattle.dh_typerows.proofs.updates.updated.Goals as goal

pub returns-then-is_constant-clause-rule : goal.returns-then-is_constant-clause-rule
returns-then-is_constant-clause-rule c = λ facts.
    let levels = found-levels (code_core c.args.codes.now) c.args.path.now (code_core c.args.codes.now c.args.t) c.in_ok-levels.field-0 c.in-Some.levels c.in-Some.is c.in_ok-levels.ensures.levels in
    update-sort facts c.args.path.now (code_core c.args.codes.now c.args.t) (code_core c.args.codes.now c.args.v) (levels.set (code_core c.args.codes.now c.args.v)) (sym c.is_constant.ensures ∙ c.if-is_constant.true)
