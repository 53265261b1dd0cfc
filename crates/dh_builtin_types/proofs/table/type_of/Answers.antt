use Rattle.dh_store.specs.Cells.{code_core}
use Rattle.dh_types.proofs.ClosedRulings.{closed-builtin}
use Rattle.dh_builtin_types.proofs.table.type_of.Goals as goal

pub returns-clause-closed : goal.returns-clause-closed
returns-clause-closed c = closed-builtin (code_core c.built.new.codes) c.args.builtin c.built.result c.built.ensures.core
