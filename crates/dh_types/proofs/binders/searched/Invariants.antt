use Rattle.dh_store.specs.Cells.{code_core}
use Rattle.dh_types.specs.Inside.Comparing.{TellsMentioned}
use Rattle.dh_types.proofs.binders.searched.Given as goal

abbrev pub invariant-places : goal.invariant-places
invariant-places l = TellsMentioned (code_core l.codes) l.memo
