use Rattle.dh_store.specs.Cells.{code_core}
use Rattle.dh_types.specs.Inside.Comparing.{TellsSame}
use Rattle.dh_types.proofs.sameness.same.Given as goal

abbrev pub invariant-pairs : goal.invariant-pairs
invariant-pairs l = TellsSame (code_core l.codes) l.memo
