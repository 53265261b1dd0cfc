use Rattle.dh_record.specs.Keeping.{AreLeast}
use Rattle.dh_record.proofs.keeps.fresh.least_fresh.Given as goal

abbrev pub invariant-loop-i : goal.invariant-loop-i
invariant-loop-i l = AreLeast l.keys l.looks l.marks l.i l.found.items
