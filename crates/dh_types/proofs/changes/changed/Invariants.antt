use Rattle.dh_types.specs.Growing.{Grows}
use Rattle.dh_types.specs.Inside.Changes.{AreChanged}
use Rattle.dh_types.proofs.changes.changed.Given as goal

abbrev pub invariant-places : goal.invariant-places
invariant-places l = record { grows : Grows l.fn.codes l.codes; made : AreChanged l.codes l.change l.memo }
