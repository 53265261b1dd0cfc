use Rattle.std.proofs.Common.{◌≡◌, drop}
use Rattle.dh_syntax.specs.Normalising.NamelessRuns.{nameless_eq}
use Rattle.dh_syntax.specs.Typing.TypeViews.{each}
use Rattle.dh_store.specs.Cells.{code_core}
use Rattle.dh_types.specs.Parts.{cores_of}
use Rattle.dh_typerows.proofs.maps.are_values.Given as goal

abbrev pub invariant-loop-kid : goal.invariant-loop-kid
invariant-loop-kid l = each (nameless_eq (code_core l.codes l.v)) (cores_of (code_core l.codes) (drop l.kid-index l.kids)) ≡ each (nameless_eq (code_core l.codes l.v)) (cores_of (code_core l.codes) l.kids)
