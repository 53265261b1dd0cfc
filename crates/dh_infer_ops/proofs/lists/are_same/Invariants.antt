use Rattle.std.proofs.Common.{◌≡◌, drop, map}
use Rattle.dh_syntax.specs.Normalising.NamelessRuns.{nameless_eq}
use Rattle.dh_syntax.specs.Typing.TypeViews.{each}
use Rattle.dh_store.specs.Cells.{code_core}
use Rattle.dh_infer_ops.proofs.lists.are_same.Given as goal

abbrev pub invariant-loop-u : goal.invariant-loop-u
invariant-loop-u l = each (nameless_eq (code_core l.codes l.t)) (map (code_core l.codes) (drop l.u-index l.types)) ≡ each (nameless_eq (code_core l.codes l.t)) (map (code_core l.codes) l.types)
