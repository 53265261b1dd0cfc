use Rattle.std.proofs.Common.{◌≡◌, drop, map}
use Rattle.dh_syntax.specs.declared.operators.Builtin.TheVariants.{Sort}
use Rattle.dh_syntax.specs.Typing.TypeViews.{is_constant, one_of}
use Rattle.dh_store.specs.Cells.{code_core}
use Rattle.dh_typerows.proofs.records.has_sort.Given as goal

abbrev pub invariant-loop-t : goal.invariant-loop-t
invariant-loop-t l = one_of (is_constant Sort) (map (code_core l.codes) (drop l.t-index l.types)) ≡ one_of (is_constant Sort) (map (code_core l.codes) l.types)
