use Rattle.std.proofs.Common.{◌≡◌, drop, map}
use Rattle.dh_syntax.specs.declared.operators.Builtin.TheVariants.{Text}
use Rattle.dh_syntax.specs.Typing.TypeViews.{each, is_constant}
use Rattle.dh_store.specs.Cells.{code_core}
use Rattle.dh_infer_ops.proofs.lists.are_texts.Given as goal

abbrev pub invariant-loop-t : goal.invariant-loop-t
invariant-loop-t l = each (is_constant Text) (map (code_core l.codes) (drop l.t-index l.types)) ≡ each (is_constant Text) (map (code_core l.codes) l.types)
