use Rattle.std.proofs.Common.{◌<◌, ◌≤◌, length}
use Rattle.dh_store.specs.Cells.{code_core}
use Rattle.dh_store.specs.Growth.{count}
use Rattle.dh_types.specs.Growing.{Grows}
use Rattle.dh_typerows.proofs.PathLevels.{IsBuiltFrom}
use Rattle.dh_typerows.proofs.updates.rebuilt.Given as goal

abbrev pub invariant-loop-i : goal.invariant-loop-i
invariant-loop-i l = record {
  built : IsBuiltFrom l.fn.codes l.path l.levels (code_core l.fn.codes l.v) l.i (code_core l.codes l.code);
  grows : Grows l.fn.codes l.codes;
  there : l.code < count l.codes;
  within : l.i ≤ length l.path;
}

abbrev pub decreases-loop-i : goal.decreases-loop-i
decreases-loop-i l = l.i
