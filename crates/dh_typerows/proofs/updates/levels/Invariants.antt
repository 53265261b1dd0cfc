use Rattle.std.proofs.Common.{◌≡◌, ◌<◌, length}
use Rattle.dh_store.specs.Cells.{code_core, AreBelow}
use Rattle.dh_store.specs.Growth.{count}
use Rattle.dh_typerows.proofs.PathLevels.{AreLevelsSoFar, IsSetSoFar}
use Rattle.dh_typerows.proofs.updates.levels.Given as goal

abbrev pub invariant-loop-x : goal.invariant-loop-x
invariant-loop-x l = record {
  levels : AreLevelsSoFar (code_core l.codes) l.path (code_core l.codes l.t) l.x-index l.levels.items (code_core l.codes l.at);
  set : IsSetSoFar (code_core l.codes) l.path (code_core l.codes l.t) l.x-index (code_core l.codes l.at);
  counted : length l.levels.items ≡ l.x-index;
  below : AreBelow (count l.codes) l.levels.items;
  there : l.at < count l.codes;
}
