use Rattle.std.specs.Prelude.{◌≤◌, ◌^◌, length, take}
use Rattle.std.specs.Option.{option_copied}
use Rattle.dh_record.specs.Entering.{AreMore, AreEdges, entered_all, keys_in}
use Rattle.dh_record.specs.Rows.{rows_of}
use Rattle.dh_record.proofs.rows.entering.enter_all.Given as goal

abbrev pub invariant-loop-key : goal.invariant-loop-key
invariant-loop-key l = record {
  few : length l.keys ≤ 2 ^ 32;
  entered : AreMore l.fn.keys (entered_all (keys_in l.fn.keys) (take l.key-index l.imports)) l.keys;
  edges : AreEdges (option_copied l.parent) (rows_of l.keys) (take l.key-index l.imports) l.edges;
}
