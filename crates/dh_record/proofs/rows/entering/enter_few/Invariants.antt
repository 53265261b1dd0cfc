use Rattle.std.specs.Prelude.{◌≤◌, None, length, take}
use Rattle.dh_record.specs.Entering.{AreMore, AreEdges, entered_all, keys_in}
use Rattle.dh_record.specs.Rows.{rows_of}
use Rattle.dh_record.proofs.rows.entering.enter_few.Given as goal

abbrev pub invariant-loop-key : goal.invariant-loop-key
invariant-loop-key l = record {
  few : length l.keys ≤ l.most;
  entered : AreMore l.fn.keys (entered_all (keys_in l.fn.keys) (take l.key-index l.imports)) l.keys;
  edges : AreEdges None (rows_of l.keys) (take l.key-index l.imports) l.edges;
}
