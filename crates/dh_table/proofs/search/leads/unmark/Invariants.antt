use Rattle.std.specs.Prelude.{◌≡◌, ℕ, false, length}
use Rattle.dh_table.specs.Inside.Searching.{HasEdge}
use Rattle.dh_record.specs.Marks.{is_set}
use Rattle.dh_table.proofs.search.leads.unmark.Given as goal

abbrev pub invariant-loop-edge : goal.invariant-loop-edge
invariant-loop-edge l = record {
  off : (x : ℕ) → HasEdge l.edge-index l.edges x → is_set l.marks x ≡ false;
  len : length l.marks ≡ length l.fn.marks;
}
