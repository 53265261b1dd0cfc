use Rattle.std.specs.Prelude.{◌≡◌, length}
use Rattle.dh_table.specs.Inside.Searching.{AreEdgesPut}
use Rattle.dh_table.proofs.search.leads.put_edges.Given as goal

abbrev pub invariant-loop-edge : goal.invariant-loop-edge
invariant-loop-edge l = record {
  put : AreEdgesPut l.edge-index l.edges l.marks l.fn.piles l.piles;
  len : length l.piles ≡ length l.fn.piles;
}
