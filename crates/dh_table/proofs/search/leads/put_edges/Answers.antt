use Rattle.std.proofs.Common.{◌∙◌}
use Rattle.std.specs.Prelude.{false}
use Rattle.dh_demand.specs.declared.scans.Edge.{Edge}
use Rattle.dh_table.proofs.Searched.{edge_put}
use Rattle.dh_table.proofs.search.leads.put_edges.Goals as goal

-- what stands past the end
abbrev nothing : Edge
nothing = record { key = 0; sane = false }

pub loop-edge-preserved : goal.loop-edge-preserved
loop-edge-preserved c = record {
  put = edge_put c.loop-edge.edge-index c.args.edges.now nothing c.loop-edge-test.true c.args.marks.now c.args.piles.now c.loop-edge.piles c.put_marked.new.piles c.put_marked.ensures.put c.put_marked.ensures.on c.loop-edge.invariant.put;
  len = c.put_marked.ensures.len ∙ c.loop-edge.invariant.len;
}
