use Rattle.std.specs.Prelude.{◌≡◌, ◌⊎◌, true}
use Rattle.dh_table.specs.Inside.Searching.{HasEdge}
use Rattle.dh_record.specs.Marks.{is_set}
use Rattle.dh_table.proofs.search.leads.pick.Given as goal

abbrev pub invariant-loop-edge : goal.invariant-loop-edge
invariant-loop-edge l = (l.best ≡ l.first) ⊎ (HasEdge l.edge-index l.edges l.best × (is_set l.marks l.best ≡ true))
