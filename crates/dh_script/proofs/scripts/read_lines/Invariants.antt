use Rattle.std.proofs.Common.{◌+◌, ◌≤◌, length}
use Rattle.std.specs.Prelude.{All}
use Rattle.dh_watch_laws.specs.ScriptLines.{lines_of}
use Rattle.dh_script.specs.Orders.{IsFit, orders_of}
use Rattle.dh_script.proofs.Lining.{HasRead}
use Rattle.dh_script.proofs.scripts.read_lines.Given as goal

abbrev pub invariant-loop-rest : goal.invariant-loop-rest
invariant-loop-rest l = record {
  read : HasRead (lines_of l.fn.text) (lines_of l.rest) (orders_of l.orders.items) l.number;
  few : l.number + length l.rest ≤ length l.fn.text;
  fit : All IsFit l.orders.items;
}

abbrev pub decreases-loop-rest : goal.decreases-loop-rest
decreases-loop-rest l = length l.rest
