use Rattle.std.proofs.Common.{◌≡◌, drop}
use Rattle.dh_syntax.specs.Expressions.Bridge.{row_of}
use Rattle.dh_imports.specs.Walk.{keys_of_row}
use Rattle.dh_demand.specs.Nexts.{IsInside}
use Rattle.dh_demand.specs.Scans.{AreInside, Begins, imports_of_parts}
use Rattle.dh_demand.proofs.Seeing.{SoFar}
use Rattle.dh_demand.proofs.walks.+walk.Given as goal

abbrev pub invariant-walk_kids-loop-kid : goal.invariant-walk_kids-loop-kid
invariant-walk_kids-loop-kid g l =
    let s = g.V.Visitor.sight l.visitor in
    record {
      left : drop (imports_of_parts (row_of (drop l.kid-index l.kids))) l.rest ≡ drop (imports_of_parts (row_of l.kids)) l.edges;
      rest_inside : AreInside s.rows l.rest;
      next_inside : IsInside s.rows l.next;
      so_far : Begins s.parent s.rows (keys_of_row s.parent (row_of l.kids)) l.edges
          → SoFar s l.unspelled l.choice l.comes l.kids l.kid-index l.edges l.fn.slots l.here l.next l.slots l.rest;
    }
