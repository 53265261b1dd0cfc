use Rattle.std.proofs.Common.{◌≡◌, drop, Option}
use Rattle.dh_syntax.specs.declared.locations.Loc.{Loc}
use Rattle.dh_syntax.specs.Expressions.Bridge.{row_of}
use Rattle.dh_imports.specs.Walk.{keys_of_row}
use Rattle.dh_demand.specs.Scans.{AreInside, Begins, imports_of_parts}
use Rattle.dh_demand.proofs.Building.{BuiltSoFar}
use Rattle.dh_demand.proofs.assembling.+assemble.Given as goal

abbrev pub invariant-assemble_kids-loop-kid : goal.invariant-assemble_kids-loop-kid
invariant-assemble_kids-loop-kid g l = record {
  left : drop (imports_of_parts (row_of (drop l.kid-index l.kid-items))) l.rest ≡ drop (imports_of_parts (row_of l.kid-items)) l.edges;
  rest_inside : AreInside (g.R.Results.rows l.results) l.rest;
  so_far : (parent : Option Loc) → Begins parent (g.R.Results.rows l.results) (keys_of_row parent (row_of l.kid-items)) l.edges
      → BuiltSoFar parent (g.R.Results.rows l.results) l.kid-items l.kid-index l.done l.failed l.rest;
}
