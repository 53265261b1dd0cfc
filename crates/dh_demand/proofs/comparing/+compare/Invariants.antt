use Rattle.std.proofs.Common.{◌≡◌, ◌≤◌, drop, length, Option}
use Rattle.std.specs.Option.{option_copied}
use Rattle.dh_syntax.specs.declared.locations.Loc.{Loc}
use Rattle.dh_syntax.specs.Expressions.Bridge.{row_of}
use Rattle.dh_imports.specs.Walk.{keys_of_row}
use Rattle.dh_demand.specs.Scans.{AreInside, Begins, imports_of_parts}
use Rattle.dh_demand.proofs.Compared.{ComparedSoFar}
use Rattle.dh_demand.proofs.comparing.+compare.Given as goal

abbrev pub invariant-compare_kids-loop-i : goal.invariant-compare_kids-loop-i
invariant-compare_kids-loop-i g l = record {
  most : l.i ≤ length l.kids;
  left : drop (imports_of_parts (row_of (drop l.i l.kids))) l.rest ≡ drop (imports_of_parts (row_of l.kids)) l.edges;
  rest_inside : AreInside (g.R.Results.rows l.results) l.rest;
  so_far : (parent : Option Loc) → Begins parent (g.R.Results.rows l.results) (keys_of_row parent (row_of l.kids)) l.edges
      → ComparedSoFar parent (g.R.Results.rows l.results) l.kids (option_copied l.others) l.i l.same l.rest;
}
