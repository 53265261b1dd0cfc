use Rattle.std.specs.Prelude.{◌≤◌, length}
use Rattle.std.specs.Option.{option_copied}
use Rattle.std.proofs.Common.{ap, arith, subst, sym, ◌∙◌}
use Rattle.dh_syntax.specs.Expressions.Bridge.{term}
use Rattle.dh_imports.specs.Walk.{keys_of}
use Rattle.dh_demand.specs.Scans.{Begins, imports}
use Rattle.dh_demand.proofs.Edges.{count-keys}
use Rattle.dh_demand.proofs.Straight.{imports-enough, straight-next}
use Rattle.dh_demand.proofs.resuming.next_past.Goals as goal

pub next_of-next-requires-clause-count : goal.next_of-next-requires-clause-count
next_of-next-requires-clause-count g c =
    let m : imports (term c.args.scan.now.expr) ≤ length c.args.scan.now.edges =
    imports-enough (option_copied c.args.parent) (g.R.Results.rows c.args.results.now) (term c.args.scan.now.expr) c.args.scan.now.edges c.requires.fits.begins in
    omega (arith, m, c.requires.count, ap length c.as_slice.ensures)

pub returns-clause-next : goal.returns-clause-next
returns-clause-next g c =
    let parent = option_copied c.args.parent in
    let rows = g.R.Results.rows c.args.results.now in
    let e = term c.args.scan.now.expr in
    straight-next parent rows e c.next_of-next.result.0 c.requires.straight
    (c.next_of-next.ensures.next (keys_of parent e) (subst (Begins parent rows (keys_of parent e)) (sym c.as_slice.ensures) c.requires.fits.begins) (count-keys parent e ∙ sym c.requires.count) c.requires.passed)

pub returns-clause-way : goal.returns-clause-way
returns-clause-way g c =
    let parent = option_copied c.args.parent in
    let rows = g.R.Results.rows c.args.results.now in
    let e = term c.args.scan.now.expr in
    record {
      straight = c.requires.straight;
      count = c.requires.count;
      are_passed =
          c.next_of-next.ensures.passed (keys_of parent e) (subst (Begins parent rows (keys_of parent e)) (sym c.as_slice.ensures) c.requires.fits.begins) (count-keys parent e ∙ sym c.requires.count)
          c.requires.passed;
    }
