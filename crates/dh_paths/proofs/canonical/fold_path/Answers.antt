use Rattle.std.proofs.Common.{◌≡◌, ◌-◌, ◌<◌, length, drop, refl, sym, ◌∙◌, ap, subst, arith}
use Rattle.dh_syntax.specs.Imports.Locations.{canon_path}
use Rattle.dh_syntax.proofs.LocationLaws.{canon_path-twice}
use Rattle.dh_paths.proofs.Paths.{canon_path_step, canon_path_start, take_less}
use Rattle.dh_paths.proofs.canonical.fold_path.Goals as goal

pub loop-at-init : goal.loop-at-init
loop-at-init c =
    let len = c.args.comps.now.ok.0 in
    let last : length c.args.comps.now.items - 1 ≡ c.saturating_sub-at.result = omega (arith, len) in
    record {
      before = omega arith;
      within = omega arith;
      inside = λ more. omega arith;
      len = refl;
      path = subst (λ n. drop n c.args.comps.now.items ≡ canon_path (drop n c.args.comps.now.items)) last (canon_path_start c.args.comps.now.items);
      rest = refl;
    }

pub put_before-top-requires-clause-canonical : goal.put_before-top-requires-clause-canonical
put_before-top-requires-clause-canonical c =
    let path = c.loop-at.invariant.path in ap canon_path path ∙ canon_path-twice (drop c.loop-at.at c.args.comps.now.items) ∙ sym path

pub loop-at-preserved : goal.loop-at-preserved
loop-at-preserved c =
    let long : 0 < c.loop-at.at = omega arith in
    let inside = c.loop-at.invariant.inside long in
    record {
      before = omega arith;
      within = omega arith;
      inside = λ more. omega arith;
      len = c.put_before-top.ensures.len ∙ c.loop-at.invariant.len;
      path = c.put_before-top.ensures.path ∙ canon_path_step c.args.comps.now.items c.loop-at.comps.items c.loop-at.at c.loop-at.top (omega (arith, inside, c.args.comps.now.ok.0)) long c.loop-at.invariant.rest c.loop-at.invariant.path;
      rest = c.put_before-top.ensures.rest ∙ take_less c.loop-at.comps.items c.args.comps.now.items _ c.loop-at.at (omega arith) c.loop-at.invariant.rest;
    }
