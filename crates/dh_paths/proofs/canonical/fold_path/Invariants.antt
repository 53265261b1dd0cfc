use Rattle.std.proofs.Common.{◌≡◌, ◌<◌, ◌≤◌, take, drop, vec_len}
use Rattle.dh_syntax.specs.Imports.Locations.{canon_path}
use Rattle.dh_paths.proofs.canonical.fold_path.Given as goal

abbrev pub invariant-loop-at : goal.invariant-loop-at
invariant-loop-at l =
    record {
      before : l.at ≤ l.top;
      within : l.top ≤ vec_len l.comps;
      inside : 0 < l.at → l.top < vec_len l.comps;
      len : vec_len l.comps ≡ vec_len l.fn.comps;
      path : drop l.top l.comps.items ≡ canon_path (drop l.at l.fn.comps.items);
      rest : take l.at l.comps.items ≡ take l.at l.fn.comps.items;
    }

abbrev pub decreases-loop-at : goal.decreases-loop-at
decreases-loop-at l = l.at
