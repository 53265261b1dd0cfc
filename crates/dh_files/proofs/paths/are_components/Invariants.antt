use Rattle.std.proofs.Common.{◌≡◌, ◌≤◌, ◌-◌, length, drop}
use Rattle.dh_files.specs.Inside.Walked.{are_components}
use Rattle.dh_files.proofs.paths.are_components.Given as goal

abbrev pub invariant-components : goal.invariant-components
invariant-components l = record {
  within : l.at ≤ length l.rest;
  so_far : are_components l.rest ≡ are_components (drop l.at l.rest);
}

abbrev pub decreases-components : goal.decreases-components
decreases-components l = length l.rest - l.at
