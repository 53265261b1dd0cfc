use Rattle.std.proofs.Common.{◌≡◌, ◌≤◌, ◌-◌, length, drop}
use Rattle.dh_syntax.specs.Text.LexLocations.{components}
use Rattle.dh_tokens.specs.Inside.Components.{component_in}
use Rattle.dh_tokens.proofs.ComponentLaws.{before}
use Rattle.dh_tokens.proofs.components.components.Given as goal

abbrev pub invariant-slashes : goal.invariant-slashes
invariant-slashes l = record {
  within : l.at ≤ length l.rest;
  so_far : components (component_in l.kind) 0 l.rest ≡ before l.texts l.at (components (component_in l.kind) 0 (drop l.at l.rest));
}

abbrev pub decreases-slashes : goal.decreases-slashes
decreases-slashes l = length l.rest - l.at
