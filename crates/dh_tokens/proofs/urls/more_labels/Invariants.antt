use Rattle.std.proofs.Common.{◌≡◌, ◌≤◌, ◌+◌, ◌-◌, length, take, drop}
use Rattle.std.specs.Str.{IsAscii}
use Rattle.dh_syntax.specs.Text.LexLocations.{more_labels}
use Rattle.dh_tokens.proofs.urls.more_labels.Given as goal

abbrev pub invariant-dots : goal.invariant-dots
invariant-dots l = record {
  within : l.at ≤ length l.rest;
  ascii : IsAscii (take l.at l.rest);
  so_far : more_labels 0 l.rest ≡ l.at + more_labels 0 (drop l.at l.rest);
}

abbrev pub decreases-dots : goal.decreases-dots
decreases-dots l = length l.rest - l.at
