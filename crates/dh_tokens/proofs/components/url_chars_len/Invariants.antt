use Rattle.std.proofs.Common.{◌≡◌, ◌≤◌, ◌+◌, ◌-◌, length, take, drop}
use Rattle.std.specs.Str.{IsAscii}
use Rattle.dh_syntax.specs.Text.LexLocations.{url_chars_len}
use Rattle.dh_tokens.specs.Inside.Components.{is_url_byte}
use Rattle.dh_tokens.proofs.components.url_chars_len.Given as goal

abbrev pub invariant-loop-at : goal.invariant-loop-at
invariant-loop-at l = record {
  within : l.at ≤ length l.rest;
  ascii : IsAscii (take l.at l.rest);
  so_far : url_chars_len (is_url_byte l.in_query) 0 l.rest ≡ l.at + url_chars_len (is_url_byte l.in_query) 0 (drop l.at l.rest);
}

abbrev pub decreases-loop-at : goal.decreases-loop-at
decreases-loop-at l = length l.rest - l.at
