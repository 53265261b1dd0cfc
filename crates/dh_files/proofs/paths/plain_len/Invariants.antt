use Rattle.std.proofs.Common.{◌≡◌, ◌+◌, drop}
use Rattle.std.specs.List.{prefix_len}
use Rattle.dh_syntax.specs.Imports.Locations.{is_path_character}
use Rattle.dh_files.proofs.paths.plain_len.Given as goal

abbrev pub invariant-loop-b : goal.invariant-loop-b
invariant-loop-b l = (l.n ≡ l.b-index) × (prefix_len is_path_character l.rest ≡ l.n + prefix_len is_path_character (drop l.n l.rest))
