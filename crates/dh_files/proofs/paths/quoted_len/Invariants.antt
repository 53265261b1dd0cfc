use Rattle.std.proofs.Common.{◌≡◌, ◌+◌, drop}
use Rattle.std.specs.List.{prefix_len}
use Rattle.dh_syntax.specs.Text.Characters.{is_quoted_path_byte}
use Rattle.dh_files.proofs.paths.quoted_len.Given as goal

abbrev pub invariant-loop-b : goal.invariant-loop-b
invariant-loop-b l = (l.n ≡ l.b-index) × (prefix_len is_quoted_path_byte l.rest ≡ l.n + prefix_len is_quoted_path_byte (drop l.n l.rest))
