use Rattle.std.proofs.Common.{◌≡◌, ◌+◌, drop}
use Rattle.std.specs.List.{prefix_len}
use Rattle.dh_tokens.specs.Inside.SmallForms.{is_blank}
use Rattle.dh_tokens.proofs.reading.blank_len.Given as goal

abbrev pub invariant-loop-b : goal.invariant-loop-b
invariant-loop-b l = (l.n ≡ l.b-index) × (prefix_len is_blank l.rest ≡ l.n + prefix_len is_blank (drop l.n l.rest))
