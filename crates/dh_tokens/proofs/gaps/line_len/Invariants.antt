use Rattle.std.proofs.Common.{◌≡◌, ◌≤◌, ◌-◌, length, drop}
use Rattle.dh_syntax.specs.Text.LexGaps.{line_character}
use Rattle.dh_syntax.specs.Text.Stretches.{stretch}
use Rattle.dh_tokens.specs.Inside.Gaps.{extent}
use Rattle.dh_tokens.proofs.GapSteps.{behind}
use Rattle.dh_tokens.proofs.gaps.line_len.Given as goal

abbrev pub invariant-loop-n : goal.invariant-loop-n
invariant-loop-n l = record {
  within : l.n ≤ length l.rest;
  so_far : extent (stretch line_character 0 l.rest) ≡ behind l.n (extent (stretch line_character 0 (drop l.n l.rest)));
}

abbrev pub decreases-loop-n : goal.decreases-loop-n
decreases-loop-n l = length l.rest - l.n
