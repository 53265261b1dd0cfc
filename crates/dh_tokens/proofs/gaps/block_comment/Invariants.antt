use Rattle.std.proofs.Common.{◌≡◌, ◌≤◌, ◌-◌, length, drop}
use Rattle.dh_syntax.specs.Text.LexGaps.{comment}
use Rattle.dh_syntax.proofs.LexingLaws.{after_bytes}
use Rattle.dh_tokens.proofs.gaps.block_comment.Given as goal

abbrev pub invariant-loop-n : goal.invariant-loop-n
invariant-loop-n l = record {
  begun : 2 ≤ l.n;
  within : l.n ≤ length l.rest;
  shallow : l.inner ≤ l.n;
  so_far : comment 0 0 (drop 2 l.rest) ≡ after_bytes (l.n - 2) (comment l.inner 0 (drop l.n l.rest));
}

abbrev pub decreases-loop-n : goal.decreases-loop-n
decreases-loop-n l = length l.rest - l.n
