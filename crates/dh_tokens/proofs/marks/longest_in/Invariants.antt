use Rattle.std.proofs.Common.{◌≡◌, ◌<◌, ◌≤◌, length, drop, IfSome}
use Rattle.dh_tokens.specs.Inside.Forms.{joined}
use Rattle.dh_tokens.specs.Inside.Marks.{best_of, longest_of}
use Rattle.dh_tokens.proofs.marks.longest_in.Given as goal

abbrev pub invariant-loop-spelling : goal.invariant-loop-spelling
invariant-loop-spelling l = record {
  within : IfSome l.best (λ m. (0 < m.1) × (m.1 ≤ length l.rest));
  so_far : longest_of l.rest l.table ≡ joined (best_of l.best) (longest_of l.rest (drop l.spelling-index l.table));
}
