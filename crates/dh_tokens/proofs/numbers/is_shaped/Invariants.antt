use Rattle.std.proofs.Common.{◌≡◌, drop}
use Rattle.dh_syntax.specs.Text.LexNumbers.{is_shaped}
use Rattle.dh_tokens.proofs.numbers.is_shaped.Given as goal

abbrev pub invariant-loop-i : goal.invariant-loop-i
invariant-loop-i l = is_shaped l.shape l.rest ≡ is_shaped (drop l.i l.shape) (drop l.i l.rest)
