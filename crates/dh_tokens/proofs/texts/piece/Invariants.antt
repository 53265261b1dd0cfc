use Rattle.std.proofs.Common.{◌-◌, length}
use Rattle.std.specs.String.{string_bytes}
use Rattle.dh_tokens.proofs.TextSteps.{ReadTo}
use Rattle.dh_tokens.proofs.texts.piece.Given as goal

abbrev pub invariant-places : goal.invariant-places
invariant-places l = ReadTo l.form l.rest (string_bytes l.text) l.n

abbrev pub decreases-places : goal.decreases-places
decreases-places l = length l.rest - l.n
