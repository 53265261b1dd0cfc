use Rattle.std.proofs.Common.{length}
use denote.Text.{Utf8}
use denote.Shadow.{shadow}
use Rattle.std.specs.String.{string_bytes}
use Rattle.dh_literals.proofs.Unescaping.{ReadUpTo}
use Rattle.dh_literals.proofs.escapes.unescape.Given as goal

abbrev pub invariant-loop-plain : goal.invariant-loop-plain
invariant-loop-plain l = shadow (Utf8 l.rest) × ReadUpTo l.inner (string_bytes l.text) l.rest

abbrev pub decreases-loop-plain : goal.decreases-loop-plain
decreases-loop-plain l = length l.rest
