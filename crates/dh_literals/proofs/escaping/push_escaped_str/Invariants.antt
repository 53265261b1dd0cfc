use Rattle.std.proofs.Common.{◌≡◌, ◌++◌, length, string_bytes}
use denote.Text.{Utf8}
use denote.Shadow.{shadow}
use Rattle.dh_syntax.specs.Text.Literals.{escape}
use Rattle.dh_literals.proofs.escaping.push_escaped_str.Given as goal

abbrev pub invariant-loop-at : goal.invariant-loop-at
invariant-loop-at l = shadow (Utf8 l.rest) × (string_bytes l.text ++ escape l.rest ≡ string_bytes l.fn.text ++ escape l.plain)

abbrev pub decreases-loop-at : goal.decreases-loop-at
decreases-loop-at l = length l.rest
