-- What the readers of escapes answer.
use Rattle.std.specs.Prelude.{◌≡◌, ℕ, ◌+◌, not, ◌&&◌, true, false, List, Option, Some, None, Result, Err, encode_utf8}
use Rattle.std.specs.Str.{IsCharBoundary}
use Rattle.dh_syntax.specs.Text.Characters.{is_scalar, is_noncharacter}
use Rattle.dh_syntax.specs.Text.Stretches.{Character, Reads, Faults}
use Rattle.dh_literals.specs.declared.faults.LitFault.{LitFault}
use Rattle.dh_literals.specs.declared.faults.LitFault.TheVariants.{BadEscape, Memory}

-- what a fault says of a text that is read so: a bad escape says where it stands, and want of memory says nothing
abbrev pub IsFault : Result (List ℕ) ℕ → LitFault → Type 0
IsFault read (BadEscape at) = read ≡ Err at
IsFault read Memory = Unit {0}

-- the character that has this number, where it is a scalar value and no non-character
abbrev pub IsNamed : ℕ → Option ℕ → Type 0
IsNamed n None = (is_scalar n && not (is_noncharacter n)) ≡ false
IsNamed n (Some c) = ((is_scalar n && not (is_noncharacter n)) ≡ true) × (c ≡ n)

-- what stands at the front of a text, given as a character and the number of bytes that it takes of the text; so many
-- bytes of it stand before the text
abbrev pub IsRead : Character → ℕ → List ℕ → Option (ℕ × ℕ) → Type 0
IsRead at before bs None = at ≡ Faults
IsRead at before bs (Some e) = (at ≡ Reads (encode_utf8 e.0) (before + e.1)) × IsCharBoundary bs e.1
