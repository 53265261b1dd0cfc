-- What stands at a place of a piece of a text literal, as the definition has it.
use Rattle.std.specs.Prelude.{◌≡◌, ℕ, ◌<◌, ◌≤◌, Bool, not, ◌&&◌, ◌==◌, List, encode_utf8}
use Rattle.std.specs.List.{prefix_len}
use Rattle.std.specs.Str.{IsCharBoundary, byte}
use Rattle.dh_syntax.specs.declared.tokens.TextForm.{TextForm}
use Rattle.dh_syntax.specs.declared.tokens.TokenKind.TheVariants as kinds
use Rattle.dh_syntax.specs.Text.Characters.{is_printable}
use Rattle.dh_syntax.specs.Text.LexForms.{Found, Is}
use Rattle.dh_syntax.specs.Text.LexTexts.{piece_character}
use Rattle.dh_syntax.specs.Text.Stretches.{Character, Reads, Ends, Faults}
use Rattle.dh_tokens.specs.declared.texts.Next.{Next}
use Rattle.dh_tokens.specs.declared.texts.Next.TheVariants as next

-- a piece that stands for this text
abbrev pub found_piece : List ℕ → Found
found_piece text = Is (kinds.TextPiece text)

-- a byte that stands for itself in both forms of literals, whatever follows it
abbrev pub is_plain : ℕ → Bool
is_plain b = is_printable b && not (b == byte "\"") && not (b == byte "$") && not (b == byte "'") && not (b == byte "\\")

-- a character of the definition that takes some bytes of these, up to where another one begins
abbrev pub TakesSome : ℕ → List ℕ → Type 0
TakesSome n bs = (0 < n) × IsCharBoundary bs n

-- an answer of the program as a character of the definition; that bytes are plain says nothing of a character
abbrev pub IsCharacter : Character → Next → List ℕ → Type 0
IsCharacter at (next.Plain n) bs = ⊥
IsCharacter at (next.Text text n) bs = (at ≡ Reads text.now n) × TakesSome n bs
IsCharacter at (next.Escape c n) bs = (at ≡ Reads (encode_utf8 c) n) × TakesSome n bs
IsCharacter at next.Ends bs = at ≡ Ends
IsCharacter at next.Faults bs = at ≡ Faults

-- the same, where several plain bytes may be taken at once
abbrev pub IsNext : TextForm → Next → List ℕ → Type 0
IsNext form (next.Plain n) bs = (0 < n) × (n ≤ prefix_len is_plain bs)
IsNext form (next.Text text n) bs = IsCharacter (piece_character form bs) (next.Text text n) bs
IsNext form (next.Escape c n) bs = IsCharacter (piece_character form bs) (next.Escape c n) bs
IsNext form next.Ends bs = IsCharacter (piece_character form bs) next.Ends bs
IsNext form next.Faults bs = IsCharacter (piece_character form bs) next.Faults bs
