-- What the readers of comments answer.
use Rattle.std.specs.Prelude.{ℕ, ◌<◌, Result, Ok, Err}
use Rattle.dh_syntax.specs.Text.LexGaps as gaps
use Rattle.dh_syntax.specs.Text.Stretches.{Stretch, UpTo, FaultAt}
use Rattle.dh_tokens.specs.declared.gaps.Part.{Part}
use Rattle.dh_tokens.specs.declared.gaps.Part.TheVariants as parts

-- how many bytes a stretch takes, or how many stand before its fault
abbrev pub extent : Stretch → Result ℕ ℕ
extent (UpTo text n) = Ok n
extent (FaultAt n) = Err n

-- a part of a comment of the program, as the definitions have it
abbrev pub part_of : Part → gaps.CommentPart
part_of parts.Opens = gaps.Opens
part_of parts.Closes = gaps.Closes
part_of (parts.Passes n) = gaps.Passes n
part_of parts.Stops = gaps.Stops

-- what passes takes some bytes
abbrev pub IsForward : Part → Type 0
IsForward parts.Opens = Unit {0}
IsForward parts.Closes = Unit {0}
IsForward (parts.Passes n) = 0 < n
IsForward parts.Stops = Unit {0}
