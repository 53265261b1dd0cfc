-- What stands between tokens: "whitespace-chunk" of `dhall.abnf`, with its comments, and the lines of "shebang".
use Rattle.std.specs.Prelude.{ℕ, zero, suc, pred, ◌+◌, ◌||◌, List, [], ◌∷◌, Option, Some, None, nat_lt, ◌==◌, if◌then◌else◌, drop}
use Rattle.std.specs.Str.{byte}
use Rattle.dh_syntax.specs.Text.Characters.{first, begins, tab, line_end_len}
use Rattle.dh_syntax.specs.Text.Stretches.{Character, Reads, Ends, Faults, stretch, itself, good_character}
use Rattle.dh_syntax.specs.Text.LexForms.{White, SkippedLine, Faulty, Unclosed, Form, form, stretching}

-- a space, a tab or an end-of-line
abbrev pub white_space : List ℕ → Option Form
white_space bs = form White (if first bs == byte " " || first bs == tab then 1 else line_end_len bs)

-- not-end-of-line, up to the end of the line
abbrev pub line_character : List ℕ → Character
line_character bs = if nat_lt 0 (line_end_len bs) then Ends else if first bs == tab then itself bs else good_character bs

-- line-comment, without the end of its line
abbrev pub line_comment : List ℕ → Option Form
line_comment bs = if begins "--" bs then stretching (λ text. White) 2 (stretch line_character 0 (drop 2 bs)) else None

-- what stands at a place of a block comment
pub data CommentPart : Type 0 where
  -- `{-`, `-}`
  Opens : CommentPart
  Closes : CommentPart
  -- block-comment-char, of so many bytes
  Passes : ℕ → CommentPart
  Stops : CommentPart

-- a character as a part of a comment
abbrev pub comment_character : Character → CommentPart
comment_character (Reads text n) = Passes n
comment_character Ends = Stops
comment_character Faults = Stops

-- the part at the front: the marks come before the characters
abbrev pub comment_part : List ℕ → CommentPart
comment_part bs =
    if begins "{-" bs then Opens
    else if begins "-}" bs then Closes
    else if nat_lt 0 (line_end_len bs) then Passes (line_end_len bs)
    else if first bs == tab then Passes 1
    else comment_character (good_character bs)

-- a whole comment, by how many bytes it takes from the place on
pub data Comment : Type 0 where
  ClosedAfter : ℕ → Comment
  FaultyAfter : ℕ → Comment
  NotClosed : Comment

-- a comment with one more byte before it
abbrev pub one_further : Comment → Comment
one_further (ClosedAfter n) = ClosedAfter (suc n)
one_further (FaultyAfter n) = FaultyAfter (suc n)
one_further NotClosed = NotClosed

-- a comment by its first part, and by what follows so many bytes after the first one with so many comments open
abbrev pub by_part : CommentPart → ℕ → (ℕ → ℕ → Comment) → Comment
by_part Opens inner rest = one_further (rest (suc inner) 1)
by_part Closes zero rest = ClosedAfter 2
by_part Closes (suc inner) rest = one_further (rest inner 1)
by_part (Passes n) inner rest = one_further (rest inner (pred n))
by_part Stops inner rest = FaultyAfter 0

-- block-comment-continue, from so many bytes on and with so many comments open within the outermost one
abbrev pub comment : ℕ → ℕ → List ℕ → Comment
comment inner skip [] = NotClosed
comment inner (suc skip) (b ∷ bs) = one_further (comment inner skip bs)
comment inner zero (b ∷ bs) = by_part (comment_part (b ∷ bs)) inner (λ m n. comment m n bs)

-- the form of a comment, by what follows its `{-`
abbrev pub comment_form : Comment → Option Form
comment_form (ClosedAfter n) = form White (2 + n)
comment_form (FaultyAfter n) = form (Faulty (2 + n)) (3 + n)
comment_form NotClosed = form Unclosed 2

-- block-comment
abbrev pub block_comment : List ℕ → Option Form
block_comment bs = if begins "{-" bs then comment_form (comment 0 0 (drop 2 bs)) else None

-- a form with the end-of-line that follows it
abbrev pub with_line_end : Option Form → List ℕ → Option Form
with_line_end None bs = None
with_line_end (Some f) bs = Some (record f { len = f.len + line_end_len (drop f.len bs) })

-- a line of shebang
abbrev pub skipped_line : List ℕ → Option Form
skipped_line bs =
    if begins "#!" bs then with_line_end (stretching (λ text. SkippedLine) 2 (stretch line_character 0 (drop 2 bs))) bs
    else None
